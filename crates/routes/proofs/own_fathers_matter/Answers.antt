use Rattle.routes.proofs.Theorems.{own_fathers_matter_lem}
use Rattle.routes.proofs.own_fathers_matter.Goals as goal

pub returns : goal.returns
returns g c = own_fathers_matter_lem _
