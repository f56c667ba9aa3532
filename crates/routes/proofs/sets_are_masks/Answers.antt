use Rattle.routes.proofs.Theorems.{sets_are_masks_lem}
use Rattle.routes.proofs.sets_are_masks.Goals as goal

pub returns : goal.returns
returns g c = sets_are_masks_lem _
