use Rattle.area.specs.Meaning.{area_of}
use Rattle.runs.proofs.Theorems.{law, walks_arrive}
use Rattle.runs.proofs.law_over_runs.Goals as goal

pub returns : goal.returns
returns g c =
    record {
      law = law g.C.Cost.costs g.met.C.Cost.lawful (area_of g.T.LinkTable) (λ x. g.T.LinkTable.laws x.table.below);
      arrival = walks_arrive g.C.Cost.costs g.met.C.Cost.lawful (area_of g.T.LinkTable) (λ x. g.T.LinkTable.laws x.table.below);
    }
