use Rattle.std.proofs.Common.{length}
use Rattle.linkfile.specs.Reading.{stands, left}
use Rattle.area.specs.Meaning.{area_of}
use Rattle.area.proofs.Loading.{Loading}
use Rattle.area.proofs.area.Area.load_directions.Given as goal

abbrev pub invariant-loop-direction : goal.invariant-loop-direction
invariant-loop-direction g l =
    Loading g.C.Cost.costs (area_of g.T.LinkTable l.initial.self) (stands l.initial.reader) (area_of g.T.LinkTable l.self) (stands l.reader)

abbrev pub decreases-loop-direction : goal.decreases-loop-direction
decreases-loop-direction g l = length (left (stands l.reader))
