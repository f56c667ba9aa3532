use Rattle.std.proofs.Common.{◌≡◌, ◌+◌, ◌-◌, ◌<◌, length, take}
use Rattle.masks.specs.Sets.{members}
use Rattle.pagetable.specs.Walks.{valid_sets}
use Rattle.pagetable.proofs.WalkLaws.{Walking}
use Rattle.pagetable.proofs.table.PageTable.walk.Given as goal

abbrev pub invariant-loop-v : goal.invariant-loop-v
invariant-loop-v l = l.rank + length (members l.set l.v) ≡ l.initial.rank

abbrev pub invariant-loop-i : goal.invariant-loop-i
invariant-loop-i l =
    Walking (valid_sets l.self l.to) l.to l.from (take (l.count - 1) l.picks) l.initial.trail l.trail l.here l.i
    × (l.here < 32)
    × (l.i < l.count)

abbrev pub invariant-walk : goal.invariant-walk
invariant-walk l = (l.here ≡ l.from) × (l.trail ≡ l.initial.trail)

abbrev pub decreases-walk : goal.decreases-walk
decreases-walk l = 0
