use Rattle.std.proofs.Common.{◌≡◌, ◌+◌, ◌≤◌, length}
use Rattle.linkfile.specs.Reading.{stands, left}
use Rattle.directions.specs.Files.{list_all}
use Rattle.summary.proofs.whole.count_directions.Given as goal

-- what was counted and what is left make up the whole
abbrev pub invariant-loop-many : goal.invariant-loop-many
invariant-loop-many l =
    (l.many + length (list_all (stands l.reader)).directions ≡ length (list_all (stands l.initial.reader)).directions)
    × ((list_all (stands l.reader)).ended ≡ (list_all (stands l.initial.reader)).ended)
    × (l.many + length (left (stands l.reader)) ≤ length (left (stands l.initial.reader)))

abbrev pub decreases-loop-many : goal.decreases-loop-many
decreases-loop-many l = length (left (stands l.reader))
