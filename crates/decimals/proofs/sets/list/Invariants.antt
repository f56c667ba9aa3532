use Rattle.std.proofs.Common.{◌≡◌, ◌*◌, ◌≤◌, length}
use Rattle.masks.specs.Sets.{members}
use Rattle.decimals.specs.Lists.{listed}
use Rattle.decimals.proofs.sets.list.Given as goal

abbrev pub invariant-loop-v : goal.invariant-loop-v
invariant-loop-v l = (l.text.bytes ≡ listed (members l.mask l.v)) × (length l.text.bytes ≤ 3 * l.v)
