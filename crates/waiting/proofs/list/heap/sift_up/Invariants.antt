use Rattle.std.proofs.Common.{◌<◌}
use Rattle.waiting.specs.Heap.{Light}
use Rattle.waiting.specs.Waiting.{Stirred}
use Rattle.waiting.proofs.Depths.{depth}
use Rattle.waiting.proofs.list.heap.sift_up.Given as goal

abbrev pub invariant-loop-at : goal.invariant-loop-at
invariant-loop-at g l =
    (l.at < l.len)
    × Stirred l.len l.initial.entries l.entries
    × Light g.E.Ranked.before l.entries l.len l.at

-- the steps that lead to the top: at most the logarithm of the entries
abbrev pub decreases-loop-at : goal.decreases-loop-at
decreases-loop-at g l = depth l.at
