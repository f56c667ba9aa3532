use Rattle.std.proofs.Common.{◌≡◌, ℕ, ◌<◌, length, None, slice_index_or}
use Rattle.settling_tests.proofs.net_k.read_all.Given as goal

abbrev pub invariant-loop-i : goal.invariant-loop-i
invariant-loop-i g l = (length l.costs ≡ 25) × ((k : ℕ) → k < l.i → (n : ℕ) × (g.C.Cost.costs.read n ≡ slice_index_or l.costs k None))
