use Rattle.std.proofs.Common.{◌≡◌}
use Rattle.masks.specs.Sets.{mask}
use Rattle.page_settling.specs.Hops.{is_nearer}
use Rattle.page_settling.proofs.nearer.Given as goal

abbrev pub invariant-loop-d : goal.invariant-loop-d
invariant-loop-d g l = l.set ≡ mask l.d (is_nearer g.C.Cost.costs l.row.costs.now l.row.reached l.best l.known)
