use Rattle.settling.proofs.Trees.{Hopped}
use Rattle.settling.proofs.tree_hops.Given as goal

abbrev pub invariant-loop-router : goal.invariant-loop-router
invariant-loop-router l = Hopped l.fathers l.root l.router-items l.hops l.router-index
