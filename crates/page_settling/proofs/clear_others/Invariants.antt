use Rattle.page_settling.specs.Hops.{cost_held}
use Rattle.settling.proofs.Fills.{Filled}
use Rattle.page_settling.proofs.clear_others.Given as goal

abbrev pub invariant-loop-d : goal.invariant-loop-d
invariant-loop-d g l = Filled (cost_held g.C.Cost.costs l.fn.row.costs.now l.fn.row.reached) g.C.Cost.costs.zero l.fn.row.costs.now l.cost-items l.d
