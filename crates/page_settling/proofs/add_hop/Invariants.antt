use Rattle.page_settling.specs.Hops.{set_with}
use Rattle.settling.proofs.Fills.{Filled}
use Rattle.page_settling.proofs.add_hop.Given as goal

abbrev pub invariant-loop-d : goal.invariant-loop-d
invariant-loop-d l = Filled (set_with l.count l.chosen l.hop l.fn.sets) 0 l.initial.set-items l.set-items l.d
