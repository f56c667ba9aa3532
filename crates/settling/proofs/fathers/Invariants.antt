use Rattle.std.proofs.Common.{None}
use Rattle.routes.specs.Tree.{lowest_father}
use Rattle.squares.specs.Meaning.{network_of}
use Rattle.settling.proofs.Fills.{Filled}
use Rattle.settling.proofs.fathers.Given as goal

abbrev pub invariant-loop-d : goal.invariant-loop-d
invariant-loop-d g l = Filled (lowest_father (network_of g.C.Cost.costs g.L.LinkCosts l.links) l.root) None l.initial.father-items l.father-items l.d
