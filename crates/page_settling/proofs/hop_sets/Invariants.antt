use Rattle.squares.specs.Meaning.{network_of}
use Rattle.page_settling.proofs.Turns.{Entered}
use Rattle.page_settling.proofs.hop_sets.Given as goal

abbrev pub invariant-loop-v : goal.invariant-loop-v
invariant-loop-v g l = Entered (network_of g.C.Cost.costs g.L.LinkCosts l.links) l.tree.root l.initial.rest l.rest l.candidates l.valid l.v
