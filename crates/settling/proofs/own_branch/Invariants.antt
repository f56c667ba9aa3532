use Rattle.squares.specs.Meaning.{network_of}
use Rattle.settling.specs.Costs.{costs_of, SameMemory}
use Rattle.settling.proofs.Falls.{Fallen}
use Rattle.settling.proofs.own_branch.Given as goal

abbrev pub invariant-loop-router : goal.invariant-loop-router
invariant-loop-router g l =
    SameMemory l.fn.row l.row
    × Fallen (network_of g.C.Cost.costs g.L.LinkCosts l.links) l.tree.root l.neighbour l.router-items (costs_of g.C.Cost.costs l.row) l.router-index
