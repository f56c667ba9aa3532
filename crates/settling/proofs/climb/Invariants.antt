use Rattle.squares.specs.Meaning.{network_of}
use Rattle.squares.specs.Sequences.{items}
use Rattle.settling.specs.Costs.{costs_of, SameMemory}
use Rattle.settling.proofs.Climbs.{ClimbingOn}
use Rattle.settling.proofs.climb.Given as goal

abbrev pub invariant-loop-router : goal.invariant-loop-router
invariant-loop-router g l =
    SameMemory l.initial.row l.row
    × ClimbingOn (network_of g.C.Cost.costs g.L.LinkCosts l.links) l.tree.root l.neighbour (items l.tree.found.order) (costs_of g.C.Cost.costs l.row) l.router-iterator.iter.rest.now
