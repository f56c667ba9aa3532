use Rattle.squares.specs.Meaning.{network_of}
use Rattle.settling.specs.Costs.{SameMemory}
use Rattle.settling.proofs.Crossings.{Begun}
use Rattle.settling.proofs.starts.all_starts.Given as goal

abbrev pub invariant-loop-from : goal.invariant-loop-from
invariant-loop-from g l = Begun (network_of g.C.Cost.costs g.L.LinkCosts l.links) l.tree.root l.neighbour l.row.costs.now l.below l.row.reached l.from
    × SameMemory l.fn.row l.row
