use Rattle.std.proofs.Common.{◌≡◌, ℕ, false, get_or, None}
use Rattle.squares.specs.Meaning.{network_of}
use Rattle.settling.specs.Costs.{costs_of, SameMemory}
use Rattle.settling.specs.Rows.{other_hop, crossing}
use Rattle.settling.proofs.Crossings.{Crossed}
use Rattle.settling.proofs.starts.start_from.Given as goal

abbrev pub invariant-loop-to : goal.invariant-loop-to
invariant-loop-to g l =
    Crossed g.C.Cost.costs (costs_of g.C.Cost.costs l.initial.row)
    (λ y. crossing (network_of g.C.Cost.costs g.L.LinkCosts l.links) l.neighbour (get_or l.tree.hop y None) l.from l.cost y)
    (costs_of g.C.Cost.costs l.row) l.to
    × SameMemory l.initial.row l.row
    × ((k : ℕ) → other_hop l.neighbour (get_or l.tree.hop k None) ≡ false → get_or l.row.costs.now k g.C.Cost.costs.zero ≡ get_or l.initial.row.costs.now k g.C.Cost.costs.zero)
