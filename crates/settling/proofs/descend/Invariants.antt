use Rattle.std.proofs.Common.{◌≡◌, ℕ, ◌≤◌}
use Rattle.squares.specs.Meaning.{network_of}
use Rattle.settling.specs.Costs.{costs_of, SameMemory}
use Rattle.settling.proofs.Rows.{Descended}
use Rattle.settling.proofs.descend.Given as goal

abbrev pub invariant-loop-router : goal.invariant-loop-router
invariant-loop-router g l =
    SameMemory l.initial.row l.row
    × Descended (network_of g.C.Cost.costs g.L.LinkCosts l.links) l.tree.root l.neighbour l.router-items (costs_of g.C.Cost.costs l.row) l.router-index
    × ((d : ℕ) → g.L.LinkCosts.routers l.links ≤ d → costs_of g.C.Cost.costs l.row d ≡ costs_of g.C.Cost.costs l.initial.row d)
