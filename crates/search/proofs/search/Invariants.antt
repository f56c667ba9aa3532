use Rattle.std.proofs.Common.{◌≡◌, ◌+◌, drop}
use Rattle.squares.specs.Meaning.{network_of}
use Rattle.search.proofs.Loops.{Running, left}
use Rattle.search.proofs.search.Given as goal

abbrev pub invariant-loop-entry : goal.invariant-loop-entry
invariant-loop-entry g l =
    let N = network_of g.C.Cost.costs g.L.LinkCosts l.links in
    Running N l.root l.best l.known l.done l.list × (drop N.count l.best ≡ drop N.count l.initial.best)

abbrev pub decreases-loop-entry : goal.decreases-loop-entry
decreases-loop-entry g l = l.list.len + left (g.L.LinkCosts.routers l.links) l.done.known
