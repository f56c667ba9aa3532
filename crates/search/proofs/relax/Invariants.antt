use Rattle.std.proofs.Common.{cond, ltb}
use Rattle.routes.specs.Settling.{relaxed_by}
use Rattle.squares.specs.Known.{costs_in}
use Rattle.squares.specs.Meaning.{network_of}
use Rattle.search.specs.Steps.{Step}
use Rattle.search.proofs.relax.Given as goal

-- the routers below `to` are relaxed
abbrev pub invariant-loop-to : goal.invariant-loop-to
invariant-loop-to g l =
    let rule = g.C.Cost.costs in
    let f = costs_in rule l.initial.best l.initial.known in
    Step rule (λ d. cond (ltb d l.to) (relaxed_by (network_of rule g.L.LinkCosts l.links) f l.from l.cost d) (f d)) l.to l.to
    l.initial.best l.initial.known l.initial.list l.best l.known l.list
