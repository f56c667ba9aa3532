use Rattle.std.proofs.Common.{sym, arith, below_more}
use Rattle.squares.specs.Meaning.{network_of}
use Rattle.squares.specs.Known.{costs_in}
use Rattle.settling.specs.Trees.{passes}
use Rattle.settling.proofs.Trees.{lowest_at, lowest_none}
use Rattle.settling.proofs.father_of.Goals as goal

pub returns-then-comes_by : goal.returns-then-comes_by
returns-then-comes_by g c =
    let rule = g.C.Cost.costs in
    sym (lowest_at (g.L.LinkCosts.routers c.args.links.now) (passes (network_of rule g.L.LinkCosts c.args.links.now) (costs_in rule c.args.best.now c.args.known) c.args.router)
    c.loop-from.from (omega arith) (sym c.if-comes_by.ensures) c.loop-from.invariant)

pub loop-from-preserved : goal.loop-from-preserved
loop-from-preserved g c = below_more _ _ c.loop-from.invariant (sym c.if-comes_by.ensures)

pub returns : goal.returns
returns g c =
    let rule = g.C.Cost.costs in
    sym (lowest_none (g.L.LinkCosts.routers c.args.links.now) (passes (network_of rule g.L.LinkCosts c.args.links.now) (costs_in rule c.args.best.now c.args.known) c.args.router)
    (λ y l. c.loop-from.invariant y (omega arith)))
