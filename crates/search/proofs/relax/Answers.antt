use Rattle.std.proofs.Common.{Some, sym, ap, ◌∙◌, arith}
use Rattle.routes.specs.Leasts.{joined}
use Rattle.squares.proofs.Joins.{can_join}
use Rattle.squares.specs.Meaning.{network_of}
use Rattle.search.proofs.Rounds.{round_first, round_more, round_last}
use Rattle.search.proofs.relax.Goals as goal

pub further-way-requires : goal.further-way-requires
further-way-requires g c =
    let sound = g.met.L.LinkCosts.sound c.args.links.now in
    λ l e. can_join g.C.Cost.costs sound.lawful c.args.cost l c.requires.short (sound.costs c.args.from c.loop-to.to l (sym c.link.ensures ∙ e))

pub offer-known-requires : goal.offer-known-requires
offer-known-requires g c =
    let sound = g.met.L.LinkCosts.sound c.args.links.now in
    record {
      places = (omega arith, omega (arith, sound.few));
      room = omega (arith, c.loop-to.invariant.len, c.loop-to.invariant.size);
    }

pub loop-to-init : goal.loop-to-init
loop-to-init g c =
    round_first (network_of g.C.Cost.costs g.L.LinkCosts c.args.links.now) (g.met.L.LinkCosts.sound c.args.links.now) c.args.from c.args.cost c.args.best.now c.args.known c.args.list.now

pub loop-to-preserved : goal.loop-to-preserved
loop-to-preserved g c =
    round_more (network_of g.C.Cost.costs g.L.LinkCosts c.args.links.now) (g.met.L.LinkCosts.sound c.args.links.now) c.args.from c.args.cost c.args.best.now c.args.known c.args.list.now
    c.loop-to.best c.loop-to.known c.loop-to.list c.loop-to.to c.further-way.result c.offer-known.new.best c.offer-known.result c.offer-known.new.list c.loop-to.invariant
    (c.further-way.ensures ∙ ap (joined g.C.Cost.costs (Some c.args.cost)) c.link.ensures) c.offer-known.ensures

pub returns : goal.returns
returns g c =
    round_last (network_of g.C.Cost.costs g.L.LinkCosts c.args.links.now) (g.met.L.LinkCosts.sound c.args.links.now) c.args.from c.args.cost c.args.best.now c.args.known c.args.list.now
    c.loop-to.best c.loop-to.known c.loop-to.list c.loop-to.to (omega (arith, c.count-to-end.ensures)) c.loop-to.invariant
