use Rattle.std.proofs.Common.{sym, refl, ap, ◌∙◌, ap₂, arith}
use Rattle.routes.specs.Leasts.{joined}
use Rattle.squares.specs.Meaning.{network_of}
use Rattle.squares.specs.Known.{with_offer}
use Rattle.settling.specs.Costs.{costs_of}
use Rattle.settling.specs.Rows.{to_father}
use Rattle.settling.proofs.Memory.{same_row}
use Rattle.settling.proofs.Climbs.{up_to_root, up_to_father}
use Rattle.settling.proofs.Offers.{closed}
use Rattle.settling.proofs.climb_from.Goals as goal

pub offer-requires : goal.offer-requires
offer-requires g c =
    let sound = g.met.L.LinkCosts.sound c.args.links.now in
    let inside = (c.requires.father c.in-Some.p c.in-Some.is).0 in
    (omega (arith, inside, c.requires.inside.1), omega (arith, inside, sound.few))

pub returns-in_default : goal.returns-in_default
returns-in_default g c =
    let rule = g.C.Cost.costs in
    let f = costs_of rule c.args.row.now in
    let N = network_of rule g.L.LinkCosts c.args.links.now in
    record {
      costs = λ d. closed rule c.args.row.now.costs.now c.args.row.now.reached c.args.from _ (joined rule (f c.args.from) (N.link c.args.from d)) d refl
          ∙ sym (ap (λ o. to_father N c.args.tree.now.root o f c.args.from d) c.in_default.is);
      memory = same_row;
    }

pub returns-then-p-tree : goal.returns-then-p-tree
returns-then-p-tree g c =
    let rule = g.C.Cost.costs in
    let f = costs_of rule c.args.row.now in
    let N = network_of rule g.L.LinkCosts c.args.links.now in
    record {
      costs = λ d. up_to_root N c.args.tree.now.root c.args.row.now.costs.now c.args.row.now.reached c.args.from c.in-Some.p d c.if-p-tree.true
          ∙ sym (ap (λ o. to_father N c.args.tree.now.root o f c.args.from d) c.in-Some.is);
      memory = same_row;
    }

pub returns : goal.returns
returns g c =
    let rule = g.C.Cost.costs in
    let f = costs_of rule c.args.row.now in
    let N = network_of rule g.L.LinkCosts c.args.links.now in
    record {
      costs = λ d. c.offer.ensures.costs d
          ∙ ap (λ o. with_offer rule f c.in-Some.p o d) (c.onward-way.ensures ∙ ap₂ (joined rule) c.get.ensures c.link.ensures)
          ∙ up_to_father N c.args.tree.now.root c.args.row.now.costs.now c.args.row.now.reached c.args.from c.in-Some.p d c.if-p-tree.false
          ∙ sym (ap (λ o. to_father N c.args.tree.now.root o f c.args.from d) c.in-Some.is);
      memory = c.offer.ensures.memory;
    }
