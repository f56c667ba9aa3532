use Rattle.std.proofs.Common.{get_or, None, sym, refl, ap, ◌∙◌, subst, ap₂, arith}
use Rattle.routes.specs.Tree.{lowest_father}
use Rattle.squares.proofs.Joins.{can_join}
use Rattle.squares.specs.Meaning.{network_of}
use Rattle.squares.specs.Found.{NearestFirst}
use Rattle.squares.specs.Known.{costs_in, with_offer}
use Rattle.settling.specs.Costs.{costs_of}
use Rattle.settling.specs.Rows.{own_cost}
use Rattle.settling.proofs.Memory.{same_more}
use Rattle.settling.proofs.Orders.{at_table}
use Rattle.settling.proofs.Falls.{nothing_in, fallen_first, fallen_more, fallen_all, father_fallen, fall_short}
use Rattle.settling.proofs.Rows.{father_inside}
use Rattle.settling.proofs.own_branch.Goals as goal

pub loop-router-init : goal.loop-router-init
loop-router-init g c =
    let rule = g.C.Cost.costs in
    let N = network_of rule g.L.LinkCosts c.args.links.now in
    let sound = g.met.L.LinkCosts.sound c.args.links.now in
    (record { same_memory = refl; same_length = refl }, fallen_first N sound c.args.tree.now.root c.args.neighbour c.requires.linked c.as_slice-router-items.result.now (costs_in rule c.args.row.now.costs.now 0) (nothing_in rule c.args.row.now.costs.now))

pub own_cost-cost-requires : goal.own_cost-cost-requires
own_cost-cost-requires g c =
    let rule = g.C.Cost.costs in
    let laws = g.met.C.Cost.lawful in
    let N = network_of rule g.L.LinkCosts c.args.links.now in
    let sound = g.met.L.LinkCosts.sound c.args.links.now in
    let line = subst (NearestFirst N c.args.tree.now.root) (sym c.as_slice-router-items.ensures.value) c.requires.tree.order in
    let d = c.from-to.result in
    record {
      inside = (omega (arith, c.from-to.ensures, (line.reached c.loop-router.router-index (omega (arith, c.loop-router-test.true))).0), omega (arith, c.requires.places, c.loop-router.invariant.0.same_length));
      father = λ p e.
          let is = sym (at_table N sound c.args.tree.now.root d) ∙ ap (λ t. get_or t d None) (sym c.requires.tree.father) ∙ e in
          let there = father_fallen N sound c.args.tree.now.root c.args.neighbour c.requires.linked line c.loop-router.invariant.1 (omega (arith, c.loop-router-test.true)) p (ap (lowest_father N c.args.tree.now.root) (sym c.from-to.ensures) ∙ is) in (
            father_inside N sound c.args.tree.now.root c.args.neighbour d p is,
            λ a l ea el. can_join rule laws a l (fall_short N sound c.args.tree.now.root c.args.neighbour c.requires.linked p a (sym there ∙ ea))
                (sound.costs p d l el),
          );
    }

pub offer-requires : goal.offer-requires
offer-requires g c =
    let N = network_of g.C.Cost.costs g.L.LinkCosts c.args.links.now in
    let sound = g.met.L.LinkCosts.sound c.args.links.now in
    let line = subst (NearestFirst N c.args.tree.now.root) (sym c.as_slice-router-items.ensures.value) c.requires.tree.order in
    let inside = (line.reached c.loop-router.router-index (omega (arith, c.loop-router-test.true))).0 in
    (omega (arith, c.from-to.ensures, inside, c.requires.places, c.loop-router.invariant.0.same_length), omega (arith, c.from-to.ensures, inside, sound.few))

pub loop-router-preserved : goal.loop-router-preserved
loop-router-preserved g c =
    let rule = g.C.Cost.costs in
    let N = network_of rule g.L.LinkCosts c.args.links.now in
    let sound = g.met.L.LinkCosts.sound c.args.links.now in
    let line = subst (NearestFirst N c.args.tree.now.root) (sym c.as_slice-router-items.ensures.value) c.requires.tree.order in
    let d = get_or c.as_slice-router-items.result.now c.loop-router.router-index 0 in
    let f = costs_of rule c.loop-router.row in (
      same_more c.loop-router.invariant.0 c.offer.ensures.memory,
      fallen_more N sound c.args.tree.now.root c.args.neighbour c.requires.linked line c.loop-router.invariant.1 (omega (arith, c.loop-router-test.true))
          (λ x. c.offer.ensures.costs x ∙ ap₂ (λ t o. with_offer rule f t o x) c.from-to.ensures
          (c.own_cost-cost.ensures ∙ ap (λ t. own_cost N c.args.neighbour (get_or c.args.tree.now.father t None) f t) c.from-to.ensures ∙ ap (λ o. own_cost N c.args.neighbour o f d) (ap (λ t. get_or t d None) c.requires.tree.father ∙ at_table N sound c.args.tree.now.root d))),
    )

pub returns : goal.returns
returns g c =
    let rule = g.C.Cost.costs in
    let N = network_of rule g.L.LinkCosts c.args.links.now in
    let sound = g.met.L.LinkCosts.sound c.args.links.now in
    let line = subst (NearestFirst N c.args.tree.now.root) (sym c.as_slice-router-items.ensures.value) c.requires.tree.order in
    record {
      costs = fallen_all N sound c.args.tree.now.root c.args.neighbour c.requires.linked line c.loop-router.invariant.1 (omega arith);
      memory = c.loop-router.invariant.0;
    }
