use Rattle.std.proofs.Common.{◌≡◌, ℕ, eqb, ◌≢◌, get_or, None, sym, refl, ap, ◌∙◌, subst, ap₂, arith}
use Rattle.routes.specs.Tree.{lowest_father}
use Rattle.squares.proofs.Joins.{can_join}
use Rattle.squares.specs.Meaning.{network_of}
use Rattle.squares.specs.Found.{NearestFirst}
use Rattle.squares.specs.Known.{with_offer}
use Rattle.std.proofs.lemmas.Bool.{cond-false, ne_eqb}
use Rattle.settling.specs.Costs.{costs_of}
use Rattle.settling.specs.Rows.{by_father}
use Rattle.settling.proofs.Memory.{same_row, same_more}
use Rattle.settling.proofs.Orders.{at_table}
use Rattle.settling.proofs.Rows.{descended_first, descended_more, descended_all, father_done, father_inside, rest_short}
use Rattle.settling.proofs.descend.Goals as goal

pub loop-router-init : goal.loop-router-init
loop-router-init g c =
    let rule = g.C.Cost.costs in
    let N = network_of rule g.L.LinkCosts c.args.links.now in
    let sound = g.met.L.LinkCosts.sound c.args.links.now in
    (same_row, descended_first N sound c.args.tree.now.root c.args.neighbour c.as_slice-router-items.result.now (costs_of rule c.args.row.now) c.requires.climbs, λ d _. refl)

pub way_down-way-requires : goal.way_down-way-requires
way_down-way-requires g c =
    let rule = g.C.Cost.costs in
    let laws = g.met.C.Cost.lawful in
    let N = network_of rule g.L.LinkCosts c.args.links.now in
    let sound = g.met.L.LinkCosts.sound c.args.links.now in
    let line = subst (NearestFirst N c.args.tree.now.root) (sym c.as_slice-router-items.ensures.value) c.requires.tree.order in
    let d = c.from-to.result in
    record {
      inside = (omega (arith, c.from-to.ensures, (line.reached c.loop-router.router-index (omega (arith, c.loop-router-test.true))).0), omega (arith, c.requires.places, c.loop-router.invariant.0.same_length));
      father = λ p e.
          let is = sym (at_table N sound c.args.tree.now.root d) ∙ ap (λ t. get_or t d None) (sym c.requires.tree.father) ∙ e in
          let there = father_done N sound c.args.tree.now.root c.args.neighbour line c.loop-router.invariant.1 (omega (arith, c.loop-router-test.true)) p (ap (lowest_father N c.args.tree.now.root) (sym c.from-to.ensures) ∙ is) in (
            father_inside N sound c.args.tree.now.root c.args.neighbour d p is,
            λ a l ea el. can_join rule laws a l (rest_short N sound c.args.tree.now.root c.args.neighbour p a (sym there ∙ ea))
                (sound.costs p d l el),
          );
    }

pub offer-requires : goal.offer-requires
offer-requires g c =
    let N = network_of g.C.Cost.costs g.L.LinkCosts c.args.links.now in
    let sound = g.met.L.LinkCosts.sound c.args.links.now in
    let line = subst (NearestFirst N c.args.tree.now.root) (sym c.as_slice-router-items.ensures.value) c.requires.tree.order in
    let inside = (line.reached c.loop-router.router-index (omega (arith, c.loop-router-test.true))).0 in
    (omega (arith, c.from-to.ensures, inside, c.requires.places, c.loop-router.invariant.0.same_length), omega (arith, c.from-to.ensures, inside, sound.few))

pub loop-router-preserved : goal.loop-router-preserved
loop-router-preserved g c =
    let rule = g.C.Cost.costs in
    let N = network_of rule g.L.LinkCosts c.args.links.now in
    let sound = g.met.L.LinkCosts.sound c.args.links.now in
    let line = subst (NearestFirst N c.args.tree.now.root) (sym c.as_slice-router-items.ensures.value) c.requires.tree.order in
    let d = get_or c.as_slice-router-items.result.now c.loop-router.router-index 0 in
    let f = costs_of rule c.loop-router.row in
    let given : (x : ℕ) → costs_of rule c.offer.new.self x ≡ with_offer rule f d (by_father N (get_or c.args.tree.now.father d None) f d) x =
    λ x. c.offer.ensures.costs x ∙ ap₂ (λ t o. with_offer rule f t o x) c.from-to.ensures (c.way_down-way.ensures ∙ ap (λ t. by_father N (get_or c.args.tree.now.father t None) f t) c.from-to.ensures) in (
      same_more c.loop-router.invariant.0 c.offer.ensures.memory,
      descended_more N sound c.args.tree.now.root c.args.neighbour line c.loop-router.invariant.1 (omega (arith, c.loop-router-test.true))
          (λ x. given x ∙ ap (λ o. with_offer rule f d (by_father N o f d) x) (ap (λ t. get_or t d None) c.requires.tree.father ∙ at_table N sound c.args.tree.now.root d)),
      λ x past.
          let ne : x ≢ d = omega (arith, (line.reached c.loop-router.router-index (omega (arith, c.loop-router-test.true))).0) in
          given x ∙ cond-false (eqb x d) _ (f x) (ne_eqb x d ne) ∙ c.loop-router.invariant.2 x past,
    )

pub returns : goal.returns
returns g c =
    let rule = g.C.Cost.costs in
    let N = network_of rule g.L.LinkCosts c.args.links.now in
    let sound = g.met.L.LinkCosts.sound c.args.links.now in
    let line = subst (NearestFirst N c.args.tree.now.root) (sym c.as_slice-router-items.ensures.value) c.requires.tree.order in
    record {
      costs = descended_all N sound c.args.tree.now.root c.args.neighbour line c.loop-router.invariant.1 (omega arith);
      past = c.loop-router.invariant.2;
      memory = c.loop-router.invariant.0;
    }
