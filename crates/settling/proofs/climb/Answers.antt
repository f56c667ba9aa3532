use Rattle.std.proofs.Common.{◌≡◌, get_or, None, sym, ap, ◌∙◌, subst, arith}
use Rattle.squares.proofs.Joins.{can_join}
use Rattle.squares.specs.Meaning.{network_of}
use Rattle.squares.specs.Sequences.{items}
use Rattle.settling.specs.Costs.{costs_of}
use Rattle.settling.specs.Rows.{to_father}
use Rattle.settling.proofs.Memory.{same_row, same_more}
use Rattle.settling.proofs.Climbs.{ClimbingOn, climbing_first, climbing_short, last_inside, climbing_more, climbing_all}
use Rattle.settling.proofs.Orders.{at_table}
use Rattle.settling.proofs.Rows.{father_inside}
use Rattle.settling.proofs.climb.Goals as goal

pub loop-router-init : goal.loop-router-init
loop-router-init g c =
    let rule = g.C.Cost.costs in
    let N = network_of rule g.L.LinkCosts c.args.links.now in
    let sound = g.met.L.LinkCosts.sound c.args.links.now in
    let order = (items c.args.tree.now.found.order) in
    let f = costs_of rule c.args.row.now in
    let is : order ≡ c.into_iter-router-iterator.result.iter.rest.now = cc in
    (same_row, subst (ClimbingOn N c.args.tree.now.root c.args.neighbour order f) is (climbing_first N sound c.args.tree.now.root c.args.neighbour order f c.requires.starts))

pub climb_from-requires : goal.climb_from-requires
climb_from-requires g c =
    let rule = g.C.Cost.costs in
    let N = network_of rule g.L.LinkCosts c.args.links.now in
    let sound = g.met.L.LinkCosts.sound c.args.links.now in
    let laws = g.met.C.Cost.lawful in
    let line = c.requires.tree.order in
    let on = c.loop-router.invariant.1 in
    let d = c.from-from.result in
    let left = c.next.new.self.iter.rest.now in
    record {
      inside = (omega (arith, c.from-from.ensures, last_inside N sound c.args.tree.now.root c.args.neighbour line on left c.in-Some.field-0.now c.in-Some.ensures.steps), omega (arith, c.requires.places, c.loop-router.invariant.0.same_length));
      father = λ p e.
          let is = sym (at_table N sound c.args.tree.now.root d) ∙ ap (λ t. get_or t d None) (sym c.requires.tree.father) ∙ e in (
            father_inside N sound c.args.tree.now.root c.args.neighbour d p is,
            λ a l ea el. can_join rule laws a l (climbing_short N sound c.args.tree.now.root c.args.neighbour line on d a ea)
                (sound.costs d p l el),
          );
    }

pub loop-router-preserved : goal.loop-router-preserved
loop-router-preserved g c =
    let rule = g.C.Cost.costs in
    let N = network_of rule g.L.LinkCosts c.args.links.now in
    let sound = g.met.L.LinkCosts.sound c.args.links.now in
    let d = c.in-Some.field-0.now in
    let left = c.next.new.self.iter.rest.now in
    let f = costs_of rule c.loop-router.row in (
      same_more c.loop-router.invariant.0 c.climb_from.ensures.memory,
      climbing_more N sound c.args.tree.now.root c.args.neighbour c.requires.tree.order c.loop-router.invariant.1 left d c.in-Some.ensures.steps
          (λ x. c.climb_from.ensures.costs x ∙ ap (λ t. to_father N c.args.tree.now.root (get_or c.args.tree.now.father t None) f t x) c.from-from.ensures ∙ ap (λ o. to_father N c.args.tree.now.root o f d x) (ap (λ t. get_or t d None) c.requires.tree.father ∙ at_table N sound c.args.tree.now.root d)),
    )

pub returns : goal.returns
returns g c =
    let rule = g.C.Cost.costs in
    let N = network_of rule g.L.LinkCosts c.args.links.now in
    let sound = g.met.L.LinkCosts.sound c.args.links.now in
    record {
      costs = climbing_all N sound c.args.tree.now.root c.args.neighbour c.requires.tree.order c.loop-router.invariant.1 c.in-None.ensures.steps.0;
      memory = c.loop-router.invariant.0;
    }
