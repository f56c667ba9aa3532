use Rattle.std.proofs.Common.{◌+◌, set, sym, ap, ◌∙◌, subst, arith}
use Rattle.std.proofs.lemmas.List.{get_or_read}
use Rattle.squares.specs.Known.{costs_in, with_offer}
use Rattle.search.specs.Steps.{entry, Step}
use Rattle.search.proofs.Offers.{with_room, known_cost, no_cost, not_offered, not_taken, taken}
use Rattle.search.proofs.offer.Goals as goal
use Rattle.search.proofs.offer.Goals.{else-has-via-then-has+else-not-lower, else-has-via-else-has}

pub returns-in_default : goal.returns-in_default
returns-in_default g c =
    let rule = g.C.Cost.costs in
    let best = c.args.best.now in
    let known = c.args.known in
    let w = c.args.list.now in
    let to = c.args.to in
    subst (λ o. Step rule (with_offer rule (costs_in rule best known) to o) (to + 1) 1 best known w best known w) (sym c.in_default.is) (not_offered rule best known w to)

pub returns-then-not-lower : goal.returns-then-not-lower
returns-then-not-lower g c =
    let rule = g.C.Cost.costs in
    let best = c.args.best.now in
    let known = c.args.known in
    let w = c.args.list.now in
    let to = c.args.to in
    subst (λ o. Step rule (with_offer rule (costs_in rule best known) to o) (to + 1) 1 best known w best known w) (sym c.in-Some.is)
    (not_taken rule best known w to c.in-Some.cost (sym c.if-has.ensures)
    (ap (rule.lower c.in-Some.cost) (sym (get_or_read best to c.index-best-to.result c.requires.places.0 c.index-best-to.is rule.zero)) ∙ sym c.if-not-lower.ensures))

pub returns : goal.returns
returns g c =
    let rule = g.C.Cost.costs in
    let best = c.args.best.now in
    let known = c.args.known in
    let w = c.args.list.now in
    let w' = c.push.new.self in
    let to = c.args.to in
    let cost = c.in-Some.cost in
    subst (λ o. Step rule (with_offer rule (costs_in rule best known) to o) (to + 1) 1 best known w (set best to cost) c.with.result w') (sym c.in-Some.is)
    (taken rule best known w to g.met.C.Cost.lawful cost c.with.result w' (omega arith) (c.with.ensures.added (omega arith))
    (with_room (entry cost to) w w' c.push.result c.push.ensures.answer c.requires.room)
    (λ a e. elim c.else-has.branch [
      | else-has-via-then-has+else-not-lower v ↦
          let at_to = get_or_read best to v.index-best-to.result c.requires.places.0 v.index-best-to.is rule.zero in
          ap (rule.lower cost) (sym (at_to ∙ known_cost rule best known w to a (sym v.if-has.ensures) e)) ∙ sym v.if-not-lower.ensures
      | else-has-via-else-has v ↦ absurd (no_cost rule best known w to a (sym v.if-has.ensures) e)
    ]))
