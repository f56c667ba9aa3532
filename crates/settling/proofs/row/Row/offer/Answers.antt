use Rattle.std.proofs.Common.{sym, refl, ap, ◌∙◌}
use Rattle.std.proofs.lemmas.List.{get_or_read, get_or-set_other, length-set}
use Rattle.squares.specs.Known.{costs_in, with_offer}
use Rattle.settling.proofs.Offers.{known_cost, no_cost, not_offered, not_taken, taken}
use Rattle.settling.proofs.row.Row.offer.Goals as goal
use Rattle.settling.proofs.row.Row.offer.Goals.{else-has-via-then-has+else-not-lower, else-has-via-else-has}

pub returns-in_default : goal.returns-in_default
returns-in_default g c =
    let rule = g.C.Cost.costs in
    let f = costs_in rule c.args.self.now.costs.now c.args.self.now.reached in
    record {
      costs = λ d. not_offered rule c.args.self.now.costs.now c.args.self.now.reached c.args.to d ∙ sym (ap (λ o. with_offer rule f c.args.to o d) c.in_default.is);
      others = λ k _. refl;
      memory = record { same_memory = refl; same_length = refl };
    }

pub returns-then-not-lower : goal.returns-then-not-lower
returns-then-not-lower g c =
    let rule = g.C.Cost.costs in
    let row = c.args.self.now.costs.now in
    let to = c.args.to in
    let f = costs_in rule row c.args.self.now.reached in
    record {
      costs = λ d.
          not_taken rule row c.args.self.now.reached to c.in-Some.cost (sym c.if-has.ensures)
          (ap (rule.lower c.in-Some.cost) (sym (get_or_read row to c.index-self-to.result c.requires.0 c.index-self-to.is rule.zero) ∙ c.index-self-to.is) ∙ sym c.if-not-lower.ensures) d
          ∙ sym (ap (λ o. with_offer rule f to o d) c.in-Some.is);
      others = λ k _. refl;
      memory = record { same_memory = refl; same_length = refl };
    }

pub returns : goal.returns
returns g c =
    let rule = g.C.Cost.costs in
    let row = c.args.self.now.costs.now in
    let to = c.args.to in
    let reached = c.args.self.now.reached in
    let cost = c.in-Some.cost in
    let f = costs_in rule row reached in
    record {
      costs = λ d.
          taken rule row reached to cost c.with-self.result c.requires.0 (c.with-self.ensures.added c.requires.1)
          (λ a e. elim c.else-has.branch [
            | else-has-via-then-has+else-not-lower v ↦
                let at_to = get_or_read row to v.index-self-to.result c.requires.0 v.index-self-to.is rule.zero in
                ap (rule.lower cost) (sym (at_to ∙ known_cost rule row reached to a (sym v.if-has.ensures) e) ∙ v.index-self-to.is) ∙ sym v.if-not-lower.ensures
            | else-has-via-else-has v ↦ absurd (no_cost rule row reached to a (sym v.if-has.ensures) e)
          ]) d
          ∙ sym (ap (λ o. with_offer rule f to o d) c.in-Some.is);
      others = λ k ne. get_or-set_other row to k cost rule.zero ne;
      memory = record { same_memory = refl; same_length = length-set row to cost };
    }
