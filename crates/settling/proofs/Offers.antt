-- What an offer leaves, taken or not.
use Rattle.std.proofs.Common.{◌≡◌, ℕ, ◌<◌, Bool, true, false, cond, ◌||◌, eqb, List, length, get_or, set, Some, None, Option, sym, ap, ◌∙◌, ⊎_elim}
use Rattle.std.proofs.lemmas.List.{get_or-set_same, get_or-set_other}
use Rattle.std.proofs.lemmas.Bool.{cases_Bool, cases_eq, cond-true, cond-false, eq-eqb, ne_eqb}
use Rattle.costs.specs.Costs.{Costs}
use Rattle.masks.specs.Sets.{holds}
use Rattle.routes.specs.Leasts.{lesser}
use Rattle.routes.proofs.Members.{some_inj, none_some}
use Rattle.squares.specs.Known.{costs_in, with_offer}
use Rattle.squares.proofs.Offers.{same_either, lesser_none, lesser_old, lesser_new}

module _ {C : Type 0} (rule : Costs C) where
  module _ (row : List C) (reached to : ℕ) where
    abbrev f : ℕ → Option C
    f = costs_in rule row reached

    pub known_cost : (a : C) → holds reached to ≡ true → f to ≡ Some a → get_or row to rule.zero ≡ a
    known_cost a h e = some_inj (get_or row to rule.zero) a (sym (cond-true (holds reached to) (Some (get_or row to rule.zero)) None h) ∙ e)

    pub no_cost : (a : C) → holds reached to ≡ false → f to ≡ Some a → ⊥
    no_cost a h e = none_some a (sym (cond-false (holds reached to) (Some (get_or row to rule.zero)) None h) ∙ e)

    -- a cost that is there stands in the row, and the mask has its router
    pub cost_there : (a : C) → f to ≡ Some a → get_or row to rule.zero ≡ a
    cost_there a e = ⊎_elim (λ h. known_cost a h e) (λ h. absurd (no_cost a h e)) (cases_Bool (holds reached to))

    pub not_held : f to ≡ None → holds reached to ≡ false
    not_held e = ⊎_elim (λ h. absurd (none_some (get_or row to rule.zero) (sym e ∙ cond-true (holds reached to) (Some (get_or row to rule.zero)) None h))) (λ h. h) (cases_Bool (holds reached to))

    pub not_offered : (d : ℕ) → f d ≡ with_offer rule f to None d
    not_offered d = same_either (eqb d to) (lesser rule (f d) None) (f d) (lesser_none rule (f d))

    pub not_taken : (c : C) → holds reached to ≡ true → rule.lower c (get_or row to rule.zero) ≡ false → (d : ℕ) → f d ≡ with_offer rule f to (Some c) d
    not_taken c there h d =
        ⊎_elim
        (λ (e : d ≡ to). same_either (eqb d to) (lesser rule (f d) (Some c)) (f d)
        (lesser_old rule (f d) (get_or row to rule.zero) c (ap f e ∙ cond-true (holds reached to) (Some (get_or row to rule.zero)) None there) h))
        (λ ne. sym (cond-false (eqb d to) (lesser rule (f d) (Some c)) (f d) (ne_eqb d to ne)))
        (cases_eq d to)

    pub taken : (c : C) (reached' : ℕ) → to < length row → ((k : ℕ) → holds reached' k ≡ (eqb k to || holds reached k)) → ((a : C) → f to ≡ Some a → rule.lower c a ≡ true) →
        (d : ℕ) → costs_in rule (set row to c) reached' d ≡ with_offer rule f to (Some c) d
    taken c reached' inside more news d =
        ⊎_elim
        (λ (e : d ≡ to).
        cond-true (holds reached' d) (Some (get_or (set row to c) d rule.zero)) None (more d ∙ ap (λ t. t || holds reached d) (eq-eqb d to e))
        ∙ ap Some (ap (λ k. get_or (set row to c) k rule.zero) e ∙ get_or-set_same row to c rule.zero inside)
        ∙ sym (cond-true (eqb d to) (lesser rule (f d) (Some c)) (f d) (eq-eqb d to e) ∙ lesser_new rule (f d) c (λ a ea. news a (ap f (sym e) ∙ ea))))
        (λ ne.
        ap (λ t. cond t (Some (get_or (set row to c) d rule.zero)) None) (more d ∙ ap (λ t. t || holds reached d) (ne_eqb d to ne))
        ∙ ap (λ x. cond (holds reached d) (Some x) None) (get_or-set_other row to d c rule.zero ne)
        ∙ sym (cond-false (eqb d to) (lesser rule (f d) (Some c)) (f d) (ne_eqb d to ne)))
        (cases_eq d to)

    -- a way that is not open changes nothing
    pub closed : (t : Bool) (o : Option C) (d : ℕ) → t ≡ false → f d ≡ lesser rule (f d) (cond t o None)
    closed t o d e = sym (ap (lesser rule (f d)) (cond-false t o None e) ∙ lesser_none rule (f d))
