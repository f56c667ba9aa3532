-- Where the number of a pair is to be written, and whether there is room for it.
use Rattle.std.proofs.Common.{◌≡◌, ℕ, ◌<◌, ◌≤◌, true, cond, eqb, List, length, is_some, Some, None, Option, sym, ap, ◌∙◌, subst, ⊎_elim, arith}
use Rattle.faults.specs.declared.refusal.Refusal.{Refusal}
use Rattle.faults.specs.declared.refusal.Refusal.TheVariants.{Full}
use Rattle.records.proofs.Places.{found_some, found_none}
use Rattle.records.proofs.Slots.{Slot, held_some, held_none, free_slot}
use Rattle.records.proofs.Tidies.{held_slot, size_lt, size_all}
use Rattle.records.specs.Lists.{find, found, held_at, free_at, place_of, tidy}
use Rattle.records.specs.declared.record.Record.{Record}
use Rattle.std.proofs.lemmas.Bool.{cases_lt, cond-true, cond-false, eq-eqb, ne_eqb}
use Rattle.tables.specs.Links.{size}
use Rattle.tables.specs.Tables.{room_refusal}

module _ (rs : List Record) (a b : ℕ) where
  -- where it is held, or else in the first free record
  place_held : held_at rs a b < length rs → place_of rs a b ≡ held_at rs a b
  place_held h = ap (λ o. cond (is_some o) (held_at rs a b) (free_at rs)) (held_some a b rs h)

  place_free : length rs ≤ held_at rs a b → place_of rs a b ≡ free_at rs
  place_free h = ap (λ o. cond (is_some o) (held_at rs a b) (free_at rs)) (held_none a b rs h)

  pub placed_held : (i : ℕ) → Some i ≡ found (held_at rs a b) (length rs) → Some i ≡ found (place_of rs a b) (length rs)
  placed_held i e =
      e ∙ ap (λ j. found j (length rs)) (sym (place_held (found_some (held_at rs a b) (length rs) i e).1))

  pub placed_free : None ≡ found (held_at rs a b) (length rs) → found (free_at rs) (length rs) ≡ found (place_of rs a b) (length rs)
  placed_free e = ap (λ j. found j (length rs)) (sym (place_free (found_none (held_at rs a b) (length rs) e)))

  module _ (k : ℕ) (t : tidy k rs ≡ true) where
    abbrev room_by : Option ℕ → Option Refusal
    room_by o = cond (is_some o) None (cond (eqb (size (find rs) k) (length rs)) (Some Full) None)

    -- a place in the list is the pair's slot, and there is room
    pub place_room : place_of rs a b < length rs → Slot rs (place_of rs a b) a b × (room_refusal k (length rs) (find rs) a b ≡ None)
    place_room h =
        ⊎_elim
        (λ (l : held_at rs a b < length rs). (
          subst (λ i. Slot rs i a b) (sym (place_held l)) (held_slot k a b rs l t),
          ap room_by (held_some a b rs l),
        ))
        (λ (l : length rs ≤ held_at rs a b).
        let e = place_free l in
        let none = held_none a b rs l in
        let free : free_at rs < length rs = omega arith in (
          subst (λ i. Slot rs i a b) (sym e) (free_slot a b rs free none),
          ap room_by none ∙ cond-false (eqb (size (find rs) k) (length rs)) _ _ (ne_eqb _ _ (omega (arith, size_lt k rs t free))),
        ))
        (cases_lt (held_at rs a b) (length rs))

    -- no place in the list: it is full
    pub place_full : length rs ≤ place_of rs a b → room_refusal k (length rs) (find rs) a b ≡ Some Full
    place_full h =
        ⊎_elim
        (λ (l : held_at rs a b < length rs). let e = place_held l in absurd (omega arith))
        (λ (l : length rs ≤ held_at rs a b).
        let e = place_free l in
        let none = held_none a b rs l in
        let all : length rs ≤ free_at rs = omega arith in
        ap room_by none ∙ cond-true (eqb (size (find rs) k) (length rs)) _ _ (eq-eqb _ _ (size_all k rs t all)))
        (cases_lt (held_at rs a b) (length rs))
