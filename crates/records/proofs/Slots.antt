-- Where the number of a pair stands in a list of records, and what a record written there changes.
use Rattle.std.proofs.Common.{◌≡◌, ℕ, zero, suc, ◌<◌, ◌≤◌, Bool, true, false, cond, not, ◌&&◌, eqb, List, [], ◌∷◌, length, get_or, set, Some, None, Option, sym, refl, ap, ◌∙◌, subst₂, ⊎_elim, le_of_suc-le-suc, not-suc-le-zero}
use mathlib.Core.Path.{fun_ext}
use Rattle.records.proofs.Places.{first_all}
use Rattle.records.specs.Lists.{live, holds, find, held_at, free_at, link_of, no_record}
use Rattle.records.specs.declared.record.Record.{Record}
use Rattle.std.proofs.lemmas.Bool.{and_parts, and_from, and_left, and_right, cond-true, cond-false, cases_eq, eqb-true, eq-eqb, ne_eqb, not-true}
use Rattle.tables.proofs.Sizes.{not_both}
use Rattle.tables.specs.Links.{Links, with_link}

-- a record's number: 0 means none
abbrev pub number_kept : ℕ → Option ℕ
number_kept n = cond (eqb n 0) None (Some n)

abbrev pub number_at : List Record → ℕ → ℕ
number_at rs i = (get_or rs i no_record).number

-- the record i alone holds the pair's number, or can be given it
abbrev pub Slot : List Record → ℕ → ℕ → ℕ → Type 0
Slot [] i a b = ⊥
Slot (r ∷ rs) zero a b = (find rs a b ≡ None) × ((x y : ℕ) → ((x ≡ a) × (y ≡ b) → ⊥) → holds r x y ≡ false)
Slot (r ∷ rs) (suc i) a b = (holds r a b ≡ false) × Slot rs i a b

-- what one record holds
holds_here : (a b n : ℕ) → (n ≡ 0 → ⊥) → holds (link_of a b n) a b ≡ true
holds_here a b n z = and_from _ _ (ap not (ne_eqb n 0 z)) (and_from _ _ (eq-eqb a a refl) (eq-eqb b b refl))

holds_none : (r : Record) (a b : ℕ) → live r ≡ false → holds r a b ≡ false
holds_none r a b e = and_left (live r) _ e

pub holds_other : (r : Record) (a b : ℕ) → ((a ≡ r.from) × (b ≡ r.to) → ⊥) → holds r a b ≡ false
holds_other r a b h = and_right (live r) _ (not_both a b r.from r.to h)

pub holds_parts : (r : Record) (a b : ℕ) → holds r a b ≡ true → (live r ≡ true) × (a ≡ r.from) × (b ≡ r.to)
holds_parts r a b e =
    let p = and_parts (live r) (eqb a r.from && eqb b r.to) e in
    let q = and_parts (eqb a r.from) (eqb b r.to) p.1 in
    (p.0, eqb-true a r.from q.0, eqb-true b r.to q.1)

-- a record written at its slot changes one pair
module _ (a b n : ℕ) where
  at_pair : (m : Links) → with_link m a b (number_kept n) a b ≡ number_kept n
  at_pair m = cond-true (eqb a a && eqb b b) _ _ (and_from _ _ (eq-eqb a a refl) (eq-eqb b b refl))

  at_other : (m : Links) (x y : ℕ) → ((x ≡ a) × (y ≡ b) → ⊥) → with_link m a b (number_kept n) x y ≡ m x y
  at_other m x y h = cond-false (eqb x a && eqb y b) _ _ (not_both x y a b h)

  set_here : (rs : List Record) (i : ℕ) → Slot rs i a b → find (set rs i (link_of a b n)) a b ≡ number_kept n
  set_here [] i s = absurd s
  set_here (r ∷ rs) zero s =
      ⊎_elim
      (λ (z : n ≡ 0).
      cond-false (holds (link_of a b n) a b) _ _ (holds_none (link_of a b n) a b (ap not (eq-eqb n 0 z)))
      ∙ s.0
      ∙ sym (cond-true (eqb n 0) _ _ (eq-eqb n 0 z)))
      (λ (z : n ≡ 0 → ⊥). cond-true (holds (link_of a b n) a b) _ _ (holds_here a b n z) ∙ sym (cond-false (eqb n 0) _ _ (ne_eqb n 0 z)))
      (cases_eq n 0)
  set_here (r ∷ rs) (suc i) s = cond-false (holds r a b) _ _ s.0 ∙ set_here rs i s.1

  pub set_there : (rs : List Record) (i : ℕ) → Slot rs i a b → (x y : ℕ) → ((x ≡ a) × (y ≡ b) → ⊥) → find (set rs i (link_of a b n)) x y ≡ find rs x y
  set_there [] i s x y h = absurd s
  set_there (r ∷ rs) zero s x y h =
      cond-false (holds (link_of a b n) x y) _ _ (holds_other (link_of a b n) x y h) ∙ sym (cond-false (holds r x y) _ _ (s.1 x y h))
  set_there (r ∷ rs) (suc i) s x y h = ap (cond (holds r x y) (Some r.number)) (set_there rs i s.1 x y h)

  find_set : (rs : List Record) (i : ℕ) → Slot rs i a b → (x y : ℕ) → find (set rs i (link_of a b n)) x y ≡ with_link (find rs) a b (number_kept n) x y
  find_set rs i s x y =
      ⊎_elim
      (λ (p : a ≡ x).
      ⊎_elim
      (λ (q : b ≡ y).
      let S : ℕ → ℕ → Type 0 = λ x y. find (set rs i (link_of a b n)) x y ≡ with_link (find rs) a b (number_kept n) x y in
      subst₂ S p q (set_here rs i s ∙ sym (at_pair (find rs))))
      (λ (q : b ≡ y → ⊥). other (λ h. q (sym h.1)))
      (cases_eq b y))
      (λ (p : a ≡ x → ⊥). other (λ h. p (sym h.0)))
      (cases_eq a x)
    where
      other : ((x ≡ a) × (y ≡ b) → ⊥) → find (set rs i (link_of a b n)) x y ≡ with_link (find rs) a b (number_kept n) x y
      other h = set_there rs i s x y h ∙ sym (at_other (find rs) x y h)

  pub set_links : (rs : List Record) (i : ℕ) → Slot rs i a b → find (set rs i (link_of a b n)) ≡ with_link (find rs) a b (number_kept n)
  set_links rs i s = fun_ext λ x. fun_ext λ y. find_set rs i s x y

-- a record before the others that does not hold the pair
find_rest : (r : Record) (rs : List Record) (a b : ℕ) → find (r ∷ rs) a b ≡ None → (holds r a b ≡ false) × (find rs a b ≡ None)
find_rest r rs a b = go (holds r a b)
  where
    go : (t : Bool) → cond t (Some r.number) (find rs a b) ≡ None → (t ≡ false) × (find rs a b ≡ None)
    go true e = (cc, cc)
    go false e = (refl, e)

module _ (a b : ℕ) where
  -- the first record that holds a pair has its number
  pub held_some : (rs : List Record) → held_at rs a b < length rs → find rs a b ≡ Some (number_at rs (held_at rs a b))
  held_some =
      first_all (λ r. holds r a b) (λ rs i. i < length rs → find rs a b ≡ Some (number_at rs i)) (λ h. absurd (not-suc-le-zero h))
      (λ r rs e h. cond-true (holds r a b) _ _ e)
      (λ r rs i e f h. cond-false (holds r a b) _ _ e ∙ f (le_of_suc-le-suc h))

  pub held_none : (rs : List Record) → length rs ≤ held_at rs a b → find rs a b ≡ None
  held_none =
      first_all (λ r. holds r a b) (λ rs i. length rs ≤ i → find rs a b ≡ None) (λ h. refl)
      (λ r rs e h. absurd (not-suc-le-zero h))
      (λ r rs i e f h. cond-false (holds r a b) _ _ e ∙ f (le_of_suc-le-suc h))

  -- the first free record is a slot for a pair without a number
  pub free_slot : (rs : List Record) → free_at rs < length rs → find rs a b ≡ None → Slot rs (free_at rs) a b
  free_slot =
      first_all (λ r. not (live r)) (λ rs i. i < length rs → find rs a b ≡ None → Slot rs i a b) (λ h q. absurd (not-suc-le-zero h))
      (λ r rs e h q. ((find_rest r rs a b q).1, λ x y n. holds_none r x y (not-true (live r) e)))
      (λ r rs i e f h q. let p = find_rest r rs a b q in (p.0, f (le_of_suc-le-suc h) p.1))
