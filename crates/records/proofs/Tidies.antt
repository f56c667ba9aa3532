-- Lists in which each record in use holds a pair of routers that no other one holds.
use Rattle.std.proofs.Common.{◌≡◌, ℕ, zero, suc, ◌+◌, ◌<◌, ◌≤◌, Bool, true, false, cond, not, ◌&&◌, eqb, List, [], ◌∷◌, length, set, is_some, Some, None, Option, sym, refl, ap, ◌∙◌, subst₂, ⊎_elim, le_of_suc-le-suc, not-suc-le-zero, arith}
use mathlib.Core.Path.{fun_ext}
use Rattle.records.proofs.Places.{first_all}
use Rattle.records.proofs.Slots.{Slot, holds_parts, holds_other, set_there}
use Rattle.records.specs.Lists.{live, holds, find, held_at, free_at, link_of, tidy}
use Rattle.records.specs.declared.record.Record.{Record}
use Rattle.std.proofs.lemmas.Bool.{and_parts, and_from, cond-true, cond-false, cases_Bool, eq-eqb, both_ways, not-true, not-false}
use Rattle.tables.proofs.Pairs.{pair_parts}
use Rattle.tables.proofs.Sizes.{one_if_le, size_none, size_more}
use Rattle.tables.specs.Links.{is_pair, one_if, size}

-- a tidy list is a record, if in use of a pair that the rest does not hold, before a tidy list
module _ (k : ℕ) (r : Record) (rs : List Record) where
  abbrev Alone : Bool
  Alone = is_pair k r.from r.to && not (is_some (find rs r.from r.to))

  tidy_parts : tidy k (r ∷ rs) ≡ true → live r ≡ true → (is_pair k r.from r.to ≡ true) × (find rs r.from r.to ≡ None)
  tidy_parts t l =
      let p = and_parts (cond (live r) Alone true) (tidy k rs) t in
      let w = and_parts (is_pair k r.from r.to) (not (is_some (find rs r.from r.to))) (sym (cond-true (live r) Alone true l) ∙ p.0) in
      (w.0, none (find rs r.from r.to) (not-true _ w.1))
    where
      none : (o : Option ℕ) → is_some o ≡ false → o ≡ None
      none (Some x) e = absurd (both_ways true e refl)
      none None e = refl

  tidy_rest : tidy k (r ∷ rs) ≡ true → tidy k rs ≡ true
  tidy_rest t = (and_parts (cond (live r) Alone true) (tidy k rs) t).1

  tidy_join : (live r ≡ true → (is_pair k r.from r.to ≡ true) × (find rs r.from r.to ≡ None)) → tidy k rs ≡ true → tidy k (r ∷ rs) ≡ true
  tidy_join f t =
      and_from _ _
      (⊎_elim
      (λ (l : live r ≡ true). cond-true (live r) Alone true l ∙ and_from _ _ (f l).0 (ap (λ o. not (is_some o)) (f l).1))
      (λ (l : live r ≡ false). cond-false (live r) Alone true l)
      (cases_Bool (live r)))
      t

-- a pair's record written at its slot leaves the list tidy
pub tidy_set : (k a b n : ℕ) (rs : List Record) (i : ℕ) → Slot rs i a b → is_pair k a b ≡ true → tidy k rs ≡ true → tidy k (set rs i (link_of a b n)) ≡ true
tidy_set k a b n [] i s p t = absurd s
tidy_set k a b n (r ∷ rs) zero s p t = tidy_join k (link_of a b n) rs (λ l. (p, s.0)) (tidy_rest k r rs t)
tidy_set k a b n (r ∷ rs) (suc i) s p t =
    tidy_join k r (set rs i (link_of a b n))
    (λ l.
    let w = tidy_parts k r rs t l in
    (w.0, set_there a b n rs i s.1 r.from r.to (λ h. apart l h) ∙ w.1))
    (tidy_set k a b n rs i s.1 p (tidy_rest k r rs t))
  where
    apart : live r ≡ true → (r.from ≡ a) × (r.to ≡ b) → ⊥
    apart l h = both_ways (holds r a b) s.0 (and_from _ _ l (and_from _ _ (eq-eqb a r.from (sym h.0)) (eq-eqb b r.to (sym h.1))))

-- in a tidy list the first record that holds a pair is its slot
pub held_slot : (k a b : ℕ) (rs : List Record) → held_at rs a b < length rs → tidy k rs ≡ true → Slot rs (held_at rs a b) a b
held_slot k a b =
    first_all (λ r. holds r a b) (λ rs i. i < length rs → tidy k rs ≡ true → Slot rs i a b) (λ h t. absurd (not-suc-le-zero h))
    (λ r rs e h t.
    let p = holds_parts r a b e in (
      subst₂ (λ x y. find rs x y ≡ None) (sym p.1) (sym p.2) (tidy_parts k r rs t p.0).1,
      λ x y n. holds_other r x y (λ q. n (q.0 ∙ sym p.1, q.1 ∙ sym p.2)),
    ))
    (λ r rs i e f h t. (e, f (le_of_suc-le-suc h) (tidy_rest k r rs t)))

-- how many records are in use: fewer than there are, or all
live_count : List Record → ℕ
live_count [] = 0
live_count (r ∷ rs) = live_count rs + one_if (live r)

live_le : (rs : List Record) → live_count rs ≤ length rs
unfolding live_count
live_le [] = omega arith
live_le (r ∷ rs) = omega (arith, live_le rs, one_if_le (live r))

live_lt : (rs : List Record) → free_at rs < length rs → live_count rs < length rs
unfolding live_count
live_lt =
    first_all (λ r. not (live r)) (λ rs i. i < length rs → live_count rs < length rs) (λ h. h)
    (λ r rs e h. omega (arith, live_le rs, ap one_if (not-true (live r) e)))
    (λ r rs i e f h. omega (arith, f (le_of_suc-le-suc h), one_if_le (live r)))

live_all : (rs : List Record) → length rs ≤ free_at rs → live_count rs ≡ length rs
unfolding live_count
live_all =
    first_all (λ r. not (live r)) (λ rs i. length rs ≤ i → live_count rs ≡ length rs) (λ h. refl)
    (λ r rs e h. absurd (not-suc-le-zero h))
    (λ r rs i e f h. omega (arith, f (le_of_suc-le-suc h), ap one_if (not-false (live r) e)))

-- a tidy list has a record in use for each pair with a number
size_find : (k : ℕ) (rs : List Record) → tidy k rs ≡ true → size (find rs) k ≡ live_count rs
unfolding live_count
size_find k [] t = size_none k
size_find k (r ∷ rs) t =
    ⊎_elim
    (λ (l : live r ≡ true).
    let w = tidy_parts k r rs t l in
    let p = pair_parts k r.from r.to w.0 in
    ap (λ m. size m k) (by l)
    ∙ size_more (find rs) r.from r.to r.number w.1 k p.0 p.1
    ∙ omega (arith, size_find k rs (tidy_rest k r rs t), ap one_if l))
    (λ (l : live r ≡ false). ap (λ m. size m k) (by l) ∙ omega (arith, size_find k rs (tidy_rest k r rs t), ap one_if l))
    (cases_Bool (live r))
  where
    by : {t : Bool} → live r ≡ t → find (r ∷ rs) ≡ (λ x y. cond (t && (eqb x r.from && eqb y r.to)) (Some r.number) (find rs x y))
    by l = fun_ext λ x. fun_ext λ y. ap (λ v. cond (v && (eqb x r.from && eqb y r.to)) (Some r.number) (find rs x y)) l

-- so the pairs with a number are fewer than the records while one is free, and then as many
pub size_lt : (k : ℕ) (rs : List Record) → tidy k rs ≡ true → free_at rs < length rs → size (find rs) k < length rs
size_lt k rs t h = omega (arith, size_find k rs t, live_lt rs h)

pub size_all : (k : ℕ) (rs : List Record) → tidy k rs ≡ true → length rs ≤ free_at rs → size (find rs) k ≡ length rs
size_all k rs t h = size_find k rs t ∙ live_all rs h
