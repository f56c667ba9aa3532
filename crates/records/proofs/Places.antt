-- The first item of a list that passes a test.
use Rattle.std.proofs.Common.{◌≡◌, ℕ, suc, ◌+◌, ◌<◌, ◌≤◌, Bool, true, false, not, ltb, List, [], ◌∷◌, Some, None, sym, ap, ◌∙◌, subst, ⊎_elim, arith}
use Rattle.std.specs.List.{position_or_len}
use Rattle.records.specs.Lists.{found}
use Rattle.std.proofs.lemmas.Bool.{cases_Bool, cases_lt, cond-true, cond-false, lt-ltb, le-ltb}

-- a place that is found is below the length, and one that is not found is not
module _ (x n : ℕ) where
  pub found_is : x < n → found x n ≡ Some x
  found_is h = cond-true (ltb x n) (Some x) None (lt-ltb x n h)

  pub found_not : n ≤ x → found x n ≡ None
  found_not h = cond-false (ltb x n) (Some x) None (le-ltb x n h)

  pub found_some : (i : ℕ) → Some i ≡ found x n → (i ≡ x) × (x < n)
  found_some i e =
      ⊎_elim
      (λ (h : x < n). let q = found_is h in (cc, h))
      (λ (h : n ≤ x). let q = found_not h in let z : ◌≡◌ {A = ℕ} 0 1 = cc in (omega arith, omega arith))
      (cases_lt x n)

  pub found_none : None ≡ found x n → n ≤ x
  found_none e =
      ⊎_elim
      (λ (h : x < n). let q = found_is h in let z : ◌≡◌ {A = ℕ} 0 1 = cc in omega arith)
      (λ (h : n ≤ x). h)
      (cases_lt x n)

module _ {A : Type 0} (p : A → Bool) where
  -- what holds of no items, of a first that passes, and of one more that does not, holds of the place of the first
  pub first_all : (P : List A → ℕ → Type 0) → P [] 0 → ((x : A) (xs : List A) → p x ≡ true → P (x ∷ xs) 0) → ((x : A) (xs : List A) (i : ℕ) → p x ≡ false → P xs i → P (x ∷ xs) (suc i)) →
      (xs : List A) → P xs (position_or_len p xs)
  first_all P none here there [] = none
  first_all P none here there (x ∷ xs) =
      ⊎_elim
      (λ (e : p x ≡ true). subst (P (x ∷ xs)) (sym (cond-false (not (p x)) (1 + position_or_len p xs) 0 (ap not e))) (here x xs e))
      (λ (e : p x ≡ false).
      let more : suc (position_or_len p xs) ≡ position_or_len p (x ∷ xs) = sym (cond-true (not (p x)) (1 + position_or_len p xs) 0 (ap not e) ∙ omega arith) in
      subst (P (x ∷ xs)) more (there x xs (position_or_len p xs) e (first_all P none here there xs)))
      (cases_Bool (p x))
