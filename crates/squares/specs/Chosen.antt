-- A number that is there, and that a test tells from others, can be named: the least that passes.
use Rattle.std.specs.Prelude.{◌≡◌, ℕ, zero, suc, ◌<◌, Bool, true, false}
use Rattle.std.proofs.Common.{◌⊎◌, inl, inr, ⊎_elim, subst, arith}
use Rattle.std.proofs.Math.Logic.{∥∥₁_elim}
use Rattle.std.proofs.Math.Bool.{Bool-set}
use Rattle.std.proofs.lemmas.Bool.{cases_Bool, cases_order, both_ways}
use mathlib.Core.HLevel.{Σ_prop_path, ×_prop, Π_prop, →_prop}

module _ (p : ℕ → Bool) where
  abbrev Least : Type 0
  Least = (n : ℕ) × ((p n ≡ true) × ((m : ℕ) → m < n → p m ≡ false))

  least_prop : IsProp Least
  least_prop a b =
      Σ_prop_path (λ n. ×_prop (Bool-set (p n) true) (Π_prop (λ m. →_prop (Bool-set (p m) false))))
      (⊎_elim (λ e. e) (⊎_elim (λ l. absurd (both_ways (p a.0) (b.1.1 a.0 l) a.1.0)) (λ l. absurd (both_ways (p b.0) (a.1.1 b.0 l) b.1.0)))
      (cases_order a.0 b.0))

  last : (m k : ℕ) → m < suc k → (k ≡ m) ⊎ (m < k)
  last m k l = ⊎_elim inl (⊎_elim (λ h. absurd (omega arith)) inr) (cases_order k m)

  one_more : (k : ℕ) → p k ≡ false → ((m : ℕ) → m < k → p m ≡ false) → (m : ℕ) → m < suc k → p m ≡ false
  one_more k f none m l = ⊎_elim (λ e. subst (λ z. p z ≡ false) e f) (none m) (last m k l)

  below : (k : ℕ) → ((m : ℕ) → m < k → p m ≡ false) ⊎ Least
  below zero = inl (λ m l. absurd (omega arith))
  below (suc k) = ⊎_elim (λ none. ⊎_elim (λ t. inr (k, (t, none))) (λ f. inl (one_more k f none)) (cases_Bool (p k))) inr (below k)

  first : (n : ℕ) → p n ≡ true → Least
  first n t = ⊎_elim (λ none. absurd (both_ways (p n) (none n (omega arith)) t)) (λ l. l) (below (suc n))

  pub chosen : ∥ ((n : ℕ) × (p n ≡ true)) ∥₁ → (n : ℕ) × (p n ≡ true)
  chosen h = let l = ∥∥₁_elim h least_prop (λ q. first q.0 q.1) in (l.0, l.1.0)
