-- The rank of a router: how many routers have a lower cost. It falls with the cost, and is below the count.
use Rattle.std.proofs.Common.{◌≡◌, ℕ, ◌<◌, true, Some, Option, refl, subst, arith}
use Rattle.costs.specs.Costs.{Costs, Laws}
use Rattle.routes.specs.Leasts.{below}
use Rattle.routes.proofs.Order.{below_self, below_trans}
use Rattle.routes.proofs.Sizes.{size, size_most, size_less}

module _ {Cost : Type 0} (K : Costs Cost) (laws : Laws K) (n : ℕ) (f : ℕ → Option Cost) where
  pub rank : ℕ → ℕ
  rank x = size n (λ y. below K (f y) (f x))

  pub rank_below : (x : ℕ) → x < n → rank x < n
  unfolding rank
  rank_below x h =
      omega (arith, size_less n (λ y. below K (f y) (f x)) (λ y. true) (λ y l e. refl) x h (below_self K laws (f x)) refl, size_most n (λ y. true))

  pub rank_less : (x y : ℕ) (a b : Cost) → x < n → f x ≡ Some a → f y ≡ Some b → K.lower a b ≡ true → rank x < rank y
  unfolding rank below
  rank_less x y a b h ex ey l =
      size_less n (λ z. below K (f z) (f x)) (λ z. below K (f z) (f y))
      (λ z k e. rw ey (below_trans K laws (f z) a b (subst (λ o. below K (f z) o ≡ true) ex e) l))
      x h (below_self K laws (f x)) (rw (ex, ey) l)
