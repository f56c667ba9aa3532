-- Sets of hops and rows of rest costs, as they are written one router after the other.
use Rattle.std.specs.Prelude.{ℕ, Bool, cond, ◌&&◌, List, map, nat_lt, slice_index}
use Rattle.std.specs.List.{range_with_len}
use Rattle.costs.specs.Costs.{Costs}
use Rattle.masks.specs.Sets.{holds, including, mask}
use Rattle.routes.specs.Leasts.{below}
use Rattle.routes.specs.Lists.{when_some}
use Rattle.squares.specs.Known.{costs_in}

-- for each of 32 routers the set of those below v that pass the test for it
abbrev pub sets_below : ℕ → (ℕ → ℕ → Bool) → List ℕ
sets_below v p = map (λ d. mask v (λ x. p x d)) (range_with_len 0 32)

-- the set of d with v added, where d is below the count and chosen
abbrev pub set_with : (count chosen v : ℕ) → List ℕ → ℕ → ℕ
set_with count chosen v sets d = cond (nat_lt d count && holds chosen d) (including (slice_index sets d) v) (slice_index sets d)

module _ {C : Type 0} (rule : Costs C) (row : List C) (reached : ℕ) where
  -- the cost that a row holds for a router of the mask, and the zero cost for another
  abbrev pub cost_held : ℕ → C
  cost_held d = when_some (costs_in rule row reached d) rule.zero (λ c. c)

  -- the row's cost to d is strictly below the best
  abbrev pub is_nearer : List C → ℕ → ℕ → Bool
  is_nearer best known d = below rule (costs_in rule row reached d) (costs_in rule best known d)
