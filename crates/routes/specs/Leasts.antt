-- The lower of two costs, the least of several, and costs joined, where any may be absent.
use Rattle.std.specs.Prelude.{◌≡◌, ℕ, zero, suc, Bool, false, cond, not, ◌&&◌, List, [], ◌∷◌, map, Some, None, Option}
use Rattle.costs.specs.Costs.{Costs}

module _ {Cost : Type 0} (rule : Costs Cost) where
  -- a link's cost: one that the rule reads from some number
  abbrev pub LinkCost : Cost → Type 0
  LinkCost c = (n : ℕ) × (rule.read n ≡ Some c)

  -- the lower of two costs, either of which may be absent
  unfoldable pub lesser : Option Cost → Option Cost → Option Cost
  lesser None y = y
  lesser (Some a) None = Some a
  lesser (Some a) (Some b) = cond (rule.lower b a) (Some b) (Some a)

  -- two costs joined, absent where either is
  unfoldable pub joined : Option Cost → Option Cost → Option Cost
  joined None y = None
  joined (Some a) None = None
  joined (Some a) (Some b) = Some (rule.join a b)

  -- both are there, and neither is lower
  unfoldable pub same : Option Cost → Option Cost → Bool
  same None y = false
  same (Some a) None = false
  same (Some a) (Some b) = not (rule.lower a b) && not (rule.lower b a)

  -- both are there, and the first is strictly lower
  unfoldable pub below : Option Cost → Option Cost → Bool
  below None y = false
  below (Some a) None = false
  below (Some a) (Some b) = rule.lower a b

  -- the least cost of a list
  unfoldable pub least_of : List Cost → Option Cost
  least_of [] = None
  least_of (c ∷ cs) = lesser (Some c) (least_of cs)

  -- the least of n costs, each of which may be absent
  unfoldable pub least_below : ℕ → (ℕ → Option Cost) → Option Cost
  least_below zero f = None
  least_below (suc n) f = lesser (least_below n f) (f n)

  -- each cost of a list joined with that of a link; none without the link
  unfoldable pub onward : Option Cost → List Cost → List Cost
  onward None cs = []
  onward (Some w) cs = map (λ c. rule.join c w) cs

  -- c is the least of the costs for which P holds
  pub record Least (P : Cost → Type 0) (c : Cost) : Type 0 where
    pub holds : P c
    pub lowest : (x : Cost) → P x → rule.lower x c ≡ false

  -- the least of the costs for which P holds, absent where it holds for none
  abbrev pub IsLeast : (Cost → Type 0) → Option Cost → Type 0
  IsLeast P None = (x : Cost) → P x → ⊥
  IsLeast P (Some c) = Least P c
