-- What a program that works out a page may lean on: costs settled nearest router first, and rest costs by two passes.
use Rattle.std.specs.Prelude.{◌≡◌, ℕ, ◌<◌, Bool, true, false, cond, ◌&&◌, ◌||◌, ◌≢◌, ◌⊎◌, is_some, Some, None, Option, ◌==◌}
use Rattle.routes.specs.Leasts.{IsLeast, joined, lesser, least_of, least_below}
use Rattle.routes.specs.Lists.{is_number, when_some}
use Rattle.routes.specs.Network.{Network}
use Rattle.routes.specs.Routes.{avoids}
use Rattle.routes.specs.Tree.{Fathers, fall}
use Rattle.routes.specs.Transverse.{Start, Climb, leaves_branch, climbs}

-- the set with one router more
abbrev pub also : (ℕ → Bool) → ℕ → ℕ → Bool
also done u x = done x || x == u

module _ {Cost : Type 0} (N : Network Cost) where
  -- b is the cost of some router of the set, joined with that of its link to d
  abbrev pub Comes : (ℕ → Bool) → (ℕ → Option Cost) → ℕ → Cost → Type 0
  Comes from f d b = (x : ℕ) × (c w : Cost) × (from x ≡ true) × (f x ≡ Some c) × (N.link x d ≡ Some w) × (b ≡ N.rule.join c w)

  -- the cost of d is there, and not above b
  abbrev pub Within : (ℕ → Option Cost) → ℕ → Cost → Type 0
  Within f d b = (a : Cost) × (f d ≡ Some a) × (N.rule.lower b a ≡ false)

  -- u, at cost c, is the nearest of the routers that are not done
  pub record Nearest (done : ℕ → Bool) (f : ℕ → Option Cost) (u : ℕ) (c : Cost) : Type 0 where
    pub waits : done u ≡ false
    pub costs : f u ≡ Some c
    pub least : (y : ℕ) (b : Cost) → done y ≡ false → f y ≡ Some b → N.rule.lower b c ≡ false

  -- the costs with the links of u relaxed, whose cost is c: each router takes the way by u where that is lower
  abbrev pub relaxed_by : (ℕ → Option Cost) → ℕ → Cost → ℕ → Option Cost
  relaxed_by f u c d = lesser N.rule (f d) (joined N.rule (Some c) (N.link u d))

module _ {Cost : Type 0} (N : Network Cost) (root : ℕ) where
  -- the costs before any router is done
  abbrev pub at_first : ℕ → Option Cost
  at_first x = cond (x == root) (Some N.rule.zero) None

  -- costs that no link changes any more
  pub record Relaxed (f : ℕ → Option Cost) : Type 0 where
    pub at_root : f root ≡ Some N.rule.zero
    pub comes : (d : ℕ) (b : Cost) → d < N.count → f d ≡ Some b → d ≢ root → Comes N (λ x. true) f d b
    pub within : (x d : ℕ) (c w : Cost) → f x ≡ Some c → N.link x d ≡ Some w → Within N f d (N.rule.join c w)

  -- the routers of the set are done: they are the nearest, and their links are relaxed
  pub record Settling (done : ℕ → Bool) (f : ℕ → Option Cost) : Type 0 where
    pub at_root : f root ≡ Some N.rule.zero
    pub known : (x : ℕ) → done x ≡ true → (a : Cost) × (f x ≡ Some a)
    pub above_zero : (d : ℕ) (b : Cost) → f d ≡ Some b → N.rule.lower b N.rule.zero ≡ false
    pub comes : (d : ℕ) (b : Cost) → f d ≡ Some b → d ≢ root → Comes N done f d b
    pub within : (x d : ℕ) (c w : Cost) → done x ≡ true → f x ≡ Some c → N.link x d ≡ Some w → Within N f d (N.rule.join c w)
    pub nearer : (x y : ℕ) (a b : Cost) → done x ≡ true → done y ≡ false → f x ≡ Some a → f y ≡ Some b → N.rule.lower b a ≡ false

module _ {Cost : Type 0} (N : Network Cost) (father : Fathers) (root v : ℕ) where
  -- the cost of the best start of v at y
  unfoldable pub started : ℕ → Option Cost
  started y =
      lesser N.rule (cond (v == y && is_some (N.link root v)) (Some N.rule.zero) None)
      (least_below N.rule N.count (λ x. cond (leaves_branch N father root v x y) (joined N.rule (fall N father root v x) (N.link x y)) None))

  -- the cost of the best climb of v to y
  unfoldable pub climbed : ℕ → Option Cost
  climbed y = least_of N.rule (climbs N father root v N.count y)

  -- the cost at y that the costs of its children give
  unfoldable pub lifted : (ℕ → Option Cost) → ℕ → Option Cost
  lifted up_to y =
      lesser N.rule (started y)
      (cond (avoids root y) (least_below N.rule N.count (λ x. cond (is_number (father root x) y) (joined N.rule (up_to x) (N.link x y)) None)) None)

  -- the cost at y that the cost of its father gives
  unfoldable pub lowered : (ℕ → Option Cost) → (ℕ → Option Cost) → ℕ → Option Cost
  lowered up_to down_to y = lesser N.rule (up_to y) (when_some (father root y) None (λ p. joined N.rule (down_to p) (N.link p y)))

  -- c is the cost of a climb to x and of the link from there to its father y
  abbrev pub FromChild : ℕ → ℕ → Cost → Type 0
  FromChild x y c = (father root x ≡ Some y) × (y ≢ root) × ((b w : Cost) × Climb N father root v x b × (N.link x y ≡ Some w) × (c ≡ N.rule.join b w))

  -- each cost is the least of the starts there and of the climbs from the children that are done
  pub record Climbing (done : ℕ → Bool) (up_to : ℕ → Option Cost) : Type 0 where
    pub each : (y : ℕ) → IsLeast N.rule (λ c. Start N father root v y c ⊎ ((x : ℕ) × (done x ≡ true) × FromChild x y c)) (up_to y)

  -- the costs with the climb from x to its father taken, where that is lower
  abbrev pub climbed_by : (ℕ → Option Cost) → ℕ → ℕ → Option Cost
  climbed_by up_to x y =
      lesser N.rule (up_to y) (cond (is_number (father root x) y && avoids root y) (joined N.rule (up_to x) (N.link x y)) None)
