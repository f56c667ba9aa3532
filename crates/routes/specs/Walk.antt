-- Packets that go by valid hops, and walks, where each hop is chosen by a pick.
use Rattle.std.specs.Prelude.{◌≡◌, ℕ, suc, ◌-◌, ◌%◌, true, cond, List, [], ◌∷◌, length, take, Some, None, Option, ◌==◌, slice_index}
use Rattle.masks.specs.Sets.{members}
use Rattle.routes.specs.Lists.{when_some}
use Rattle.routes.specs.Network.{Network}
use Rattle.routes.specs.Tree.{Fathers}
use Rattle.routes.specs.Transverse.{valid, valid_set}

module _ {Cost : Type 0} (N : Network Cost) (father : Fathers) (d : ℕ) where
  -- k hops from a to x, each a valid hop for d
  pub data Hops : ℕ → ℕ → ℕ → Type 0 where
    here : {a : ℕ} → Hops 0 a a
    next : {k a x v : ℕ} → Hops k a x → valid N father x v d ≡ true → Hops (suc k) a v

  -- From x, whichever valid hop is picked each time, d is reached within k hops.
  pub data Arrives : ℕ → ℕ → Type 0 where
    there : {k : ℕ} → Arrives k d
    step : {k x : ℕ} → (v : ℕ) × (valid N father x v d ≡ true) → ((v : ℕ) → valid N father x v d ≡ true → Arrives k v) → Arrives (suc k) x

-- the router at the pick's position in a list, modulo the list's length; none of an empty one
unfoldable pub picked : ℕ → List ℕ → Option ℕ
picked pick [] = None
picked pick (x ∷ xs) = Some (slice_index (x ∷ xs) (pick % length (x ∷ xs)))

-- The routers met from x to d, the start included: a valid hop for each pick in turn, until d.
unfoldable pub walk : {Cost : Type 0} → Network Cost → Fathers → ℕ → List ℕ → ℕ → List ℕ
walk N father d [] x = x ∷ []
walk N father d (pick ∷ picks) x =
    cond (x == d) (x ∷ [])
    (x ∷ when_some (picked pick (members (valid_set N father x d) N.count)) [] (λ v. walk N father d picks v))

-- The routers that a walk meets: it breaks off at d, or after count - 1 hops.
abbrev pub trail : {Cost : Type 0} → Network Cost → Fathers → ℕ → List ℕ → ℕ → List ℕ
trail N father d picks x = walk N father d (take (N.count - 1) picks) x

-- the last of a list, or a where it is empty
abbrev pub last_of : ℕ → List ℕ → ℕ
last_of a [] = a
last_of a (x ∷ xs) = last_of x xs
