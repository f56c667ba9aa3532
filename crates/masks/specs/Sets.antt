-- Sets of routers as masks: a router is in the set where its bit is 1.
use Rattle.std.specs.Prelude.{ℕ, zero, suc, ◌+◌, ◌/◌, ◌%◌, ◌^◌, Bool, cond, not, ◌&&◌, ◌||◌, List, [], ◌∷◌, ◌++◌, ◌==◌}

abbrev pub holds : ℕ → ℕ → Bool
holds mask router = mask / 2 ^ router % 2 == 1

-- the members below n, by rising number
unfoldable pub members : ℕ → ℕ → List ℕ
members mask zero = []
members mask (suc n) = cond (holds mask n) (members mask n ++ n ∷ []) (members mask n)

-- the set of the numbers below n that pass the test
unfoldable pub mask : ℕ → (ℕ → Bool) → ℕ
mask zero p = 0
mask (suc n) p = mask n p + cond (p n) (2 ^ n) 0

-- the set with one router more; from 32 on a router has no bit
abbrev pub including : ℕ → ℕ → ℕ
including set router = mask 32 (λ v. (v == router) || holds set v)

-- the members of a set that are not in another
abbrev pub besides : ℕ → ℕ → ℕ
besides set other = mask 32 (λ v. holds set v && not (holds other v))
