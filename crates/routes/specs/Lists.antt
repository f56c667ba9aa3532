-- Lists and choices over the numbers below a bound.
use Rattle.std.specs.Prelude.{ℕ, zero, suc, Bool, false, cond, List, [], ◌∷◌, ◌++◌, Some, None, Option, ◌==◌}
use Rattle.masks.specs.Sets as sets

-- the lists of 0 to n - 1, one after the other
unfoldable pub gather : {A : Type 0} → ℕ → (ℕ → List A) → List A
gather zero f = []
gather (suc n) f = gather n f ++ f n

-- the lowest number below n that passes the test
unfoldable pub lowest : ℕ → (ℕ → Bool) → Option ℕ
lowest zero p = None
lowest (suc n) p = elim (lowest n p) [ Some x ↦ Some x | None ↦ cond (p n) (Some n) None ]

-- the set of the numbers below n that pass the test, as a mask: that of `masks`
abbrev pub mask : ℕ → (ℕ → Bool) → ℕ
mask n p = sets.mask n p

-- what to make of a value that may be absent
abbrev pub when_some : {A B : Type 0} → Option A → B → (A → B) → B
when_some None b f = b
when_some (Some a) b f = f a

-- the list of a value that may be absent
abbrev pub listed : {A : Type 0} → Option A → List A
listed None = []
listed (Some a) = a ∷ []

-- whether the number is there, and is y
abbrev pub is_number : Option ℕ → ℕ → Bool
is_number (Some x) y = x == y
is_number None y = false
