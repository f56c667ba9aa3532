-- Decimal numbers, as a link file has them.
use Rattle.std.specs.Prelude.{◌≡◌, ℕ, ◌+◌, ◌-◌, ◌*◌, ◌≤◌, Bool, true, false, cond, not, ◌&&◌, List, [], ◌∷◌, Some, None, decimal, Option, ◌==◌, nat_le}

-- a byte from `0` to `9`
abbrev pub digit : ℕ → Bool
digit b = nat_le 48 b && nat_le b 57

unfoldable pub all_digits : List ℕ → Bool
all_digits [] = true
all_digits (b ∷ bs) = digit b && all_digits bs

-- at least one byte, and no `0` in front of another
abbrev pub unpadded : List ℕ → Bool
unpadded [] = false
unpadded (b ∷ []) = true
unpadded (b ∷ c ∷ bs) = not (b == 48)

-- the number that the digits write behind those of n
unfoldable pub value : ℕ → List ℕ → ℕ
value n [] = n
value n (b ∷ bs) = value (10 * n + (b - 48)) bs

-- digits without leading zeros that write at most 4294967295, and the number they write
abbrev pub numeral : List ℕ → Option ℕ
numeral bs = cond (unpadded bs && (all_digits bs && nat_le (value 0 bs) 4294967295)) (Some (value 0 bs)) None

-- a text reads as a number exactly where it is that number written in decimal
pub record ReadsDecimal (text : List ℕ) (r : Option ℕ) : Type 0 where
  pub written : (n : ℕ) → r ≡ Some n → text ≡ decimal n
  pub bounded : (n : ℕ) → r ≡ Some n → n ≤ 4294967295
  pub read : (n : ℕ) → n ≤ 4294967295 → text ≡ decimal n → r ≡ Some n
