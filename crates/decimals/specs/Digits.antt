-- Digits read one after another, as the reading of a number does.
use Rattle.std.specs.Prelude.{ℕ, ◌+◌, ◌-◌, ◌*◌, cond, ◌&&◌, List, Some, None, Option, nat_le}
use Rattle.decimals.specs.Numbers.{digit, all_digits, value}

-- one digit more behind those of n
abbrev pub one_more : ℕ → ℕ → Option ℕ
one_more n b = cond (digit b && nat_le (10 * n + (b - 48)) 4294967295) (Some (10 * n + (b - 48))) None

-- these digits behind those of n
abbrev pub digits_behind : ℕ → List ℕ → Option ℕ
digits_behind n bs = cond (all_digits bs && nat_le (value n bs) 4294967295) (Some (value n bs)) None
