-- The rule `sum`: numbers from 1 to 65535, added up.
use Rattle.std.specs.Prelude.{ℕ, ◌+◌, cond, ◌&&◌, Some, None, nat_le, nat_lt}
use Rattle.costs.specs.Costs.{Costs}

abbrev pub sum : Costs ℕ
sum = record { zero = 0; join = λ a b. a + b; lower = λ a b. nat_lt a b; read = λ n. cond (nat_le 1 n && nat_le n 65535) (Some n) None }
