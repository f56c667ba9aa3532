-- The links that stand in an area, and how they are read off its table.
use Rattle.std.specs.Prelude.{ℕ, ◌*◌, ◌/◌, ◌%◌, cond, List, map, nat_lt}
use Rattle.std.specs.List.{range_with_len}
use Rattle.costs.specs.Costs.{Costs}
use Rattle.routes.specs.Lists.{when_some}
use Rattle.routes.specs.Network.{Network, standing}
use Rattle.tables.specs.Tables.{Table}

-- the links that stand on a table: it shows them both ways, and the rule reads a cost from the number of the link's own direction
abbrev pub standing_on : {C : Type 0} → Costs C → Table → Network C
standing_on rule t = standing rule t.count t.shown

-- the number that a table shows, 0 where it shows none: no rule reads that
abbrev pub number_shown : Table → ℕ → ℕ → ℕ
number_shown t from to = when_some (t.shown from to) 0 (λ n. n)

-- the numbers of all pairs in a square: that from a to b at place a × count + b, and 0 behind the square
abbrev pub number_at : Table → ℕ → ℕ
number_at t place = cond (nat_lt place (t.count * t.count)) (number_shown t (place / t.count) (place % t.count)) 0

abbrev pub numbers_shown : Table → List ℕ
numbers_shown t = map (number_at t) (range_with_len 0 1024)
