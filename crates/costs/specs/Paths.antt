-- The rule `hops-width`: fewer hops, and then the greater width of the narrowest link.
use Rattle.std.specs.Prelude.{ℕ, ◌+◌, ◌^◌, ◌<◌, min, Bool, cond, ◌&&◌, ◌||◌, Some, None, Option, ◌==◌, nat_le, nat_lt}
use Rattle.std.proofs.Common.{lit<, arith}
use Rattle.costs.specs.declared.path.PathCost.{PathCost}
use Rattle.costs.specs.Costs.{Costs}

pub min_fits : (a b : ℕ) → a < 2 ^ 32 → min a b < 2 ^ 32
min_fits a b h = omega arith

abbrev pub no_hops : PathCost
no_hops = record { hops = 0; width = 4294967295; fits = lit< tt }

abbrev pub path_join : PathCost → PathCost → PathCost
path_join a b = record { hops = a.hops + b.hops; width = min a.width b.width; fits = min_fits a.width b.width a.fits }

abbrev pub path_lower : PathCost → PathCost → Bool
path_lower a b = nat_lt a.hops b.hops || (a.hops == b.hops && nat_lt b.width a.width)

-- one hop; no width is above 4294967295
abbrev pub one_hop : ℕ → PathCost
one_hop n = record { hops = 1; width = min 4294967295 n; fits = min_fits 4294967295 n (lit< tt) }

-- 1 to 4294967295, each as a width
abbrev pub path_read : ℕ → Option PathCost
path_read n = cond (nat_le 1 n && nat_le n 4294967295) (Some (one_hop n)) None

abbrev pub hops_width : Costs PathCost
hops_width = record { zero = no_hops; join = path_join; lower = path_lower; read = path_read }
