-- The network of routers and the costs of links between them.
use Rattle.std.specs.Prelude.{ℕ, Option}
use Rattle.costs.specs.Costs.{Costs}
use Rattle.routes.specs.Network.{Network}

-- by the members of the trait `LinkCosts`: how many routers there are, and the cost of each link
abbrev pub network : {C L : Type 0} → Costs C → (L → ℕ) → (L → ℕ → ℕ → Option C) → L → Network C
network rule routers costs links = record { rule = rule; count = routers links; link = costs links }
