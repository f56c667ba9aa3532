-- Costs that a memory holds for the routers of a mask, and a cost offered to one of them.
use Rattle.std.specs.Prelude.{ℕ, ◌≤◌, cond, List, Some, None, Option, ◌==◌, slice_index_or}
use Rattle.costs.specs.Costs.{Costs, Joins}
use Rattle.masks.specs.Sets.{holds}
use Rattle.routes.specs.Leasts.{lesser}

-- the costs known: what the memory holds for the routers of the mask
abbrev pub costs_in : {C : Type 0} → Costs C → List C → ℕ → ℕ → Option C
costs_in rule best known d = cond (holds known d) (Some (slice_index_or best d rule.zero)) None

-- the costs after one was offered to a router, which takes it where it is lower
abbrev pub with_offer : {C : Type 0} → Costs C → (ℕ → Option C) → ℕ → Option C → ℕ → Option C
with_offer rule f to offer d = cond (d == to) (lesser rule (f d) offer) (f d)

-- a cost that joins few enough links to be joined with one more
abbrev pub Short : {C : Type 0} → Costs C → C → Type 0
Short rule cost = (m : ℕ) × (m ≤ 126) × Joins rule m cost
