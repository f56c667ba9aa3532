-- What a search finds.
use Rattle.std.specs.Prelude.{◌≡◌, ℕ, ◌<◌, ◌≤◌, true, false, ◌&&◌, ◌≢◌, List, ◌++◌, map, length, drop, is_some, nat_lt, slice_index}
use Rattle.std.specs.List.{range_with_len}
use Rattle.masks.specs.Sets.{holds}
use Rattle.routes.specs.Leasts.{below}
use Rattle.routes.specs.Lists.{when_some}
use Rattle.routes.specs.Network.{Network}
use Rattle.routes.specs.Routes.{best}
use Rattle.squares.specs.Sequences.{items}
use Rattle.squares.specs.declared.found.Found.{Found}

-- costs as a memory holds them: the best cost of each router, the zero cost where there is none, and the rest of the memory as it was
abbrev pub best_memory : {C : Type 0} → Network C → ℕ → List C → List C
best_memory N root old = map (λ d. when_some (best N root d) N.rule.zero (λ c. c)) (range_with_len 0 N.count) ++ drop N.count old

-- The routers of a list are those with a best cost, each once, and none is nearer to the root than one before it.
-- So a father, which is strictly nearer, stands before its children.
pub record NearestFirst {C : Type 0} (N : Network C) (root : ℕ) (order : List ℕ) : Type 0 where
  pub fits : length order ≤ 32
  pub reached : (i : ℕ) → i < length order → (slice_index order i < N.count) × (is_some (best N root (slice_index order i)) ≡ true)
  pub each : (d : ℕ) → d < N.count → is_some (best N root d) ≡ true → (i : ℕ) × (i < length order) × (slice_index order i ≡ d)
  pub once : (i j : ℕ) → i < j → j < length order → slice_index order i ≢ slice_index order j
  pub rising : (i j : ℕ) → i < j → j < length order → below N.rule (best N root (slice_index order j)) (best N root (slice_index order i)) ≡ false

-- the best costs stand in the memory, the mask has the routers with a best cost, and the sequence goes by best cost
pub record Searched {C : Type 0} (N : Network C) (root : ℕ) (old new : List C) (r : Found) : Type 0 where
  pub memory : new ≡ best_memory N root old
  pub known : (d : ℕ) → holds r.known d ≡ (nat_lt d N.count && is_some (best N root d))
  pub order : NearestFirst N root (items r.order)
