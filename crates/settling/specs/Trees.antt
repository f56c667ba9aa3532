-- Fathers by the costs that are known, and tree hops by the fathers.
use Rattle.std.specs.Prelude.{◌≡◌, ℕ, ◌<◌, ◌≤◌, Bool, cond, ◌⊎◌, List, length, Some, None, Option, ◌==◌, slice_index, slice_index_or}
use Rattle.costs.specs.Costs.{Costs, Joinable}
use Rattle.routes.specs.Leasts.{joined, same}
use Rattle.routes.specs.Lists.{lowest, when_some}
use Rattle.routes.specs.Network.{Network}
use Rattle.squares.specs.Known.{Short}

-- two costs that can be joined where both are there
abbrev pub CanJoin : {C : Type 0} → Costs C → Option C → Option C → Type 0
CanJoin {C} rule cost link = (a l : C) → cost ≡ Some a → link ≡ Some l → Joinable rule a l

-- costs of the routers below the count that can be joined with that of a link
abbrev pub Shorts : {C : Type 0} → Costs C → ℕ → (ℕ → Option C) → Type 0
Shorts {C} rule count f = (x : ℕ) (a : C) → x < count → f x ≡ Some a → Short rule a

-- whether the cost of x, joined with that of its link to d, is the cost of d
abbrev pub passes : {C : Type 0} → Network C → (ℕ → Option C) → ℕ → ℕ → Bool
passes N f d x = same N.rule (joined N.rule (f x) (N.link x d)) (f d)

-- the lowest router by which the cost of d comes
abbrev pub father_by : {C : Type 0} → Network C → (ℕ → Option C) → ℕ → Option ℕ
father_by N f d = lowest N.count (passes N f d)

-- the tree hop of d, by its father and that one's tree hop
abbrev pub hop_by : List (Option ℕ) → ℕ → (ℕ → Option ℕ) → ℕ → Option ℕ
hop_by fathers root h d = when_some (slice_index_or fathers d None) None (λ x. cond (x == root) (Some d) (h x))

-- tree hops that go by the fathers
abbrev pub Hops : List (Option ℕ) → ℕ → (ℕ → Option ℕ) → Type 0
Hops fathers root h = (d : ℕ) → h d ≡ hop_by fathers root h d

-- An order that has every router with a father, after its father where that is not the root.
pub record FathersFirst (fathers : List (Option ℕ)) (root : ℕ) (order : List ℕ) : Type 0 where
  pub fits : length order ≤ 32
  pub routers : (i : ℕ) → i < length order → slice_index order i < 32
  pub bounded : (d x : ℕ) → slice_index_or fathers d None ≡ Some x → x < 32
  pub each : (d x : ℕ) → slice_index_or fathers d None ≡ Some x → (i : ℕ) × (i < length order) × (slice_index order i ≡ d)
  pub before : (i x : ℕ) → i < length order → slice_index_or fathers (slice_index order i) None ≡ Some x → (x ≡ root) ⊎ ((j : ℕ) × (j < i) × (slice_index order j ≡ x))
