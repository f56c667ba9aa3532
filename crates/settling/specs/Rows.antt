-- Costs at each router, passed on along the tree.
use Rattle.std.specs.Prelude.{◌≡◌, ℕ, ◌<◌, Bool, cond, not, ◌&&◌, List, map, is_some, Some, None, Option, ◌==◌, slice_index_or}
use Rattle.std.specs.List.{range_with_len}
use Rattle.routes.specs.Leasts.{joined, lesser}
use Rattle.routes.specs.Lists.{when_some, is_number}
use Rattle.routes.specs.Network.{Network}
use Rattle.routes.specs.Routes.{avoids}
use Rattle.routes.specs.Tree.{lowest_father, hop}
use Rattle.squares.specs.Found.{NearestFirst}
use Rattle.squares.specs.Sequences.{items}
use Rattle.settling.specs.Trees.{CanJoin}
use Rattle.settling.specs.declared.tree.Tree.{Tree}

-- the fathers are the lowest, and the sequence goes by best cost
pub record TreeKnown {C : Type 0} (N : Network C) (tree : Tree) : Type 0 where
  pub father : tree.father ≡ map (lowest_father N tree.root) (range_with_len 0 32)
  pub order : NearestFirst N tree.root (items tree.found.order)

-- the tree hops go by the lowest fathers
abbrev pub HopsKnown : {C : Type 0} → Network C → Tree → Type 0
HopsKnown N tree = tree.hop ≡ map (hop N (lowest_father N) tree.root) (range_with_len 0 32)

-- the cost at d that the cost of its father gives
abbrev pub by_father : {C : Type 0} → Network C → Option ℕ → (ℕ → Option C) → ℕ → Option C
by_father N father f d = when_some father None (λ p. joined N.rule (f p) (N.link p d))

-- where d has a father, the father's cost can be joined with that of the link to d
abbrev pub ByFather : {C : Type 0} → Network C → List (Option ℕ) → (ℕ → Option C) → ℕ → Type 0
ByFather N fathers f d = (p : ℕ) → slice_index_or fathers d None ≡ Some p → (p < N.count) × CanJoin N.rule (f p) (N.link p d)

-- the cost at d with the way up from x to its father taken, where that is lower
abbrev pub to_father : {C : Type 0} → Network C → ℕ → Option ℕ → (ℕ → Option C) → ℕ → ℕ → Option C
to_father N root father f x d = lesser N.rule (f d) (cond (is_number father d && avoids root d) (joined N.rule (f x) (N.link x d)) None)

-- where x has a father, its cost can be joined with that of the link to the father
abbrev pub ToFather : {C : Type 0} → Network C → List (Option ℕ) → (ℕ → Option C) → ℕ → Type 0
ToFather N fathers f x = (p : ℕ) → slice_index_or fathers x None ≡ Some p → (p < N.count) × CanJoin N.rule (f x) (N.link x p)

-- the cost of the tree path from v down to d, by that of its father
abbrev pub own_cost : {C : Type 0} → Network C → ℕ → Option ℕ → (ℕ → Option C) → ℕ → Option C
own_cost N v father f d = cond (v == d) (Some N.rule.zero) (by_father N father f d)

-- whether the tree hop is there, and is another than v
abbrev pub other_hop : ℕ → Option ℕ → Bool
other_hop v h = is_some h && not (is_number h v)

-- what y, with this tree hop, is offered over the link from x, to which the tree path from v has this cost: nothing in the branch of v
abbrev pub crossing : {C : Type 0} → Network C → ℕ → Option ℕ → ℕ → Option C → ℕ → Option C
crossing N v h x cost y = cond (other_hop v h) (joined N.rule cost (N.link x y)) None
