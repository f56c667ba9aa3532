-- Fathers, and the tree of one root: tree paths, tree hops and branches.
use Rattle.std.specs.Prelude.{◌≡◌, ℕ, zero, suc, Bool, cond, ◌≢◌, List, [], ◌∷◌, ◌++◌, is_some, Some, None, Option, ◌==◌}
use Rattle.routes.specs.Leasts.{joined, same}
use Rattle.routes.specs.Lists.{lowest, is_number, when_some}
use Rattle.routes.specs.Network.{Network}
use Rattle.routes.specs.Routes.{best}

-- the father of a router on the page of a root, where it has one: first the root, then the router
abbrev pub Fathers : Type 0
Fathers = ℕ → ℕ → Option ℕ

module _ {Cost : Type 0} (N : Network Cost) where
  -- v is a neighbour of the root: the root has a link to it
  abbrev pub neighbour : ℕ → ℕ → Bool
  neighbour root v = is_some (N.link root v)

  -- x is a possible father of d: it has a link to d, and its best cost joined with that link's cost is the best cost of d
  abbrev pub PossibleFather : ℕ → ℕ → ℕ → Type 0
  PossibleFather root x d = (c w : Cost) × (best N root x ≡ Some c) × (N.link x d ≡ Some w) × (best N root d ≡ Some (N.rule.join c w))

  -- Fathers are chosen: each is a possible father, and a router that has possible fathers has a father.
  pub record Chooses (father : Fathers) : Type 0 where
    pub possible : (root d x : ℕ) → father root d ≡ Some x → PossibleFather root x d
    pub chosen : (root d x : ℕ) → PossibleFather root x d → father root d ≢ None

  -- whether x is a possible father of d
  unfoldable pub possible_father : ℕ → ℕ → ℕ → Bool
  possible_father root x d = same N.rule (joined N.rule (best N root x) (N.link x d)) (best N root d)

  -- of the possible fathers the one with the lowest number
  unfoldable pub lowest_father : Fathers
  lowest_father root d = lowest N.count (λ x. possible_father root x d)

module _ {Cost : Type 0} (N : Network Cost) (father : Fathers) (root : ℕ) where
  -- the tree path of d, of at most k links
  unfoldable pub path_in : ℕ → ℕ → List ℕ
  path_in zero d = d ∷ []
  path_in (suc k) d = when_some (father root d) (d ∷ []) (λ x. path_in k x ++ d ∷ [])

  -- the tree path of d: that of its father, and then d itself
  unfoldable pub path : ℕ → List ℕ
  path = path_in N.count

  -- the tree hop of d, at most k links from the root
  unfoldable pub hop_in : ℕ → ℕ → Option ℕ
  hop_in zero d = None
  hop_in (suc k) d = when_some (father root d) None (λ x. cond (x == root) (Some d) (hop_in k x))

  -- the tree hop of d: the first router after the root on its tree path
  unfoldable pub hop : ℕ → Option ℕ
  hop = hop_in N.count

  -- x is in the branch of h: its tree hop is h
  abbrev pub in_branch : ℕ → ℕ → Bool
  in_branch h x = is_number (hop x) h

  -- x hangs below v in the tree, by a tree path with cost c
  pub data Falls (v : ℕ) : ℕ → Cost → Type 0 where
    at : Falls v v N.rule.zero
    on : {p x : ℕ} {c w : Cost} → Falls v p c → father root x ≡ Some p → N.link p x ≡ Some w → Falls v x (N.rule.join c w)

  -- the cost of the tree path from v down to x, if it has at most k routers
  unfoldable pub fall_in : ℕ → ℕ → ℕ → Option Cost
  fall_in zero v x = None
  fall_in (suc k) v x =
      cond (v == x) (Some N.rule.zero)
      (when_some (father root x) None (λ p. joined N.rule (fall_in k v p) (N.link p x)))

  -- the cost of the tree path from v down to x
  unfoldable pub fall : ℕ → ℕ → Option Cost
  fall = fall_in N.count

-- the second of a list
abbrev pub second : List ℕ → Option ℕ
second [] = None
second (x ∷ []) = None
second (x ∷ y ∷ ys) = Some y
