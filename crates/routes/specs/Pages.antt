-- The page of a root.
use Rattle.std.specs.Prelude.{ℕ, Option}
use Rattle.routes.specs.Network.{Network}
use Rattle.routes.specs.Tree.{Fathers, hop}
use Rattle.routes.specs.Transverse.{valid_set, other_set}

-- what is worked out for one root: the father, the tree hop, the valid set and the other set of each router
pub record Page : Type 0 where
  pub father : ℕ → Option ℕ
  pub hop : ℕ → Option ℕ
  pub valid : ℕ → ℕ
  pub other : ℕ → ℕ

-- the page of a root, by the links that stand and the fathers chosen
abbrev pub page : {Cost : Type 0} → Network Cost → Fathers → ℕ → Page
page N father root =
    record { father = father root; hop = hop N father root; valid = valid_set N father root; other = other_set N father root }
