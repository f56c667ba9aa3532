-- Net K, a small network of five routers: what its pages hold. Then two readings that look right and are wrong.
use Rattle.std.specs.Prelude.{◌≡◌, ℕ, ◌+◌, ◌^◌, cond, ◌&&◌, ◌||◌, List, [], ◌∷◌, map, Some, None, Option, ◌==◌}
use Rattle.std.specs.Option.{option_map}
use Rattle.costs.specs.Sums.{sum}
use Rattle.costs.specs.Paths.{hops_width}
use Rattle.costs.specs.declared.path.PathCost.{PathCost}
use Rattle.tables.specs.Links.{Links, with_link}
use Rattle.routes.specs.Network.{Network, standing}
use Rattle.routes.specs.Routes.{Route, best}
use Rattle.routes.specs.Tree.{lowest_father}
use Rattle.routes.specs.Transverse.{rest}
use Rattle.routes.specs.Pages.{Page, page}
use Rattle.routes.specs.Walk.{trail}

-- the numbers of a list of two routers and a number, which both directions have
abbrev pub both_directions : List (ℕ × ℕ × ℕ) → Links
both_directions [] a b = None
both_directions (e ∷ es) a b =
    cond ((a == e.0 && b == e.1) || (a == e.1 && b == e.0)) (Some e.2) (both_directions es a b)

-- the numbers of Net K
abbrev pub numbers_K : Links
numbers_K = both_directions ((0, 1, 1) ∷ (0, 2, 3) ∷ (1, 3, 2) ∷ (2, 3, 1) ∷ (3, 4, 1) ∷ [])

-- Net K under the rule `sum`
abbrev pub K : Network ℕ
K = standing sum 5 numbers_K

-- Net K under the rule `hops-width`
abbrev pub W : Network PathCost
W = standing hops_width 5 numbers_K

-- the numbers with the direction from 3 to 4 cut, and no other
abbrev pub numbers_cut : Links
numbers_cut = with_link numbers_K 3 4 None

-- Net K after that cut
abbrev pub Cut : Network ℕ
Cut = standing sum 5 numbers_cut

-- a cost's hops and width
abbrev pub hops_and_width : Option PathCost → Option (ℕ × ℕ)
hops_and_width = option_map (λ c. (c.hops, c.width))

-- Where each father is the lowest:
module _ {Cost : Type 0} (N : Network Cost) where
  -- a root's page
  abbrev pub page_of : ℕ → Page
  page_of root = page N (lowest_father N) root

  -- the rest cost of v to d on a root's page
  abbrev pub rest_of : ℕ → ℕ → ℕ → Option Cost
  rest_of root v d = rest N (lowest_father N) root v d

  -- a walk from x to d
  abbrev pub walk_to : ℕ → List ℕ → ℕ → List ℕ
  walk_to d picks x = trail N (lowest_father N) d picks x

-- What the pages of Net K hold.
pub record NetK : Type 0 where
  -- page 0
  pub best_0 : map (best K 0) (0 ∷ 1 ∷ 2 ∷ 3 ∷ 4 ∷ []) ≡ Some 0 ∷ Some 1 ∷ Some 3 ∷ Some 3 ∷ Some 4 ∷ []
  pub fathers_0 : map (page_of K 0).father (1 ∷ 2 ∷ 3 ∷ 4 ∷ []) ≡ Some 0 ∷ Some 0 ∷ Some 1 ∷ Some 3 ∷ []
  pub rest_0_by_1 : map (rest_of K 0 1) (1 ∷ 2 ∷ 3 ∷ 4 ∷ []) ≡ Some 0 ∷ Some 3 ∷ Some 2 ∷ Some 3 ∷ []
  pub rest_0_by_2 : map (rest_of K 0 2) (1 ∷ 2 ∷ 3 ∷ 4 ∷ []) ≡ Some 3 ∷ Some 0 ∷ Some 1 ∷ Some 2 ∷ []
  pub valid_0 : map (page_of K 0).valid (2 ∷ 3 ∷ 4 ∷ []) ≡ 2 ^ 2 ∷ (2 ^ 1 + 2 ^ 2) ∷ (2 ^ 1 + 2 ^ 2) ∷ []
  pub other_0_to_2 : (page_of K 0).other 2 ≡ 2 ^ 1
  -- page 3
  pub valid_3 : map (page_of K 3).valid (0 ∷ 4 ∷ []) ≡ 2 ^ 1 ∷ 2 ^ 4 ∷ []
  pub other_3 : map (page_of K 3).other (0 ∷ 4 ∷ []) ≡ 2 ^ 2 ∷ 0 ∷ []
  -- page 2, to 1
  pub best_2_to_1 : best K 2 1 ≡ Some 3
  pub valid_2_to_1 : (page_of K 2).valid 1 ≡ 2 ^ 0 + 2 ^ 3
  pub rest_2_to_1 : (rest_of K 2 0 1 ≡ Some 1) × (rest_of K 2 3 1 ≡ Some 2)
  -- page 0 under `hops-width`, to 3
  pub best_by_width : hops_and_width (best W 0 3) ≡ Some (2, 1)
  pub rest_by_width : (hops_and_width (rest_of W 0 1 3) ≡ Some (1, 2)) × (hops_and_width (rest_of W 0 2 3) ≡ Some (1, 1))
  pub valid_by_width : (page_of W 0).valid 3 ≡ 2 ^ 1 + 2 ^ 2
  -- walks from 0 to 4
  pub walk_by_2 : walk_to K 4 (1 ∷ 0 ∷ 0 ∷ 0 ∷ []) 0 ≡ 0 ∷ 2 ∷ 3 ∷ 4 ∷ []
  pub walk_by_1 : walk_to K 4 (0 ∷ 0 ∷ 0 ∷ 0 ∷ []) 0 ≡ 0 ∷ 1 ∷ 3 ∷ 4 ∷ []
  -- with 3 to 4 cut, page 3 has no hop to 4, and there is no route from 0 to 4
  pub cut_hop : (page_of Cut 3).hop 4 ≡ None
  pub cut_sets : ((page_of Cut 3).valid 4 ≡ 0) × ((page_of Cut 3).other 4 ≡ 0)
  pub cut_best : best Cut 0 4 ≡ None

-- two ways from 0 to 3 of as many hops: the one by 1 is wider, and the one by 2 has the smaller numbers
abbrev pub numbers_wide : Links
numbers_wide = both_directions ((0, 1, 5) ∷ (0, 2, 3) ∷ (1, 3, 5) ∷ (2, 3, 3) ∷ [])

-- they as widths
abbrev pub Wide : Network PathCost
Wide = standing hops_width 4 numbers_wide

-- they added up
abbrev pub Light : Network ℕ
Light = standing sum 4 numbers_wide

-- The order of each rule: the greater width, and the smaller sum.
pub record RulesOrder : Type 0 where
  pub wider : hops_and_width (best Wide 0 3) ≡ Some (2, 5)
  pub by_wider : (page_of Wide 0).father 3 ≡ Some 1
  pub smaller : best Light 0 3 ≡ Some 6
  pub by_smaller : (page_of Light 0).father 3 ≡ Some 2

-- three routers, each pair with the same number
abbrev pub numbers_triangle : Links
numbers_triangle = both_directions ((0, 1, 1) ∷ (0, 2, 1) ∷ (1, 2, 1) ∷ [])

-- their network
abbrev pub Triangle : Network ℕ
Triangle = standing sum 3 numbers_triangle

-- Were an equal rest cost valid, 0 and 1 could pass a packet for 2 back and forth for ever.
pub record EqualRestCost : Type 0 where
  pub there : rest_of Triangle 0 1 2 ≡ best Triangle 0 2
  pub back : rest_of Triangle 1 0 2 ≡ best Triangle 1 2
  pub not_there : (page_of Triangle 0).valid 2 ≡ 2 ^ 2
  pub not_back : (page_of Triangle 1).valid 2 ≡ 2 ^ 2

-- a root with two neighbours that have no other link
abbrev pub numbers_fork : Links
numbers_fork = both_directions ((0, 1, 1) ∷ (0, 2, 1) ∷ [])

-- their network
abbrev pub Fork : Network ℕ
Fork = standing sum 3 numbers_fork

-- Were climbing to the root allowed, 1 would climb to 0, descend to 2 and be a candidate there, by a way back through the root.
pub record ClimbingThroughRoot : Type 0 where
  pub up_to_root : (page_of Fork 0).father 1 ≡ Some 0
  pub down_from_root : (page_of Fork 0).father 2 ≡ Some 0
  pub around : Route Fork 2 1 2 2
  pub no_candidate : rest_of Fork 0 1 2 ≡ None
