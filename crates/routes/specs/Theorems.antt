-- What holds of routes, trees, transverse routes and valid hops, for every cost rule and whichever fathers are chosen.
use Rattle.std.specs.Prelude.{◌≡◌, ℕ, ◌-◌, ◌^◌, ◌<◌, ◌≤◌, Bool, true, false, ◌&&◌, ◌≢◌, ◌⊎◌, ◌↔◌, List, [], ◌∷◌, ◌++◌, length, is_some, Some, None, Option, nat_lt}
use Rattle.costs.specs.Costs.{Costs, Laws}
use Rattle.masks.specs.Sets.{holds}
use Rattle.tables.specs.Links.{Links}
use Rattle.routes.specs.Leasts.{IsLeast, below, joined}
use Rattle.routes.specs.Network.{Network, Sound, TwoWay, standing}
use Rattle.routes.specs.Routes.{Through, Route, avoids, best}
use Rattle.routes.specs.Tree.{Fathers, PossibleFather, Chooses, lowest_father, hop, path, fall, second}
use Rattle.routes.specs.Transverse.{Transverse, rest, valid, other, valid_set, other_set}
use Rattle.routes.specs.Pages.{page}
use Rattle.routes.specs.Walk.{Hops, Arrives, trail, last_of}
use Rattle.routes.specs.Settling.{also, Nearest, relaxed_by, at_first, Relaxed, Settling, started, climbed, lifted, lowered, Climbing, climbed_by}

-- The tree at a router d with a route, other than the root.
pub record InTree {Cost : Type 0} (N : Network Cost) (father : Fathers) (root d : ℕ) (b : Cost) : Type 0 where
  -- d has a father, strictly nearer to the root
  pub above : ℕ
  pub cost_above : Cost
  pub father_is : father root d ≡ Some above
  pub best_above : best N root above ≡ Some cost_above
  pub nearer : N.rule.lower cost_above b ≡ true
  -- the tree path is the father's and then d, and its cost is the best cost
  pub path_on : path N father root d ≡ path N father root above ++ d ∷ []
  pub path_cost : fall N father root root d ≡ Some b
  -- the tree hop is a neighbour of the root
  pub head : ℕ
  pub first : Cost
  pub hop_is : hop N father root d ≡ Some head
  pub neighbour : N.link root head ≡ Some first

-- The tree path of a router d with a route.
pub record OnPath {Cost : Type 0} (N : Network Cost) (father : Fathers) (root d : ℕ) : Type 0 where
  -- the root's is the root alone
  pub of_root : path N father root root ≡ root ∷ []
  -- the tree hop is the second router on it
  pub by_hop : hop N father root d ≡ second (path N father root d)
  -- it has no more routers than there are
  pub fits : length (path N father root d) ≤ N.count

-- Some route of at most 99 links from the root to d leaves by v and never comes back to the root.
abbrev pub Leaves : {Cost : Type 0} (N : Network Cost) → ℕ → ℕ → ℕ → Type 0
Leaves {Cost} N root v d = (k : ℕ) × (w c : Cost) × (k ≤ 98) × (N.link root v ≡ Some w) × Through N (avoids root) k v d c

-- The sets of a page as masks of 32 bits.
pub record Masked {Cost : Type 0} (N : Network Cost) (father : Fathers) (root d : ℕ) : Type 0 where
  pub valid_has : (v : ℕ) → holds (valid_set N father root d) v ≡ (nat_lt v N.count && valid N father root v d)
  pub other_has : (v : ℕ) → holds (other_set N father root d) v ≡ (nat_lt v N.count && other N father root v d)
  pub valid_fits : valid_set N father root d < 2 ^ 32
  pub other_fits : other_set N father root d < 2 ^ 32

-- Settling one root, nearest router first.
pub record Settles {Cost : Type 0} (N : Network Cost) (root : ℕ) : Type 0 where
  pub begins : Settling N root (λ x. false) (at_first N root)
  pub goes_on : (done : ℕ → Bool) (f : ℕ → Option Cost) (u : ℕ) (c : Cost) → Settling N root done f → Nearest N done f u c →
      Settling N root (also done u) (relaxed_by N f u c)
  -- where none waits, the costs are the best costs
  pub ends : (done : ℕ → Bool) (f : ℕ → Option Cost) → Settling N root done f → ((x : ℕ) (c : Cost) → f x ≡ Some c → done x ≡ true) →
      (d : ℕ) → d < N.count → f d ≡ best N root d

-- The rest costs of v by a pass of climbing and one of descending.
pub record Passes {Cost : Type 0} (N : Network Cost) (father : Fathers) (root v : ℕ) : Type 0 where
  pub climbing : (y : ℕ) → climbed N father root v y ≡ lifted N father root v (climbed N father root v) y
  pub descending : (y : ℕ) → rest N father root v y ≡ lowered N father root v (climbed N father root v) (rest N father root v) y
  -- whatever solves both equations is the rest costs
  pub only : (up_to down_to : ℕ → Option Cost) →
      ((y : ℕ) → y < N.count → up_to y ≡ lifted N father root v up_to y) →
      ((y : ℕ) → y < N.count → down_to y ≡ lowered N father root v up_to down_to y) →
      (y : ℕ) → y < N.count → down_to y ≡ rest N father root v y

-- Climbing router by router, each after its children.
pub record Climbs {Cost : Type 0} (N : Network Cost) (father : Fathers) (root v : ℕ) : Type 0 where
  pub begins : Climbing N father root v (λ x. false) (started N father root v)
  pub goes_on : (done : ℕ → Bool) (up_to : ℕ → Option Cost) (x : ℕ) → Climbing N father root v done up_to →
      ((z : ℕ) → father root z ≡ Some x → done z ≡ true) → Climbing N father root v (also done x) (climbed_by N father root v up_to x)
  -- where all are done, the costs are those of the best climbs
  pub ends : (done : ℕ → Bool) (up_to : ℕ → Option Cost) → Climbing N father root v done up_to → ((x : ℕ) → x < N.count → done x ≡ true) →
      (y : ℕ) → up_to y ≡ climbed N father root v y

module _ (Cost : Type 0) where
  -- The network of a kept map of at most 32 routers is sound.
  abbrev pub StandingIsSound : Type 0
  StandingIsSound = (rule : Costs Cost) → Laws rule → (count : ℕ) → count ≤ 32 → (kept : Links) → Sound (standing rule count kept)

  -- Where the rule reads every number that is kept, each of its links has one back.
  abbrev pub StandingIsTwoWay : Type 0
  StandingIsTwoWay = (rule : Costs Cost) (count : ℕ) (kept : Links) →
      ((a b n : ℕ) → kept a b ≡ Some n → is_some (rule.read n) ≡ true) → TwoWay (standing rule count kept)

  -- The best cost is the least over all routes of at most 99 links.
  abbrev pub BestIsLeast : Type 0
  BestIsLeast = (N : Network Cost) → Sound N → (a d : ℕ) →
      IsLeast N.rule (λ c. (k : ℕ) × (k ≤ 99) × Route N k a d c) (best N a d)

  -- For each route there is one that is no dearer and has fewer links than there are routers.
  abbrev pub RoutesAreShort : Type 0
  RoutesAreShort = (N : Network Cost) → Sound N → (k a d : ℕ) (c : Cost) → Route N k a d c →
      (j : ℕ) × (b : Cost) × (j < N.count) × Route N j a d b × (N.rule.lower c b ≡ false)

  -- To take the lowest possible father is to choose.
  abbrev pub LowestFatherChooses : Type 0
  LowestFatherChooses = (N : Network Cost) → Sound N → Chooses N (lowest_father N)

  -- It is a possible father, and no lower router is one.
  abbrev pub FatherIsLowest : Type 0
  FatherIsLowest = (N : Network Cost) → Sound N → (root d x : ℕ) →
      (lowest_father N root d ≡ Some x) ↔ (PossibleFather N root x d × ((y : ℕ) → y < x → PossibleFather N root y d → ⊥))

  -- Each router with a route, but the root, has a father, a tree path and a tree hop.
  abbrev pub TreeStands : Type 0
  TreeStands = (N : Network Cost) → Sound N → (father : Fathers) → Chooses N father → (root d : ℕ) (b : Cost) → best N root d ≡ Some b → d ≢ root →
      InTree N father root d b

  -- The tree path of each router with a route begins with the root and the tree hop, and fits a memory of count routers.
  abbrev pub PathStands : Type 0
  PathStands = (N : Network Cost) → Sound N → (father : Fathers) → Chooses N father → (root d : ℕ) (b : Cost) → best N root d ≡ Some b →
      OnPath N father root d

  -- The rest cost is the least over the transverse routes that end there.
  abbrev pub RestIsLeast : Type 0
  RestIsLeast = (N : Network Cost) → Sound N → (father : Fathers) → Chooses N father → (root v d : ℕ) →
      IsLeast N.rule (Transverse N father root v d) (rest N father root v d)

  -- The rest cost of the tree hop is that of the rest of the tree path, and the tree hop is valid.
  abbrev pub TreeHopIsValid : Type 0
  TreeHopIsValid = (N : Network Cost) → Sound N → (father : Fathers) → Chooses N father → (root d h : ℕ) → hop N father root d ≡ Some h →
      (rest N father root h d ≡ fall N father root h d) × (valid N father root h d ≡ true)

  -- A transverse route is a route of at most 98 links that never meets the root.
  abbrev pub TransverseRoutesAvoid : Type 0
  TransverseRoutesAvoid = (N : Network Cost) → Sound N → (father : Fathers) → Chooses N father → (root v d : ℕ) (c : Cost) → Transverse N father root v d c →
      (k : ℕ) × (k ≤ 98) × Through N (avoids root) k v d c

  -- The best cost from a valid hop is strictly below that from the root.
  abbrev pub ValidIsNearer : Type 0
  ValidIsNearer = (N : Network Cost) → Sound N → (father : Fathers) → Chooses N father → (root v d : ℕ) → valid N father root v d ≡ true →
      (a b : Cost) × (best N v d ≡ Some a) × (best N root d ≡ Some b) × (N.rule.lower a b ≡ true)

  -- Where every link has one back, there is a candidate besides the tree hop exactly where a route leaves by another neighbour
  -- and never comes back to the root.
  abbrev pub SecondCandidate : Type 0
  SecondCandidate = (N : Network Cost) → Sound N → TwoWay N → (father : Fathers) → Chooses N father → (root d h : ℕ) → hop N father root d ≡ Some h →
      ((v : ℕ) × (v ≢ h) × (is_some (rest N father root v d) ≡ true)) ↔ ((v : ℕ) × (v ≢ h) × Leaves N root v d)

  -- For the root itself, and for a router without a route, there is no tree hop and both sets are empty.
  abbrev pub NothingWithoutRoute : Type 0
  NothingWithoutRoute = (N : Network Cost) → Sound N → (father : Fathers) → Chooses N father → (root d : ℕ) → (d ≡ root) ⊎ (best N root d ≡ None) →
      (hop N father root d ≡ None) × (valid_set N father root d ≡ 0) × (other_set N father root d ≡ 0)

  -- A router is in the valid set, or in the other set, where its bit is 1, and both are masks of 32 bits.
  abbrev pub SetsAreMasks : Type 0
  SetsAreMasks = (N : Network Cost) → N.count ≤ 32 → (father : Fathers) (root d : ℕ) → Masked N father root d

  -- A page, its tree paths and its rest costs depend on the fathers of its own root only.
  abbrev pub OwnFathersMatter : Type 0
  OwnFathersMatter = (N : Network Cost) (father father' : Fathers) (root : ℕ) → ((d : ℕ) → father root d ≡ father' root d) →
      (page N father root ≡ page N father' root) ×
      ((d : ℕ) → path N father root d ≡ path N father' root d) ×
      ((v d : ℕ) → rest N father root v d ≡ rest N father' root v d)

  -- Going by valid hops, whichever is picked, a packet makes fewer hops than there are routers, and short of d it can go on.
  abbrev pub HopsArrive : Type 0
  HopsArrive = (N : Network Cost) → Sound N → (father : Fathers) → Chooses N father → (a d k x : ℕ) (b : Cost) → best N a d ≡ Some b → Hops N father d k a x →
      (k < N.count) × ((x ≡ d) ⊎ ((v : ℕ) × (valid N father x v d ≡ true)))

  -- From every router with a route to d, whichever valid hop is picked each time, d is reached within count - 1 hops.
  abbrev pub EveryPickArrives : Type 0
  EveryPickArrives = (N : Network Cost) → Sound N → (father : Fathers) → Chooses N father → (a d : ℕ) (b : Cost) → best N a d ≡ Some b →
      Arrives N father d (N.count - 1) a

  -- A walk that is given count - 1 picks or more ends at d, and meets no more routers than there are.
  abbrev pub WalkArrives : Type 0
  WalkArrives = (N : Network Cost) → Sound N → (father : Fathers) → Chooses N father → (a d : ℕ) (b : Cost) (picks : List ℕ) → best N a d ≡ Some b → N.count - 1 ≤ length picks →
      (last_of a (trail N father d picks a) ≡ d) × (length (trail N father d picks a) ≤ N.count)

  -- Costs that are zero at the root, that no link undercuts, and of which each but the root's comes over a link, are the best costs.
  abbrev pub RelaxedIsBest : Type 0
  RelaxedIsBest = (N : Network Cost) → Sound N → (root : ℕ) (f : ℕ → Option Cost) → root < N.count → Relaxed N root f →
      (d : ℕ) → d < N.count → f d ≡ best N root d

  -- Settling the nearest router that waits, again and again, comes to the best costs.
  abbrev pub SettlingSteps : Type 0
  SettlingSteps = (N : Network Cost) → Sound N → (root : ℕ) → root < N.count → Settles N root

  -- The rest costs solve the equations of a pass of climbing and one of descending, and nothing else does.
  abbrev pub PassesSolve : Type 0
  PassesSolve = (N : Network Cost) → Sound N → (father : Fathers) → Chooses N father → (root v : ℕ) → Passes N father root v

  -- Climbing router by router, each after its children, comes to the costs of the best climbs.
  abbrev pub ClimbingSteps : Type 0
  ClimbingSteps = (N : Network Cost) → Sound N → (father : Fathers) → Chooses N father → (root v : ℕ) → Climbs N father root v

  -- A candidate's whole cost, the link from the root joined with the rest cost, is never below the best cost: were it compared,
  -- no hop would be valid, not even the tree hop.
  abbrev pub WholeCostNeverBelow : Type 0
  WholeCostNeverBelow = (N : Network Cost) → Sound N → (father : Fathers) → Chooses N father → (root v d : ℕ) →
      below N.rule (joined N.rule (N.link root v) (rest N father root v d)) (best N root d) ≡ false
