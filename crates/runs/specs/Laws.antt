-- What holds over every list of calls.
use Rattle.std.specs.Prelude.{◌≡◌, ℕ, suc, ◌-◌, ◌<◌, ◌≤◌, true, ◌≢◌, ◌⊎◌, ◌↔◌, List, [], ◌∷◌, length, Some, None, Ok, Err, Option}
use Rattle.area.specs.Areas.{Area, opened, hops_answer, path_answer, path_leaves, walk_answer, walk_leaves}
use Rattle.costs.specs.Costs.{Costs}
use Rattle.faults.specs.declared.fault.Fault.TheVariants as fault
use Rattle.faults.specs.declared.refusal.Refusal.TheVariants.{NoRoute, NotArrived}
use Rattle.masks.specs.Sets.{holds}
use Rattle.memory.specs.Writes.{laid}
use Rattle.routes.specs.Network.{Network}
use Rattle.routes.specs.Routes.{Route, best}
use Rattle.routes.specs.Theorems.{Leaves}
use Rattle.routes.specs.Transverse.{valid_set, other_set}
use Rattle.routes.specs.Tree.{lowest_father, hop, path as tree_path}
use Rattle.routes.specs.Walk.{trail, last_of}
use Rattle.tables.specs.Links.{no_links}
use Rattle.tables.specs.Tables.{Table}
use Rattle.runs.specs.Calls.{Call, put, cut, settle, hops, path, walk, Reply, Event, Runs}
use Rattle.runs.specs.Ledgers.{Ledger, empty, Terms, terms_of, own_links, after, Agrees}

-- an area newly opened on a plain table that keeps nothing
pub record New (a : Area) : Type 0 where
  pub table : Table
  pub opens : a ≡ opened table
  pub plainly : table.plain ≡ true
  pub nothing : table.kept ≡ no_links

-- ---- what hops answers
-- The hops that an area answers on the page of a root towards a router, by the links N.
pub record RightHops {C : Type 0} (N : Network C) (root to : ℕ) (tree : Option ℕ) (valid other : ℕ) : Type 0 where
  -- they are the tree hop and the sets of the definitions
  pub tree_is : tree ≡ hop N (lowest_father N) root to
  pub valid_is : valid ≡ valid_set N (lowest_father N) root to
  pub other_is : other ≡ other_set N (lowest_father N) root to
  -- each valid hop is a neighbour whose best cost is strictly below the root's
  pub descends : (v : ℕ) → holds valid v ≡ true →
      (w c b : C) × (N.link root v ≡ Some w) × (best N v to ≡ Some c) × (best N root to ≡ Some b) × (N.rule.lower c b ≡ true)
  -- towards another router there is a valid hop exactly where there is a route
  pub reaches : root ≢ to → ((v : ℕ) × (holds valid v ≡ true)) ↔ ((j : ℕ) × (c : C) × (j ≤ 99) × Route N j root to c)
  -- besides the tree hop there is a hop exactly where a route leaves by another neighbour and never comes back to the root
  pub second : ((v : ℕ) × (tree ≢ Some v) × ((holds valid v ≡ true) ⊎ (holds other v ≡ true))) ↔ ((v : ℕ) × (tree ≢ Some v) × Leaves N root v to)

-- v is a valid hop that an area answers at x towards d
abbrev pub MayGo : Area → ℕ → ℕ → ℕ → Type 0
MayGo a d x v = (tree : Option ℕ) × (valid other : ℕ) × (hops_answer a x d ≡ Ok (tree, valid, other)) × (holds valid v ≡ true)

-- From x, whichever valid hop is picked each time, a packet reaches d within k hops.
pub data Arrives (a : Area) (d : ℕ) : ℕ → ℕ → Type 0 where
  there : {k : ℕ} → Arrives a d k d
  step : {k x : ℕ} → (v : ℕ) × MayGo a d x v → ((v : ℕ) → MayGo a d x v → Arrives a d k v) → Arrives a d (suc k) x

-- ---- walks
-- A walk that is given room and picks, by the links N: where there is a route it arrives, by the routers that the picks choose;
-- without a route it is refused by 14.
pub record RightWalk {C : Type 0} (N : Network C) (a : Area) (from to : ℕ) (picks old : List ℕ) : Type 0 where
  pub arrives : (c : C) → best N from to ≡ Some c →
      (walk_answer a from to picks old ≡ Ok (length (trail N (lowest_father N) to picks from) - 1))
      × (walk_leaves a from to picks old ≡ laid old 0 (trail N (lowest_father N) to picks from))
      × (last_of from (trail N (lowest_father N) to picks from) ≡ to)
      × (length (trail N (lowest_father N) to picks from) ≤ N.count)
  pub no_route : best N from to ≡ None → (walk_answer a from to picks old ≡ Err (fault.Area NoRoute 0)) × (walk_leaves a from to picks old ≡ old)

-- ---- paths
-- A path that is given room, by the links N: the tree path where there is a route, and refused by 14 without one.
pub record RightPath {C : Type 0} (N : Network C) (a : Area) (root to : ℕ) (old : List ℕ) : Type 0 where
  pub written : (c : C) → best N root to ≡ Some c →
      (path_answer a root to old ≡ Ok (length (tree_path N (lowest_father N) root to)))
      × (path_leaves a root to old ≡ laid old 0 (tree_path N (lowest_father N) root to))
  pub no_route : best N root to ≡ None → (path_answer a root to old ≡ Err (fault.Area NoRoute 0)) × (path_leaves a root to old ≡ old)

-- ---- after a list of calls
pub record Stands {C : Type 0} (k : Costs C) (t : Terms) (a : Area) (l : Ledger) : Type 0 where
  -- on each page that hops grants
  pub hops_right : (root to : ℕ) (tree : Option ℕ) (valid other : ℕ) → hops_answer a root to ≡ Ok (tree, valid, other) → RightHops (own_links k t l) root to tree valid other
  -- on each page that is current
  pub paths : (root to : ℕ) (old : List ℕ) → l.current root ≡ true → root < t.count → to < t.count → t.count ≤ length old → RightPath (own_links k t l) a root to old
  -- where all pages are current, each packet with a route arrives in fewer hops than there are routers
  pub packets : ((r : ℕ) → r < t.count → l.current r ≡ true) → (from to : ℕ) (c : C) → from < t.count → best (own_links k t l) from to ≡ Some c → Arrives a to (t.count - 1) from
  -- and so does each walk
  pub walks : ((r : ℕ) → r < t.count → l.current r ≡ true) → (from to : ℕ) (picks old : List ℕ) → from < t.count → to < t.count → t.count ≤ length old → t.count - 1 ≤ length picks →
      RightWalk (own_links k t l) a from to picks old

-- The law: from a new area, over every list of calls, the ledger judges as the area does, and what then stands is right by its links.
abbrev pub Law : {C X : Type 0} → Costs C → (X → Area) → Type 0
Law {C} {X} k area = (x z : X) (es : List (Event C)) → New (area x) → Runs k area x es z →
    Agrees k (terms_of (area x).table) empty es × Stands k (terms_of (area x).table) (area z) (after k (terms_of (area x).table) empty es)

-- no walk of a list answers 15
abbrev pub Arriving : {C : Type 0} → (c : Call C) → Reply c → Type 0
Arriving (put from to number) r = Unit {0}
Arriving (cut from to) r = Unit {0}
Arriving (settle root best rest waiting) r = Unit {0}
Arriving (hops root to) r = Unit {0}
Arriving (path root to out) r = Unit {0}
Arriving (walk from to picks trail) r = r.0 ≢ Err (fault.Area NotArrived 0)

abbrev pub AllArrive : {C : Type 0} → List (Event C) → Type 0
AllArrive [] = Unit {0}
AllArrive (e ∷ es) = Arriving e.0 e.1 × AllArrive es

-- Walk never answers 15, on every opened area: also on one whose table kept numbers, plain or not.
abbrev pub NeverShort : {C X : Type 0} → Costs C → (X → Area) → Type 0
NeverShort {C} {X} k area = (x z : X) (es : List (Event C)) (t : Table) → area x ≡ opened t → Runs k area x es z → AllArrive es
