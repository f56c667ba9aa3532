-- What an area means, and what its calls answer and leave.
use Rattle.std.specs.Prelude.{◌≡◌, ℕ, ◌-◌, ◌*◌, cond, List, length, is_some, Some, None, Ok, Err, Option, Result, ◌==◌, nat_le, nat_lt, slice_index_or}
use Rattle.costs.specs.Costs.{Costs}
use Rattle.entries.specs.declared.Entry.{Entry}
use Rattle.faults.specs.Calls.{or_else, granted, in_area, in_table, done}
use Rattle.faults.specs.declared.fault.Fault.{Fault}
use Rattle.faults.specs.declared.fault.Fault.TheVariants as fault
use Rattle.faults.specs.declared.refusal.Refusal.{Refusal}
use Rattle.faults.specs.declared.refusal.Refusal.TheVariants.{NoSuchRouter, NumberNotRead, MemoryTooShort, TooFewPicks, StalePage, NoRoute, NotArrived}
use Rattle.memory.specs.Writes.{laid}
use Rattle.pagetable.specs.Pages.{all_blank, all_stale, entered, is_current, page_of, hops_to, path_by}
use Rattle.pagetable.specs.Walks.{trail_on, all_current}
use Rattle.pagetable.specs.declared.page.Page.{Page}
use Rattle.pagetable.specs.declared.table.PageTable.{PageTable}
use Rattle.reports.specs.Reports.{report_text}
use Rattle.routes.specs.Walk.{last_of}
use Rattle.squares.specs.Found.{best_memory}
use Rattle.page_settling.specs.Settled.{page_kept, rest_memory, Answers}
use Rattle.tables.specs.Tables.{Table, Changed, pair_refusal, number_refusal, room_refusal, kept_refusal}
use Rattle.area.specs.Networks.{standing_on}

-- the table that an area is laid on, below the two-way check, and its pages
pub record Area : Type 0 where
  pub table : Table
  pub pages : PageTable

-- a new area: all pages are stale
abbrev pub opened : Table → Area
opened t = record { table = t; pages = all_blank }

-- ---- refusals, each by its condition
-- 1: a router is not below the count
abbrev pub router_refusal : ℕ → ℕ → Option Refusal
router_refusal count router = cond (nat_lt router count) None (Some NoSuchRouter)

-- 3: the rule does not read the number
abbrev pub rule_refusal : {C : Type 0} → Costs C → ℕ → Option Refusal
rule_refusal rule number = cond (is_some (rule.read number)) None (Some NumberNotRead)

-- 5: a memory has fewer places than are needed
abbrev pub room_short : ℕ → ℕ → Option Refusal
room_short needed places = cond (nat_le needed places) None (Some MemoryTooShort)

-- 6: there are fewer picks than hops that a walk may make
abbrev pub picks_refusal : ℕ → ℕ → Option Refusal
picks_refusal count picks = cond (nat_le (count - 1) picks) None (Some TooFewPicks)

-- 13: the page is stale
abbrev pub stale_refusal : PageTable → ℕ → Option Refusal
stale_refusal pages root = cond (is_current pages root) None (Some StalePage)

-- 13: any page is stale
abbrev pub any_stale : PageTable → ℕ → Option Refusal
any_stale pages count = cond (all_current pages count) None (Some StalePage)

-- 14: the page has no father for the router, which is not its root
abbrev pub route_refusal : Page → ℕ → ℕ → Option Refusal
route_refusal page root to = cond (to == root) None (cond (is_some (slice_index_or page.father to None)) None (Some NoRoute))

-- ---- faults of the calls: the first refusal that is met, by rising number
abbrev pub put_fault : {C : Type 0} → Costs C → Table → ℕ → ℕ → ℕ → Option Fault
put_fault rule t from to number =
    or_else (in_area (pair_refusal t.count from to))
    (or_else (in_area (rule_refusal rule number))
    (or_else (in_table (number_refusal t.greatest number))
    (in_table (room_refusal t.count t.limit t.kept from to))))

abbrev pub cut_fault : Table → ℕ → ℕ → Option Fault
cut_fault t from to = or_else (in_area (pair_refusal t.count from to)) (in_table (kept_refusal t.kept from to))

abbrev pub settle_fault : ℕ → ℕ → ℕ → ℕ → ℕ → Option Fault
settle_fault count root best rest waiting =
    in_area (or_else (router_refusal count root)
    (or_else (room_short count best)
    (or_else (room_short (count * count) rest)
    (room_short (count * count) waiting))))

abbrev pub hops_fault : Area → ℕ → ℕ → Option Fault
hops_fault a root to =
    in_area (or_else (router_refusal a.table.count root)
    (or_else (router_refusal a.table.count to)
    (stale_refusal a.pages root)))

abbrev pub path_fault : Area → ℕ → ℕ → ℕ → Option Fault
path_fault a root to places =
    in_area (or_else (router_refusal a.table.count root)
    (or_else (router_refusal a.table.count to)
    (or_else (room_short a.table.count places)
    (or_else (stale_refusal a.pages root)
    (route_refusal (page_of a.pages root) root to)))))

-- of the area, from where and to where, how many picks, and the places of the trail
abbrev pub walk_fault : Area → ℕ → ℕ → ℕ → ℕ → Option Fault
walk_fault a from to picks places =
    in_area (or_else (router_refusal a.table.count from)
    (or_else (router_refusal a.table.count to)
    (or_else (room_short a.table.count places)
    (or_else (picks_refusal a.table.count picks)
    (or_else (any_stale a.pages a.table.count)
    (route_refusal (page_of a.pages from) from to))))))

abbrev pub report_fault : Area → ℕ → ℕ → Option Fault
report_fault a root places =
    in_area (or_else (router_refusal a.table.count root)
    (or_else (room_short 4096 places)
    (stale_refusal a.pages root)))

-- ---- the calls
-- what a granted call answers, or its fault
abbrev pub answered : {X : Type 0} → Option Fault → X → Result X Fault
answered None x = Ok x
answered (Some f) x = Err f

-- a put or a cut sets the pair's number and makes every page stale, unless there is a fault
pub record Changes (fault : Option Fault) (from to : ℕ) (number : Option ℕ) (a : Area) (r : Result (Unit {0}) Fault) (b : Area) : Type 0 where
  pub answer : r ≡ done fault
  pub table : Changed fault from to number a.table b.table
  pub pages : b.pages ≡ granted fault (all_stale a.pages) a.pages

abbrev pub Put : {C : Type 0} → Costs C → ℕ → ℕ → ℕ → Area → Result (Unit {0}) Fault → Area → Type 0
Put rule from to number a r b = Changes (put_fault rule a.table from to number) from to (Some number) a r b

abbrev pub Cut : ℕ → ℕ → Area → Result (Unit {0}) Fault → Area → Type 0
Cut from to a r b = Changes (cut_fault a.table from to) from to None a r b

-- what a refused call leaves as it was, and a granted one leaves at any value
abbrev pub FreeWhereGranted : {X : Type 0} → Option Fault → X → X → Type 0
FreeWhereGranted None old new = Unit {0}
FreeWhereGranted (Some f) old new = new ≡ old

-- what holds where a call is granted
abbrev pub WhereGranted : Option Fault → Type 0 → Type 0
WhereGranted None P = P
WhereGranted (Some f) P = Unit {0}

-- A settle leaves the table, enters the page of the links standing, which answers the hops of the definitions, and leaves
-- best costs and rest costs in the handed memories.
pub record Settles {C : Type 0} (rule : Costs C) (fault : Option Fault) (root : ℕ) (a : Area) (best rest : List C) (waiting : List (Entry C))
    (r : Result (Unit {0}) Fault) (b : Area) (best' rest' : List C) (waiting' : List (Entry C)) : Type 0 where
  pub answer : r ≡ done fault
  pub table : b.table ≡ a.table
  pub pages : b.pages ≡ granted fault (entered root (page_kept (standing_on rule a.table) root) a.pages) a.pages
  pub hops : WhereGranted fault (Answers (standing_on rule a.table) root (page_kept (standing_on rule a.table) root))
  pub best_costs : best' ≡ granted fault (best_memory (standing_on rule a.table) root best) best
  pub rest_costs : rest' ≡ granted fault (rest_memory (standing_on rule a.table) root rest) rest
  pub entries : FreeWhereGranted fault waiting waiting'

abbrev pub Settle : {C : Type 0} → Costs C → ℕ → Area → List C → List C → List (Entry C) → Result (Unit {0}) Fault → Area → List C → List C → List (Entry C) → Type 0
Settle rule root a best rest waiting r b best' rest' waiting' =
    Settles rule (settle_fault a.table.count root (length best) (length rest) (length waiting)) root a best rest waiting r b best' rest' waiting'

-- hops answers the tree hop, the valid set and the other set of the page
abbrev pub hops_answer : Area → ℕ → ℕ → Result (Option ℕ × ℕ × ℕ) Fault
hops_answer a root to = answered (hops_fault a root to) (hops_to (page_of a.pages root) to)

-- the tree path by the fathers of the page: it has no more routers than there are
abbrev pub path_on_page : Area → ℕ → ℕ → List ℕ
path_on_page a root to = path_by (page_of a.pages root).father (a.table.count - 1) to

-- path answers how many routers it has, and leaves it at the front of the memory
abbrev pub path_answer : Area → ℕ → ℕ → List ℕ → Result ℕ Fault
path_answer a root to old = answered (path_fault a root to (length old)) (length (path_on_page a root to))

abbrev pub path_leaves : Area → ℕ → ℕ → List ℕ → List ℕ
path_leaves a root to old = granted (path_fault a root to (length old)) (laid old 0 (path_on_page a root to)) old

-- the routers that a walk on an area meets
abbrev pub walk_on : Area → ℕ → ℕ → List ℕ → List ℕ
walk_on a from to picks = trail_on a.pages a.table.count to picks from

-- 15: the walk has made its last hop and has not arrived
abbrev pub arrived : ℕ → ℕ → List ℕ → Result ℕ Fault
arrived from to met = cond (last_of from met == to) (Ok (length met - 1)) (Err (fault.Area NotArrived 0))

-- what a granted walk comes to, or the fault
abbrev pub walked : Option Fault → Result ℕ Fault → Result ℕ Fault
walked None r = r
walked (Some f) r = Err f

-- walk answers its hops, and leaves the routers met at the front of the trail; where it has not arrived too
abbrev pub walk_answer : Area → ℕ → ℕ → List ℕ → List ℕ → Result ℕ Fault
walk_answer a from to picks old = walked (walk_fault a from to (length picks) (length old)) (arrived from to (walk_on a from to picks))

abbrev pub walk_leaves : Area → ℕ → ℕ → List ℕ → List ℕ → List ℕ
walk_leaves a from to picks old = granted (walk_fault a from to (length picks) (length old)) (laid old 0 (walk_on a from to picks)) old

-- the report of the page of a root
abbrev pub report_of : Area → ℕ → List ℕ
report_of a root = report_text a.table.count root (page_of a.pages root)

-- report answers how many bytes it has, and leaves it at the front of the memory
abbrev pub report_answer : Area → ℕ → List ℕ → Result ℕ Fault
report_answer a root old = answered (report_fault a root (length old)) (length (report_of a root))

abbrev pub report_leaves : Area → ℕ → List ℕ → List ℕ
report_leaves a root old = granted (report_fault a root (length old)) (laid old 0 (report_of a root)) old
