-- The ledger: it is fed the arguments of calls, never an answer.
use Rattle.std.specs.Prelude.{◌≡◌, ℕ, Bool, true, false, cond, ◌||◌, List, [], ◌∷◌, length, Some, None, Ok, Err, Option, Result, ◌==◌}
use Rattle.area.specs.Areas.{put_fault, cut_fault, settle_fault, router_refusal}
use Rattle.costs.specs.Costs.{Costs}
use Rattle.faults.specs.Calls.{or_else, granted, in_area}
use Rattle.faults.specs.declared.fault.Fault.{Fault}
use Rattle.faults.specs.declared.refusal.Refusal.TheVariants.{StalePage}
use Rattle.routes.specs.Network.{Network, standing}
use Rattle.tables.specs.Links.{Links, no_links, with_link}
use Rattle.tables.specs.Tables.{Table}
use Rattle.runs.specs.Calls.{Call, put, cut, settle, hops, path, walk, Reply, Event}

-- the numbers of pairs, and which pages are current
pub record Ledger : Type 0 where
  pub numbers : Links
  pub current : ℕ → Bool

-- it starts with no numbers and all pages stale
abbrev pub empty : Ledger
empty = record { numbers = no_links; current = λ root. false }

-- what a ledger knows of the table: its count of routers, its greatest number and its limit
pub record Terms : Type 0 where
  pub count : ℕ
  pub greatest : ℕ
  pub limit : ℕ

abbrev pub terms_of : Table → Terms
terms_of t = record { count = t.count; greatest = t.greatest; limit = t.limit }

-- the fault that an answer tells
abbrev pub fault_told : {A : Type 0} → Result A Fault → Option Fault
fault_told (Ok x) = None
fault_told (Err f) = Some f

module _ {C : Type 0} (k : Costs C) (t : Terms) where
  -- a plain table of the ledger's numbers, by which put and cut are judged
  abbrev pub own_table : Ledger → Table
  own_table l = record { kept = l.numbers; shown = l.numbers; count = t.count; greatest = t.greatest; limit = t.limit; plain = true }

  -- the links of the ledger: both directions have numbers, and the link's own gives its cost
  abbrev pub own_links : Ledger → Network C
  own_links l = standing k t.count l.numbers

  -- the refusals of hops on the ledger's own pages
  abbrev pub hops_judged : Ledger → ℕ → ℕ → Option Fault
  hops_judged l root to =
      in_area (or_else (router_refusal t.count root)
      (or_else (router_refusal t.count to)
      (cond (l.current root) None (Some StalePage))))

  abbrev pub settle_judged : ℕ → ℕ → ℕ → ℕ → Option Fault
  settle_judged root best rest waiting = settle_fault t.count root best rest waiting

  -- a change of one pair's number makes all pages stale
  abbrev pub changed : Ledger → ℕ → ℕ → Option ℕ → Ledger
  changed l from to number = record { numbers = with_link l.numbers from to number; current = λ root. false }

  -- a settled page is current
  abbrev pub settled : Ledger → ℕ → Ledger
  settled l root = record { numbers = l.numbers; current = λ r. (r == root) || l.current r }

  -- the ledger after a call: a granted put enters its number, a granted cut removes one, a granted settle makes its page current
  abbrev pub noted : Ledger → Call C → Ledger
  noted l (put from to number) = granted (put_fault k (own_table l) from to number) (changed l from to (Some number)) l
  noted l (cut from to) = granted (cut_fault (own_table l) from to) (changed l from to None) l
  noted l (settle root best rest waiting) = granted (settle_judged root (length best) (length rest) (length waiting)) (settled l root) l
  noted l (hops root to) = l
  noted l (path root to out) = l
  noted l (walk from to picks trail) = l

  -- a put, cut, settle or hops is granted or refused as the ledger judges it, by the same refusal
  abbrev pub Judged : Ledger → (c : Call C) → Reply c → Type 0
  Judged l (put from to number) r = fault_told r ≡ put_fault k (own_table l) from to number
  Judged l (cut from to) r = fault_told r ≡ cut_fault (own_table l) from to
  Judged l (settle root best rest waiting) r = fault_told r.0 ≡ settle_judged root (length best) (length rest) (length waiting)
  Judged l (hops root to) r = fault_told r ≡ hops_judged l root to
  Judged l (path root to out) r = Unit {0}
  Judged l (walk from to picks trail) r = Unit {0}

  -- the ledger after a list of calls
  unfoldable pub after : Ledger → List (Event C) → Ledger
  after l [] = l
  after l (e ∷ es) = after (noted l e.0) es

  -- each call of a list is judged by the ledger that the calls before it left
  abbrev pub Agrees : Ledger → List (Event C) → Type 0
  Agrees l [] = Unit {0}
  Agrees l (e ∷ es) = Judged l e.0 e.1 × Agrees (noted l e.0) es
