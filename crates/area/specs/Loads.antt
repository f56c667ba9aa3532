-- What load makes of a link file.
use Rattle.std.specs.Prelude.{◌≡◌, ℕ, Bool, true, false, cond, ◌&&◌, List, [], ◌∷◌, ◌++◌, length, Some, None, Ok, Err, decimal, Option, Result, ◌==◌, nat_le}
use Rattle.std.specs.Str.{bytes_eq}
use Rattle.costs.specs.Costs.{Costs}
use Rattle.directions.specs.Directions.{and_then, next_number, next_value}
use Rattle.directions.specs.Files.{Listing, list_all}
use Rattle.directions.specs.Written.{line_text, links_text, Numbered}
use Rattle.directions.specs.declared.direction.Direction.{Direction}
use Rattle.faults.specs.declared.fault.Fault.{Fault}
use Rattle.faults.specs.declared.fault.Fault.TheVariants.{Reader, Area, Table}
use Rattle.faults.specs.declared.refusal.Refusal.TheVariants.{BadCount}
use Rattle.linkfile.specs.Lines.{routers, rule, bad, before}
use Rattle.linkfile.specs.Reading.{Standing, start, onward}
use Rattle.pagetable.specs.Pages.{all_stale}
use Rattle.tables.specs.Links.{Links, with_link}
use Rattle.tables.specs.Tables as tables
use Rattle.area.specs.Areas as areas
use Rattle.area.specs.Areas.{put_fault}

-- a fault with the line of the file that it is about
abbrev pub on_line : ℕ → Fault → Fault
on_line line (Reader refusal old) = Reader refusal line
on_line line (Area refusal old) = Area refusal line
on_line line (Table refusal old) = Table refusal line

-- ---- the two lines at the head of a file
-- 8: the count is not 2 to 32, or not the table's
abbrev pub count_fits : ℕ → ℕ → Bool
count_fits count n = nat_le 2 n && (nat_le n 32 && n == count)

abbrev pub count_judged : ℕ → ℕ → ℕ → Result (Unit {0}) Fault
count_judged count line n = cond (count_fits count n) (Ok tt) (Err (Area BadCount line))

-- 7: the name is not that of the area's rule
abbrev pub name_judged : List ℕ → ℕ → List ℕ → Result (Unit {0}) Fault
name_judged title line name = cond (bytes_eq name title) (Ok tt) (Err (bad line))

-- the count of routers and the name of the rule, or the first fault
abbrev pub head_read : List ℕ → ℕ → Standing → Result (Unit {0}) Fault
head_read title count s =
    and_then (and_then (next_number routers s) (count_judged count s.line))
    (λ u. and_then (next_value rule (onward s)) (name_judged title (onward s).line))

-- ---- the directions, put one after another
-- what a load answers, what the table then keeps, and whether any put was granted
pub record Loaded : Type 0 where
  pub answer : Result (Unit {0}) Fault
  pub kept : Links
  pub changed : Bool

-- the table with other numbers kept
abbrev pub keeping : tables.Table → Links → tables.Table
keeping t kept =
    record { kept = kept; shown = t.shown; count = t.count; greatest = t.greatest; limit = t.limit; plain = t.plain }

-- the fault of a put, with its line
abbrev pub fault_on : ℕ → Option Fault → Option Fault
fault_on line None = None
fault_on line (Some f) = Some (on_line line f)

-- the put of a direction, and what follows it: a refused put ends the load and has the line of its weight
abbrev pub put_then : ℕ → Links → Option Fault → Loaded → Loaded
put_then line kept None more = record { answer = more.answer; kept = more.kept; changed = true }
put_then line kept (Some f) more = record { answer = Err (on_line line f); kept = kept; changed = false }

-- directions put up to the first that is refused; behind them the file ends well or by a fault
unfoldable pub put_all : {C : Type 0} → Costs C → tables.Table → List Direction → Result (Unit {0}) Fault → Loaded
put_all k t [] ended = record { answer = ended; kept = t.kept; changed = false }
put_all k t (d ∷ ds) ended =
    put_then d.line t.kept (put_fault k t d.from d.to d.number)
    (put_all k (keeping t (with_link t.kept d.from d.to (Some d.number))) ds ended)

abbrev pub put_listed : {C : Type 0} → Costs C → tables.Table → Listing → Loaded
put_listed k t l = put_all k t l.directions l.ended

-- ---- the whole file
abbrev pub behind_head : {C : Type 0} → Costs C → tables.Table → Standing → Result (Unit {0}) Fault → Loaded
behind_head k t s (Ok u) = put_listed k t (list_all s)
behind_head k t s (Err f) = record { answer = Err f; kept = t.kept; changed = false }

-- the head and then the directions, line by line up to the first fault
abbrev pub loaded : {C : Type 0} → Costs C → List ℕ → tables.Table → List ℕ → Loaded
loaded k title t text = behind_head k t (onward (onward (start text))) (head_read title t.count (start text))

-- Load leaves what was put before the first fault; a granted put makes every page stale.
pub record Loads (l : Loaded) (a : areas.Area) (r : Result (Unit {0}) Fault) (b : areas.Area) : Type 0 where
  pub answer : r ≡ l.answer
  pub kept : b.table.kept ≡ l.kept
  pub shown : l.changed ≡ false → b.table.shown ≡ a.table.shown
  pub count : b.table.count ≡ a.table.count
  pub greatest : b.table.greatest ≡ a.table.greatest
  pub limit : b.table.limit ≡ a.table.limit
  pub plain : b.table.plain ≡ a.table.plain
  pub pages : b.pages ≡ cond l.changed (all_stale a.pages) a.pages

-- the bytes of a link file
abbrev pub file_text : ℕ → List ℕ → List Direction → List ℕ
file_text count title list = line_text routers (decimal count) ++ (line_text rule title ++ links_text list)

-- Exactly the link files of the table's count and the area's rule, whose name has no line end in it, are read to their end: the
-- directions of such a file are put in turn, and no other text is granted.
pub record ReadsFiles {C : Type 0} (k : Costs C) (title : List ℕ) (t : tables.Table) (text : List ℕ) (l : Loaded) : Type 0 where
  pub granted : l.answer ≡ Ok tt → (list : List Direction) × (text ≡ file_text t.count title list) × Numbered 3 list × (l ≡ put_all k t list (Ok tt))
  pub files : (list : List Direction) → count_fits t.count t.count ≡ true → before 10 title ≡ length title → text ≡ file_text t.count title list → Numbered 3 list → l ≡ put_all k t list (Ok tt)
