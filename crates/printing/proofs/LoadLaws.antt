-- A file loaded into an empty list of 992 records.
use Rattle.std.proofs.Common.{◌≡◌, ℕ, Bool, true, false, cond, List, Ok, Result, sym, ap, ◌∙◌, subst}
use lib.ListN.{length-replicate}
use Rattle.area.specs.Areas.{Area}
use Rattle.area.specs.Loads.{Loaded, Loads, loaded}
use Rattle.costs.specs.Costs.{Costs}
use Rattle.faults.specs.declared.fault.Fault.{Fault}
use Rattle.pagetable.specs.Pages.{all_blank, all_stale, blank}
use Rattle.pagetable.specs.declared.table.PageTable.{PageTable}
use Rattle.records.specs.Lists.{list_empty}
use Rattle.tables.specs.Tables.{Table, Lawful}
use Rattle.printing.specs.Output.{reports_text, list_of, told, file_output}
use Rattle.printing.specs.Roots.{Wide}

-- ---- the pages keep a place for each router
pub blank_wide : Wide all_blank
blank_wide = record { current = length-replicate 32 false; pages = length-replicate 32 blank }

stale_wide : (changed : Bool) (p : PageTable) → Wide p → Wide (cond changed (all_stale p) p)
stale_wide true p w = record { current = length-replicate 32 false; pages = w.pages }
stale_wide false p w = w

pub loaded_wide : (l : Loaded) (a : Area) (r : Result (Unit {0}) Fault) (b : Area) → Loads l a r b → Wide a.pages → Wide b.pages
loaded_wide l a r b loads w = subst Wide (sym loads.pages) (stale_wide l.changed a.pages w)

-- ---- what is told of it
module _ {C : Type 0} (k : Costs C) (title : List ℕ) (n : ℕ) (text : List ℕ) (a : Area) (empty : a.table ≡ list_empty 992 n)
    (r : Result (Unit {0}) Fault) (b : Area) (loads : Loads (loaded k title a.table text) a r b) where
  abbrev whole : Loaded
  whole = loaded k title (list_empty 992 n) text

  same : loaded k title a.table text ≡ whole
  same = ap (λ t. loaded k title t text) empty

  -- the answer of the load says what is told
  pub answer_told : told k n whole r ≡ file_output k title n text
  answer_told = ap (told k n whole) (loads.answer ∙ ap (λ (l : Loaded). l.answer) same)

  -- the list that is left shows what it keeps
  list_left : Lawful b.table → b.table ≡ list_of n whole
  list_left laws =
      let kept = loads.kept ∙ ap (λ (l : Loaded). l.kept) same in
      let plain = loads.plain ∙ ap (λ (t : Table). t.plain) empty in
      let shown = laws.plainly plain ∙ kept in
      let count = loads.count ∙ ap (λ (t : Table). t.count) empty in
      let greatest = loads.greatest ∙ ap (λ (t : Table). t.greatest) empty in
      let limit = loads.limit ∙ ap (λ (t : Table). t.limit) empty in
      λ i. record { kept = kept i; shown = shown i; count = count i; greatest = greatest i; limit = limit i; plain = plain i }

  pub reports_told : Lawful b.table → r ≡ Ok tt → reports_text k b.table ≡ file_output k title n text
  reports_told laws granted = ap (reports_text k) (list_left laws) ∙ ap (told k n whole) (sym granted) ∙ answer_told
