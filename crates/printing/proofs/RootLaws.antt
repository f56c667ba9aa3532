-- A root settled with memories for 32 routers, and then reported.
use Rattle.std.proofs.Common.{◌≡◌, ℕ, ◌<◌, ◌≤◌, true, cond, ltb, List, length, take, is_ok, Some, None, Ok, Result, refl, ap, ◌∙◌, subst, ⊎_elim, arith, length-set, get_or-set_same, take_at}
use Rattle.std.proofs.lemmas.Bool.{lt-ltb, le-leb}
use Rattle.area.specs.Areas.{Area, Settle, settle_fault, report_fault, report_of, report_answer, report_leaves, answered, WhereGranted}
use Rattle.area.specs.Networks.{standing_on}
use Rattle.area.proofs.Numbers.{square_few}
use Rattle.area.proofs.Settles.{granted_settle}
use Rattle.costs.specs.Costs.{Costs}
use Rattle.entries.specs.declared.Entry.{Entry}
use Rattle.faults.specs.Calls.{or_else, granted, in_area, done}
use Rattle.faults.specs.declared.fault.Fault.{Fault}
use Rattle.faults.specs.declared.refusal.Refusal.TheVariants.{NoSuchRouter, MemoryTooShort, StalePage}
use Rattle.memory.specs.Writes.{laid}
use Rattle.pagetable.specs.Pages.{entered, is_current, page_of, no_page}
use Rattle.pagetable.specs.declared.page.Page.{Page}
use Rattle.pagetable.specs.declared.table.PageTable.{PageTable}
use Rattle.reports.specs.Reports.{report_text}
use Rattle.page_settling.specs.Settled.{page_kept}
use Rattle.tables.specs.Tables.{Table, Lawful}
use Rattle.printing.specs.Rooms.{Room}
use Rattle.printing.specs.Roots.{root_text, Wide}

-- a table has at most 32 routers
few_routers : (t : Table) → Lawful t → t.count ≤ 32
few_routers t l = ⊎_elim (λ e. omega arith) (λ h. h.1) l.counted

-- a page entered leaves a place for each router
pub entered_wide : (root : ℕ) (page : Page) (p : PageTable) → Wide p → Wide (entered root page p)
entered_wide root page p w = record { current = length-set p.current root _ ∙ w.current; pages = length-set p.pages root page ∙ w.pages }

module _ {C : Type 0} (k : Costs C) (a : Area) (root : ℕ) (laws : Lawful a.table) (inside : root < a.table.count) (wide : Wide a.pages) where
  abbrev page : Page
  page = page_kept (standing_on k a.table) root

  -- the settle is granted, and enters the page
  module _ (r : Result (Unit {0}) Fault) (b : Area) (best rest best' rest' : List C) (waiting waiting' : List (Entry C))
      (room : Room (length best) (length rest) (length waiting)) (s : Settle k root a best rest waiting r b best' rest' waiting') where
    settle_granted : settle_fault a.table.count root (length best) (length rest) (length waiting) ≡ None
    settle_granted =
        let few = few_routers a.table laws in
        let square = square_few a.table.count few in
        granted_settle a.table.count root (length best) (length rest) (length waiting) inside (omega arith) (omega arith) (omega arith)

    pub settle_ok : is_ok r ≡ true
    settle_ok = ap is_ok (s.answer ∙ ap done settle_granted)

    pub settled_pages : b.pages ≡ entered root page a.pages
    settled_pages = s.pages ∙ ap (λ f. granted f (entered root page a.pages) a.pages) settle_granted

  -- and then the report is granted: it is that of the page kept
  module _ (b : Area) (same : b.table ≡ a.table) (pages : b.pages ≡ entered root page a.pages) where
    report_granted : (places : ℕ) → 4096 ≤ places → report_fault b root places ≡ None
    report_granted places room =
        let few = few_routers a.table laws in
        let lower = ap (λ (t : Table). ltb root t.count) same ∙ lt-ltb root a.table.count inside in
        let current = ap (λ p. is_current p root) pages ∙ get_or-set_same a.pages.current root true _ (omega (arith, wide.current)) in
        λ j. in_area (or_else (cond (lower j) None (Some NoSuchRouter)) (or_else (cond (le-leb 4096 places room j) None (Some MemoryTooShort)) (cond (current j) None (Some StalePage))))

    report_told : report_of b root ≡ root_text k a.table root
    unfolding root_text
    report_told =
        let few = few_routers a.table laws in
        (λ j. report_text (same j).count root (page_of (pages j) root))
        ∙ ap (report_text a.table.count root) (get_or-set_same a.pages.pages root page no_page (omega (arith, wide.pages)))

    module _ (old : List ℕ) (room : 4096 ≤ length old) where
      pub report_ok : (r : Result ℕ Fault) → r ≡ report_answer b root old → r ≡ Ok (length (root_text k a.table root))
      report_ok r answer = answer ∙ (λ j. answered (report_granted (length old) room j) (length (report_told j)))

      pub report_fits : WhereGranted (report_fault b root (length old)) (length (report_of b root) ≤ 4096) → length (root_text k a.table root) ≤ 4096
      report_fits w =
          subst (λ (text : List ℕ). length text ≤ 4096) report_told
          (subst (λ f. WhereGranted f (length (report_of b root) ≤ 4096)) (report_granted (length old) room) w)

      pub report_front : (out : List ℕ) → out ≡ report_leaves b root old → take (length (root_text k a.table root)) out ≡ root_text k a.table root
      report_front out leaves =
          let text = root_text k a.table root in
          ap (take (length text)) (leaves ∙ (λ j. granted (report_granted (length old) room j) (laid old 0 (report_told j)) old)) ∙ take_at text _ (length text) refl
