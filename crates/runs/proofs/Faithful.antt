-- On every opened area, each current page is the page of the links standing.
use Rattle.std.proofs.Common.{◌≡◌, ℕ, zero, suc, ◌*◌, ◌<◌, ◌≤◌, Bool, true, false, cond, ltb, leb, List, length, get_or, replicate, Some, None, Option, Result, sym, refl, ap, ◌∙◌, subst, ⊎_elim, arith, length-set}
use Rattle.std.proofs.lemmas.List.{get_or-set_same, get_or-set_other}
use Rattle.std.proofs.lemmas.Bool.{cases_eq, ltb-true, true≢false}
use Rattle.area.specs.Areas.{Area, opened, Changes, Settles, settle_fault}
use Rattle.area.specs.Networks.{standing_on}
use Rattle.costs.specs.Costs.{Costs}
use Rattle.entries.specs.declared.Entry.{Entry}
use Rattle.faults.specs.Calls.{or_else, in_area}
use Rattle.faults.specs.declared.fault.Fault.{Fault}
use Rattle.faults.specs.declared.refusal.Refusal.TheVariants.{NoSuchRouter, MemoryTooShort}
use Rattle.pagetable.specs.Pages.{all_stale, entered, is_current, page_of, no_page}
use Rattle.pagetable.specs.declared.page.Page.{Page}
use Rattle.pagetable.specs.declared.table.PageTable.{PageTable}
use Rattle.page_settling.specs.Settled.{page_kept}
use Rattle.tables.specs.Tables.{Table, Lawful}
use Rattle.runs.specs.Calls.{Call, put, cut, settle, hops, path, walk, Reply, Step}

pub record Faithful {C : Type 0} (k : Costs C) (a : Area) : Type 0 where
  pub marks : length a.pages.current ≡ 32
  pub sheets : length a.pages.pages ≡ 32
  pub right : (root : ℕ) → is_current a.pages root ≡ true → page_of a.pages root ≡ page_kept (standing_on k a.table) root

-- a lawful table has at most 32 routers
pub few : (t : Table) → Lawful t → t.count ≤ 32
few t l = ⊎_elim (λ (e : t.count ≡ 0). omega arith) (λ q. q.1) l.counted

none_current : (n root : ℕ) → get_or (replicate n false) root false ≡ false
none_current zero root = refl
none_current (suc n) zero = refl
none_current (suc n) (suc root) = none_current n root

pub stale : (p : PageTable) (root : ℕ) → is_current (all_stale p) root ≡ false
stale p root = none_current 32 root

module _ {C : Type 0} (k : Costs C) where
  pub faithful_opened : (t : Table) → Faithful k (opened t)
  faithful_opened t = record { marks = refl; sheets = refl; right = λ root e. absurd (true≢false (sym e ∙ none_current 32 root)) }

  -- nothing that a page leans on has changed
  kept : (a b : Area) → b.pages ≡ a.pages → b.table.shown ≡ a.table.shown → b.table.count ≡ a.table.count → Faithful k a → Faithful k b
  kept a b p s c f =
      record {
        marks = ap (λ (q : PageTable). length q.current) p ∙ f.marks;
        sheets = ap (λ (q : PageTable). length q.pages) p ∙ f.sheets;
        right = λ root e.
            ap (λ q. page_of q root) p ∙ f.right root (ap (λ q. is_current q root) (sym p) ∙ e)
            ∙ (λ i. page_kept (standing_on k (record { kept = a.table.kept; shown = sym s i; count = sym c i; greatest = a.table.greatest; limit = a.table.limit; plain = a.table.plain })) root);
      }

  changes_faithful : (fault : Option Fault) (from to : ℕ) (n : Option ℕ) (a : Area) (r : Result (Unit {0}) Fault) (b : Area) → Changes fault from to n a r b → Faithful k a → Faithful k b
  changes_faithful None from to n a r b c f =
      record {
        marks = ap (λ (q : PageTable). length q.current) c.pages;
        sheets = ap (λ (q : PageTable). length q.pages) c.pages ∙ f.sheets;
        right = λ root e. absurd (true≢false (sym e ∙ ap (λ q. is_current q root) c.pages ∙ stale a.pages root));
      }
  changes_faithful (Some x) from to n a r b c f = kept a b c.pages c.table.shown c.table.count f

  -- a granted settle names a router of the area
  pub settle_inside : (count root best rest waiting : ℕ) → settle_fault count root best rest waiting ≡ None → root < count
  settle_inside count root best rest waiting e = ltb-true root count (by (ltb root count) (leb count best) (leb (count * count) rest) (leb (count * count) waiting) e)
    where
      by : (p q r s : Bool) → in_area (or_else (cond p None (Some NoSuchRouter)) (or_else (cond q None (Some MemoryTooShort)) (or_else (cond r None (Some MemoryTooShort)) (cond s None (Some MemoryTooShort))))) ≡ None → p ≡ true
      by true q r s e = refl
      by false q r s e = let z : ◌≡◌ {A = ℕ} 0 1 = cc in absurd (omega arith)

  settles_faithful : (fault : Option Fault) (root : ℕ) (a : Area) (best rest : List C) (waiting : List (Entry C)) (r : Result (Unit {0}) Fault) (b : Area) (best' rest' : List C) (waiting' : List (Entry C)) →
      (fault ≡ None → root < 32) → Settles k fault root a best rest waiting r b best' rest' waiting' → Faithful k a → Faithful k b
  settles_faithful (Some x) root a best rest waiting r b best' rest' waiting' in-range s f = kept a b s.pages (ap (λ (t : Table). t.shown) s.table) (ap (λ (t : Table). t.count) s.table) f
  settles_faithful None root a best rest waiting r b best' rest' waiting' in-range s f =
      record {
        marks = ap (λ (q : PageTable). length q.current) s.pages ∙ length-set a.pages.current root true ∙ f.marks;
        sheets = ap (λ (q : PageTable). length q.pages) s.pages ∙ length-set a.pages.pages root new ∙ f.sheets;
        right = λ at e. ⊎_elim
            (λ (q : at ≡ root).
            ap (λ p. page_of p at) s.pages ∙ ap (page_of (entered root new a.pages)) q ∙ get_or-set_same a.pages.pages root new no_page (omega (arith, f.sheets, in-range refl))
            ∙ ap (λ t. page_kept (standing_on k t) root) (sym s.table) ∙ ap (page_kept (standing_on k b.table)) (sym q))
            (λ ne.
            ap (λ p. page_of p at) s.pages ∙ get_or-set_other a.pages.pages root at new no_page ne
            ∙ f.right at (sym (get_or-set_other a.pages.current root at true false ne) ∙ ap (λ p. is_current p at) (sym s.pages) ∙ e)
            ∙ ap (λ t. page_kept (standing_on k t) at) (sym s.table))
            (cases_eq at root);
      }
    where
      new : Page
      new = page_kept (standing_on k a.table) root

  pub step_faithful : (c : Call C) (a : Area) (r : Reply c) (b : Area) → Lawful a.table → Step k c a r b → Faithful k a → Faithful k b
  step_faithful (put from to number) a r b l s f = changes_faithful _ from to (Some number) a r b s f
  step_faithful (cut from to) a r b l s f = changes_faithful _ from to None a r b s f
  step_faithful (settle root best rest waiting) a r b l s f =
      settles_faithful (settle_fault a.table.count root (length best) (length rest) (length waiting)) root a best rest waiting r.0 b r.1 r.2 r.3
      (λ e. omega (arith, few a.table l, settle_inside a.table.count root (length best) (length rest) (length waiting) e)) s f
  step_faithful (hops root to) a r b l s f = subst (Faithful k) (sym s.1) f
  step_faithful (path root to out) a r b l s f = subst (Faithful k) (sym s.2) f
  step_faithful (walk from to picks trail) a r b l s f = subst (Faithful k) (sym s.2) f
