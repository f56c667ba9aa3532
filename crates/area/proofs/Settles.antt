-- A settle that is granted.
use Rattle.std.proofs.Common.{◌≡◌, ℕ, ◌*◌, ◌<◌, ◌≤◌, cond, List, length, Some, None, Ok, sym, refl, ap, ◌∙◌, subst}
use Rattle.std.proofs.lemmas.Bool.{lt-ltb, le-leb}
use Rattle.costs.specs.Costs.{Costs, Laws}
use Rattle.entries.specs.declared.Entry.{Entry}
use Rattle.faults.specs.Calls.{or_else, in_area}
use Rattle.faults.specs.declared.refusal.Refusal.TheVariants.{NoSuchRouter, MemoryTooShort}
use Rattle.pagetable.specs.Pages.{entered}
use Rattle.pagetable.specs.declared.page.Page.{Page}
use Rattle.pagetable.specs.declared.table.PageTable.{PageTable}
use Rattle.squares.specs.Found.{best_memory}
use Rattle.squares.specs.Numbers.{number_matrix}
use Rattle.page_settling.specs.Settled.{page_kept, rest_memory, Answers}
use Rattle.tables.specs.Tables.{Table}
use Rattle.tables.specs.TwoWays.{two_way_table}
use Rattle.area.specs.Areas.{Settle, Settles, settle_fault}
use Rattle.area.specs.Networks.{standing_on, numbers_shown}
use Rattle.area.proofs.Numbers.{links_standing}

-- no check of a settle is met
pub granted_settle : (count root best rest waiting : ℕ) → root < count → count ≤ best → count * count ≤ rest → count * count ≤ waiting → settle_fault count root best rest waiting ≡ None
granted_settle count root best rest waiting i b r w =
    λ j. in_area (or_else (cond (lt-ltb root count i j) None (Some NoSuchRouter))
    (or_else (cond (le-leb count best b j) None (Some MemoryTooShort))
    (or_else (cond (le-leb (count * count) rest r j) None (Some MemoryTooShort))
    (cond (le-leb (count * count) waiting w j) None (Some MemoryTooShort)))))

-- What settling the numbers read off a table makes is what the links standing make.
module _ {C : Type 0} (rule : Costs C) (laws : Laws rule) (t : Table) (count : ℕ) (links : List ℕ) (is : count ≡ t.count) (read : links ≡ numbers_shown (two_way_table t)) (few : count ≤ 32)
    (root : ℕ) (best rest : List C) (waiting : List (Entry C)) (no_fault : settle_fault t.count root (length best) (length rest) (length waiting) ≡ None) where
  pub settled : (pages : PageTable) (page : Page) (best' rest' : List C) (waiting' : List (Entry C)) (pages' : PageTable) →
      page ≡ page_kept (number_matrix rule count links) root → Answers (number_matrix rule count links) root page →
      best' ≡ best_memory (number_matrix rule count links) root best → rest' ≡ rest_memory (number_matrix rule count links) root rest →
      pages' ≡ entered root page pages →
      Settle rule root (record { table = t; pages = pages }) best rest waiting (Ok tt) (record { table = t; pages = pages' }) best' rest' waiting'
  settled pages page best' rest' waiting' pages' made answers costs rests entry =
      subst (λ fault. Settles rule fault root (record { table = t; pages = pages }) best rest waiting (Ok tt) (record { table = t; pages = pages' }) best' rest' waiting') (sym no_fault)
      (record {
        answer = refl;
        table = refl;
        pages = entry ∙ ap (λ p. entered root p pages) (made ∙ ap (λ N. page_kept N root) same);
        hops = subst (λ N. Answers N root (page_kept N root)) same (subst (Answers (number_matrix rule count links) root) made answers);
        best_costs = costs ∙ ap (λ N. best_memory N root best) same;
        rest_costs = rests ∙ ap (λ N. rest_memory N root rest) same;
        entries = tt;
      })
    where
      same : number_matrix rule count links ≡ standing_on rule t
      same = (λ i. number_matrix rule (is i) (read i)) ∙ links_standing rule laws t (subst (λ n. n ≤ 32) is few)
