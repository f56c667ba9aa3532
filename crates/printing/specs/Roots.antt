-- The report of one root, and what it takes to make it.
use Rattle.std.specs.Prelude.{◌≡◌, ℕ, List, length}
use Rattle.area.specs.Networks.{standing_on}
use Rattle.costs.specs.Costs.{Costs}
use Rattle.pagetable.specs.declared.table.PageTable.{PageTable}
use Rattle.reports.specs.Reports.{report_text}
use Rattle.page_settling.specs.Settled.{page_kept}
use Rattle.tables.specs.Tables.{Table}

-- the report of the page of a root, from the links standing on a table
unfoldable pub root_text : {C : Type 0} → Costs C → Table → ℕ → List ℕ
root_text k t root = report_text t.count root (page_kept (standing_on k t) root)

-- a page table with a place for each of 32 routers
pub record Wide (p : PageTable) : Type 0 where
  pub current : length p.current ≡ 32
  pub pages : length p.pages ≡ 32
