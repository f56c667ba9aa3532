-- Walks by the valid hops of the pages, and whether all pages are current.
use Rattle.std.specs.Prelude.{ℕ, zero, suc, ◌-◌, Bool, true, cond, ◌&&◌, List, [], ◌∷◌, take, ◌==◌, slice_index}
use Rattle.masks.specs.Sets.{members}
use Rattle.routes.specs.Lists.{when_some}
use Rattle.routes.specs.Walk.{picked}
use Rattle.pagetable.specs.Pages.{is_current, page_of}
use Rattle.pagetable.specs.declared.table.PageTable.{PageTable}

-- The routers met from x to d, the start included, by the sets of hops towards d: each pick in turn chooses a hop, until d.
unfoldable pub walk_by : (ℕ → ℕ) → ℕ → List ℕ → ℕ → List ℕ
walk_by sets d [] x = x ∷ []
walk_by sets d (pick ∷ picks) x =
    cond (x == d) (x ∷ []) (x ∷ when_some (picked pick (members (sets x) 32)) [] (λ v. walk_by sets d picks v))

-- the valid set of each router's page towards d
abbrev pub valid_sets : PageTable → ℕ → ℕ → ℕ
valid_sets pages d x = slice_index (page_of pages x).valid d

-- The routers that a walk meets: it breaks off at d, or after count - 1 hops.
abbrev pub trail_on : PageTable → ℕ → ℕ → List ℕ → ℕ → List ℕ
trail_on pages count d picks x = walk_by (valid_sets pages d) d (take (count - 1) picks) x

-- whether the pages of the first n routers are current
unfoldable pub all_current : PageTable → ℕ → Bool
all_current pages zero = true
all_current pages (suc n) = all_current pages n && is_current pages n
