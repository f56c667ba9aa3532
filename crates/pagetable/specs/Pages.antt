-- The pages of an area, as they are kept, and what they answer.
use Rattle.std.specs.Prelude.{ℕ, zero, suc, Bool, true, false, List, [], ◌∷◌, ◌++◌, replicate, None, Option, slice_index, slice_index_or, slice_set}
use Rattle.masks.specs.Sets.{besides}
use Rattle.routes.specs.Lists.{when_some}
use Rattle.pagetable.specs.declared.page.Page.{Page}
use Rattle.pagetable.specs.declared.table.PageTable.{PageTable}

-- a page that knows no router
abbrev pub blank : Page
blank = record { father = replicate 32 None; hop = replicate 32 None; candidates = replicate 32 0; valid = replicate 32 0 }

-- the tree hop, the valid set and the other set towards a router: the others are the candidates that are not valid
abbrev pub hops_to : Page → ℕ → Option ℕ × ℕ × ℕ
hops_to p router = (slice_index_or p.hop router None, slice_index p.valid router, besides (slice_index p.candidates router) (slice_index p.valid router))

-- the tree path of a router, at most so many links long: that of its father, and then the router itself
unfoldable pub path_by : List (Option ℕ) → ℕ → ℕ → List ℕ
path_by fathers zero d = d ∷ []
path_by fathers (suc k) d = when_some (slice_index_or fathers d None) (d ∷ []) (λ x. path_by fathers k x ++ d ∷ [])

-- ---- the pages of all roots
-- past the end of a list of pages
abbrev pub no_page : Page
no_page = record { father = []; hop = []; candidates = []; valid = [] }

abbrev pub all_blank : PageTable
all_blank = record { current = replicate 32 false; pages = replicate 32 blank }

-- every page stale
abbrev pub all_stale : PageTable → PageTable
all_stale p = record { current = replicate 32 false; pages = p.pages }

-- the page of a root current, with what was worked out for it
abbrev pub entered : ℕ → Page → PageTable → PageTable
entered root page p = record { current = slice_set p.current root true; pages = slice_set p.pages root page }

abbrev pub is_current : PageTable → ℕ → Bool
is_current p root = slice_index_or p.current root false

abbrev pub page_of : PageTable → ℕ → Page
page_of p root = slice_index_or p.pages root no_page
