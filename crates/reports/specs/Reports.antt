-- The report of one page as text, and what a call that writes it answers and leaves.
use Rattle.std.specs.Prelude.{ℕ, cond, List, [], ◌∷◌, ◌++◌, length, Some, None, Ok, Err, codes, decimal, Option, Result, ◌==◌, nat_le}
use Rattle.faults.specs.declared.refusal.Refusal.{Refusal}
use Rattle.faults.specs.declared.refusal.Refusal.TheVariants.{MemoryTooShort}
use Rattle.memory.specs.Writes.{laid}
use Rattle.masks.specs.Sets.{members}
use Rattle.decimals.specs.Lists.{listed}
use Rattle.routes.specs.Lists.{gather}
use Rattle.pagetable.specs.declared.page.Page.{Page}
use Rattle.pagetable.specs.Pages.{hops_to}
use Rattle.reports.specs.declared.lines.Value.{Value}
use Rattle.reports.specs.declared.lines.Value.TheVariants.{Number, Set, Nothing}

-- a line is a key, `=`, a value and byte 10
abbrev pub line : List ℕ → List ℕ → List ℕ
line key value = key ++ 61 ∷ (value ++ 10 ∷ [])

-- a tree hop is written as its number, and where there is none as nothing
abbrev pub tree_text : Option ℕ → List ℕ
tree_text (Some hop) = decimal hop
tree_text None = []

-- a set is written as its numbers, rising, with commas
abbrev pub set_text : ℕ → List ℕ
set_text mask = listed (members mask 32)

-- what stands behind the `=` of a line
abbrev pub value_text : Value → List ℕ
value_text (Number n) = decimal n
value_text (Set mask) = set_text mask
value_text Nothing = []

-- the four lines towards the router d: itself, its tree hop, its valid hops and its other hops
unfoldable pub entry_text : Page → ℕ → List ℕ
entry_text page d =
    line (codes "to") (decimal d)
    ++ line (codes "tree") (tree_text (hops_to page d).0)
    ++ line (codes "valid") (set_text (hops_to page d).1)
    ++ line (codes "other") (set_text (hops_to page d).2)

-- the report: whose page it is, and then the four lines towards each other router by rising number
unfoldable pub report_text : ℕ → ℕ → Page → List ℕ
report_text count root page = line (codes "root") (decimal root) ++ gather count (λ d. cond (d == root) [] (entry_text page d))

-- the call answers how many bytes the report has, and refuses where the memory has fewer than 4,096
abbrev pub report_answer : ℕ → List ℕ → Result ℕ Refusal
report_answer len text = cond (nat_le 4096 len) (Ok (length text)) (Err MemoryTooShort)

-- the report then stands at the front of the memory; a refused call leaves it as it was
abbrev pub report_leaves : List ℕ → List ℕ → List ℕ
report_leaves old text = cond (nat_le 4096 (length old)) (laid old 0 text) old
