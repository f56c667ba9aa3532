-- A grid: a cell for each ordered pair of routers, at from * count + to.
use Rattle.std.specs.Prelude.{◌≡◌, ℕ, ◌+◌, ◌-◌, ◌*◌, ◌<◌, ◌≤◌, ◌≢◌, true, cond, List, ◌++◌, length, drop, replicate, Some, None, Ok, Err, Option, Result, ◌==◌, slice_index, slice_set, refl}
use Rattle.std.proofs.Common.{inl, inr, ⊎_elim, arith, lit≤}
use Rattle.std.proofs.lemmas.Nat.{mul-le}
use Rattle.std.proofs.lemmas.Bool.{cond-false}
use Rattle.faults.specs.declared.refusal.Refusal.{Refusal}
use Rattle.faults.specs.Calls.{granted, in_table}
use Rattle.faults.specs.declared.fault.Fault.{Fault}
use Rattle.tables.specs.Links.{Links, is_pair}
use Rattle.tables.specs.Tables.{Table, empty_table, Lawful, pair_refusal}
use Rattle.tables.specs.Makings.{making_refusal, made_range}

-- making a grid: the count is not 2 to 32; too few cells
abbrev pub grid_refusal : ℕ → ℕ → Option Refusal
grid_refusal cells n = making_refusal n cells (n * n)

-- the cells of a grid of n routers emptied, the others as they were
abbrev pub emptied : List ℕ → ℕ → List ℕ
emptied cells n = replicate (n * n) 0 ++ drop (n * n) cells

-- the routers of a grid with so many cells: none where it cannot be made
abbrev pub grid_count : ℕ → ℕ → ℕ
grid_count cells n = granted (grid_refusal cells n) n 0

-- a cell's number: 0 means no link
abbrev pub cell_number : ℕ → Option ℕ
cell_number v = cond (v == 0) None (Some v)

-- the number of each pair in a grid of n routers
abbrev pub grid_links : List ℕ → ℕ → Links
grid_links cells n a b = cond (is_pair n a b) (cell_number (slice_index cells (a * n + b))) None

-- the cell of one pair written, the others as they were
abbrev pub with_cell : List ℕ → ℕ → ℕ → ℕ → ℕ → List ℕ
with_cell cells n from to v = slice_set cells (from * grid_count (length cells) n + to) v

-- where the cell of a pair is: of two different routers, in the grid; or the fault that its pair has
abbrev pub PlacedIn : List ℕ → ℕ → ℕ → ℕ → Result ℕ Fault → Type 0
PlacedIn cells n from to (Ok i) = (i ≡ from * n + to) × (i < length cells) × (from < n) × (to < n) × (from ≢ to)
PlacedIn cells n from to (Err f) = in_table (pair_refusal n from to) ≡ Some f

-- the table that a grid's cells mean
abbrev pub grid_table : List ℕ → ℕ → Table
grid_table cells n =
    record {
      kept = grid_links cells (grid_count (length cells) n);
      shown = grid_links cells (grid_count (length cells) n);
      count = grid_count (length cells) n;
      greatest = 65535;
      limit = grid_count (length cells) n * (grid_count (length cells) n - 1);
      plain = true;
    }

-- an empty grid of n routers
abbrev pub grid_empty : ℕ → Table
grid_empty n = empty_table n 65535 (n * (n - 1))

pairs_two : (n : ℕ) → 2 ≤ n → 2 ≤ n * (n - 1)
pairs_two n h = mul-le 2 1 n (n - 1) h (omega arith)

pub grid_lawful : (cells : List ℕ) (n : ℕ) → Lawful (grid_table cells n)
grid_lawful cells n =
    record {
      counted = ⊎_elim inl (λ h. inr (h.0, h.1)) (made_range n (length cells) (n * n));
      numbered = lit≤ tt;
      limited = ⊎_elim inl (λ h. inr (pairs_two (grid_count (length cells) n) h.0)) (made_range n (length cells) (n * n));
      keeps = λ a b e. cond-false (is_pair (grid_count (length cells) n) a b) _ _ e;
      shows = λ a b e. cond-false (is_pair (grid_count (length cells) n) a b) _ _ e;
      plainly = λ _. refl;
    }
