-- A binary heap in a list: the children of place p are 2p + 1 and 2p + 2.
use Rattle.std.specs.Prelude.{◌≡◌, ℕ, ◌-◌, ◌/◌, ◌<◌, Bool, false, ◌≢◌, List, slice_index_or}

module _ {E : Type 0} (before : E → E → Bool) where
  -- the entry at k does not come before its parent
  abbrev pub Ok : List E → ℕ → Type 0
  Ok xs k = (d : E) → before (slice_index_or xs k d) (slice_index_or xs ((k - 1) / 2) d) ≡ false

  -- the first n entries are a heap
  abbrev pub Heaped : List E → ℕ → Type 0
  Heaped xs n = (k : ℕ) → 0 < k → k < n → Ok xs k

  -- the children of `at` do not come before the parent of `at`
  abbrev pub Bridged : List E → ℕ → ℕ → Type 0
  Bridged xs n at = (k : ℕ) → 0 < k → k < n → (k - 1) / 2 ≡ at → 0 < at → (d : E) → before (slice_index_or xs k d) (slice_index_or xs ((at - 1) / 2) d) ≡ false

  -- a heap but that the entry at `at` may come before its parent
  pub record Light (xs : List E) (n at : ℕ) : Type 0 where
    pub others : (k : ℕ) → 0 < k → k < n → k ≢ at → Ok xs k
    pub bridged : Bridged xs n at

  -- a heap but that children of `at` may come before it
  pub record Heavy (xs : List E) (n at : ℕ) : Type 0 where
    pub others : (k : ℕ) → 0 < k → k < n → (k - 1) / 2 ≢ at → Ok xs k
    pub bridged : Bridged xs n at

  -- c is a child of `at`, and no child of `at` comes before it
  pub record LeastChild (xs : List E) (n at c : ℕ) : Type 0 where
    pub above : 0 < c
    pub within : c < n
    pub child : (c - 1) / 2 ≡ at
    pub least : (k : ℕ) → 0 < k → k < n → (k - 1) / 2 ≡ at → (d : E) → before (slice_index_or xs k d) (slice_index_or xs c d) ≡ false
