-- The memories that settling works in.
use Rattle.std.specs.Prelude.{ℕ, ◌≤◌}

-- memories of so many best costs, rest costs and entries that wait, for at most 32 routers
pub record Room (best rest waiting : ℕ) : Type 0 where
  pub costs : 32 ≤ best
  pub rows : 1024 ≤ rest
  pub entries : 1024 ≤ waiting
