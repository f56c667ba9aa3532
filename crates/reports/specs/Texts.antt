-- A text that grows in handed memory.
use Rattle.std.specs.Prelude.{◌≡◌, ℕ, ◌+◌, ◌≤◌, List, length}
use Rattle.memory.specs.Writes.{laid}
use Rattle.reports.specs.declared.lines.Text.{Text}

-- there is room for these bytes behind the text
abbrev pub Fits : Text → List ℕ → Type 0
Fits text bytes = text.at + length bytes ≤ length text.out.now

-- these bytes were added: they stand behind the text, the place is behind them, and all else of the memory is as it was
pub record Adds (old new : Text) (bytes : List ℕ) : Type 0 where
  pub same_memory : new.out.ghost_name ≡ old.out.ghost_name
  pub same_length : length new.out.now ≡ length old.out.now
  pub place : new.at ≡ old.at + length bytes
  pub stands : new.out.now ≡ laid old.out.now old.at bytes
