-- Where a reader stands in its text, and what it reads there.
use Rattle.std.specs.Prelude.{ℕ, ◌+◌, Bool, List, length, drop, Result, ◌==◌}
use Rattle.std.specs.Borrow.{Bor}
use Rattle.faults.specs.declared.fault.Fault.{Fault}
use Rattle.linkfile.specs.declared.reader.Reader.{Reader}
use Rattle.linkfile.specs.Lines.{Said, told, moved, counted}

-- the text, the place of its next byte and the number of its next line
pub record Standing : Type 0 where
  pub text : List ℕ
  pub place : ℕ
  pub line : ℕ

abbrev pub stands : Reader → Standing
stands r = record { text = r.text.now; place = r.at; line = r.line }

-- the text as it was lent
abbrev pub lent : Reader → Bor (List ℕ)
lent r = r.text

-- before the first line of a text
abbrev pub start : List ℕ → Standing
start text = record { text = text; place = 0; line = 1 }

-- what is left of the text
abbrev pub left : Standing → List ℕ
left s = drop s.place s.text

-- whether nothing is
abbrev pub done : Standing → Bool
done s = s.place == length s.text

-- the next line
abbrev pub next_said : Standing → Result Said Fault
next_said s = told (left s) s.line

-- where the reader stands behind it
abbrev pub onward : Standing → Standing
onward s = record { text = s.text; place = s.place + moved (left s); line = s.line + counted (left s) }
