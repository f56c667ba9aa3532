-- A link file as it is written.
use Rattle.std.specs.Prelude.{◌≡◌, ℕ, ◌+◌, ◌≤◌, List, [], ◌∷◌, ◌++◌, codes, decimal}
use Rattle.directions.specs.declared.direction.Direction.{Direction}
use Rattle.linkfile.specs.declared.line.Key.{Key}
use Rattle.linkfile.specs.Lines.{from, to, weight, end, spelling}

-- a line: its key, the byte `=`, its value and the byte 10
abbrev pub line_text : Key → List ℕ → List ℕ
line_text k value = spelling k ++ 61 ∷ (value ++ 10 ∷ [])

-- the three lines of a direction
abbrev pub direction_text : Direction → List ℕ
direction_text d = line_text from (decimal d.from) ++ (line_text to (decimal d.to) ++ line_text weight (decimal d.number))

-- directions one after another, and `end=links`
unfoldable pub links_text : List Direction → List ℕ
links_text [] = line_text end (codes "links")
links_text (d ∷ ds) = direction_text d ++ links_text ds

-- a direction whose first line has this number: its numbers are at most 4294967295, and it has the
-- line of its weight, the third of its lines
pub record FitsAt (line : ℕ) (d : Direction) : Type 0 where
  pub from_fits : d.from ≤ 4294967295
  pub to_fits : d.to ≤ 4294967295
  pub number_fits : d.number ≤ 4294967295
  pub on_line : d.line ≡ line + 2

-- directions whose lines follow one another, the first at this line
abbrev pub Numbered : ℕ → List Direction → Type 0
Numbered line [] = Unit {0}
Numbered line (d ∷ ds) = FitsAt line d × Numbered (line + 3) ds
