-- A link file as a whole.
use Rattle.std.specs.Prelude.{ℕ, zero, suc, List, [], ◌∷◌, length, Some, None, Ok, Err, Option, Result}
use Rattle.faults.specs.declared.fault.Fault.{Fault}
use Rattle.directions.specs.declared.direction.Direction.{Direction}
use Rattle.linkfile.specs.Lines.{bad}
use Rattle.linkfile.specs.Reading.{Standing, left}
use Rattle.directions.specs.Directions.{direction_read}

-- directions in turn, and how they end: at the end of the file, or by a fault
pub record Listing : Type 0 where
  pub directions : List Direction
  pub ended : Result (Unit {0}) Fault

abbrev pub list_on : Result (Option Direction) Fault → Listing → Listing
list_on (Ok (Some d)) more = record { directions = d ∷ more.directions; ended = more.ended }
list_on (Ok None) more = record { directions = []; ended = Ok tt }
list_on (Err f) more = record { directions = []; ended = Err f }

-- at most k directions
unfoldable pub listing : ℕ → Standing → Listing
listing zero s = record { directions = []; ended = Err (bad s.line) }
listing (suc k) s = list_on (direction_read s).answer (listing k (direction_read s).standing)

-- all that is left of the text: it has fewer directions than bytes
abbrev pub list_all : Standing → Listing
list_all s = listing (suc (length (left s))) s
