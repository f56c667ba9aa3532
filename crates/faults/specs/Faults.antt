-- What a fault names: its layer, the refusal and the line.
use Rattle.std.specs.Prelude.{ℕ, List, [], ◌∷◌, ◌++◌, codes, decimal}
use Rattle.faults.specs.declared.fault.Fault.{Fault}
use Rattle.faults.specs.declared.fault.Fault.TheVariants.{Reader, Area, Table}
use Rattle.faults.specs.declared.refusal.Refusal.{Refusal}
use Rattle.faults.specs.Refusals.{number_of}

abbrev pub refusal_of : Fault → Refusal
refusal_of (Reader refusal line) = refusal
refusal_of (Area refusal line) = refusal
refusal_of (Table refusal line) = refusal

-- counted from 1, and 0 where no file is read
abbrev pub line_of : Fault → ℕ
line_of (Reader refusal line) = line
line_of (Area refusal line) = line
line_of (Table refusal line) = line

-- what a fault prints, two lines of a key, the byte `=`, a decimal number and the byte 10
abbrev pub fault_text : Fault → List ℕ
fault_text f = codes "refused" ++ 61 ∷ (decimal (number_of (refusal_of f)) ++ 10 ∷ (codes "line" ++ 61 ∷ (decimal (line_of f) ++ 10 ∷ [])))
