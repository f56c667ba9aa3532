-- What the program prints of its input.
use Rattle.std.specs.Prelude.{ℕ, cond, List, [], ◌∷◌, ◌++◌, length, Ok, Err, codes, decimal, Result, nat_lt}
use Rattle.faults.specs.declared.fault.Fault.{Fault}
use Rattle.faults.specs.declared.fault.Fault.TheVariants.{Area}
use Rattle.faults.specs.declared.refusal.Refusal.TheVariants.{MemoryTooShort}
use Rattle.faults.specs.Faults.{fault_text}
use Rattle.summary.specs.declared.outcome.Summary.{Summary}
use Rattle.summary.specs.Rules.{spelt}
use Rattle.summary.specs.Summaries.{summary}

-- an input of more than 32768 bytes is refused unread
abbrev pub length_checked : List ℕ → Result (Unit {0}) Fault
length_checked input = cond (nat_lt 32768 (length input)) (Err (Area MemoryTooShort 0)) (Ok tt)

abbrev pub judged : List ℕ → Result Summary Fault
judged input = cond (nat_lt 32768 (length input)) (Err (Area MemoryTooShort 0)) (summary input)

-- a line of the output, which is its key, the byte `=`, its value and the byte 10, and what follows it
abbrev pub line : List ℕ → List ℕ → List ℕ → List ℕ
line key value more = key ++ 61 ∷ (value ++ 10 ∷ more)

abbrev pub summary_text : Summary → List ℕ
summary_text s = line (codes "routers") (decimal s.routers) (line (codes "rule") (spelt s.rule) (line (codes "directions") (decimal s.directions) []))

-- the summary, or the fault's number and line
abbrev pub printed : Result Summary Fault → List ℕ
printed (Ok s) = summary_text s
printed (Err f) = fault_text f
