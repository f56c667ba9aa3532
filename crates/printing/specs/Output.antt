-- What the program `pages` prints of its input.
use Rattle.std.specs.Prelude.{ℕ, true, cond, List, length, Ok, Err, Result, nat_lt}
use Rattle.std.specs.Result.{result_unwrap_or}
use Rattle.std.specs.Option.{unwrap_or}
use Rattle.area.specs.Loads.{Loaded, loaded}
use Rattle.costs.specs.Costs.{Costs}
use Rattle.costs.specs.Paths.{hops_width}
use Rattle.costs.specs.Sums.{sum}
use Rattle.directions.specs.Directions.{next_number, next_value}
use Rattle.faults.specs.Faults.{fault_text}
use Rattle.faults.specs.declared.fault.Fault.{Fault}
use Rattle.faults.specs.declared.fault.Fault.TheVariants.{Area}
use Rattle.faults.specs.declared.refusal.Refusal.TheVariants.{MemoryTooShort}
use Rattle.linkfile.specs.Lines.{routers, rule}
use Rattle.linkfile.specs.Reading.{start, onward}
use Rattle.records.specs.Lists.{list_count, list_empty}
use Rattle.routes.specs.Lists.{gather}
use Rattle.summary.specs.declared.names.RuleName.{RuleName}
use Rattle.summary.specs.declared.names.RuleName.TheVariants.{Sum, HopsWidth}
use Rattle.summary.specs.Rules.{spelt, named}
use Rattle.tables.specs.Tables.{Table}
use Rattle.printing.specs.Roots.{root_text}

-- ---- what is printed
-- the reports of all routers by rising number, each of the page of the links standing on a table
unfoldable pub reports_text : {C : Type 0} → Costs C → Table → List ℕ
reports_text k t = gather t.count (root_text k t)

-- ---- what is read
-- the count that a file names, and 0 where that line is at fault
abbrev pub file_count : List ℕ → ℕ
file_count text = result_unwrap_or (next_number routers (start text)) 0

-- the rule that a line names; any other name, and a line at fault, is left to the rule `sum`
abbrev pub rule_or_sum : Result (List ℕ) Fault → RuleName
rule_or_sum (Ok name) = unwrap_or (named name) Sum
rule_or_sum (Err f) = Sum

abbrev pub file_rule : List ℕ → RuleName
file_rule text = rule_or_sum (next_value rule (onward (start text)))

-- ---- the program
-- a plain table with these numbers, of n routers in 992 records
abbrev pub list_of : ℕ → Loaded → Table
list_of n l = record { kept = l.kept; shown = l.kept; count = n; greatest = 4294967295; limit = 992; plain = true }

-- the reports where the file is loaded, or its fault
abbrev pub told : {C : Type 0} → Costs C → ℕ → Loaded → Result (Unit {0}) Fault → List ℕ
told k n l (Ok u) = reports_text k (list_of n l)
told k n l (Err f) = fault_text f

-- a file loaded into an empty list of 992 records under a rule of this name
abbrev pub file_output : {C : Type 0} → Costs C → List ℕ → ℕ → List ℕ → List ℕ
file_output k title n text =
    let l : Loaded = loaded k title (list_empty 992 n) text in
    told k n l l.answer

-- under the costs and the name of a rule
abbrev pub output_by : RuleName → ℕ → List ℕ → List ℕ
output_by Sum n text = file_output sum (spelt Sum) n text
output_by HopsWidth n text = file_output hops_width (spelt HopsWidth) n text

-- the input by the count and the rule that it names; one of more than 32768 bytes is refused unread
abbrev pub output : List ℕ → List ℕ
output text =
    cond (nat_lt 32768 (length text)) (fault_text (Area MemoryTooShort 0))
    (output_by (file_rule text) (list_count 992 (file_count text)) text)
