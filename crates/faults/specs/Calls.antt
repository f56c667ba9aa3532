-- How calls are judged: the first refusal that is met, and what a granted or a refused call leaves.
use Rattle.std.specs.Prelude.{Some, None, Ok, Err, Option, Result}
use Rattle.faults.specs.declared.fault.Fault.{Fault}
use Rattle.faults.specs.declared.fault.Fault.TheVariants.{Area, Table}
use Rattle.faults.specs.declared.refusal.Refusal.{Refusal}

-- the first of two refusals
abbrev pub or_else : {F : Type 0} → Option F → Option F → Option F
or_else (Some x) o = Some x
or_else None o = o

-- what a granted call makes, or a refused one leaves
abbrev pub granted : {F X : Type 0} → Option F → X → X → X
granted None new old = new
granted (Some x) new old = old

-- a refusal as a fault of the table, and as one of the area, where no file is read
abbrev pub in_table : Option Refusal → Option Fault
in_table None = None
in_table (Some r) = Some (Table r 0)

abbrev pub in_area : Option Refusal → Option Fault
in_area None = None
in_area (Some r) = Some (Area r 0)

-- the answer of a call that answers nothing but its fault
abbrev pub done : Option Fault → Result (Unit {0}) Fault
done None = Ok tt
done (Some f) = Err f

-- what a call leaves, by its answer
abbrev pub answered_by : {A X : Type 0} → Result A Fault → X → X → X
answered_by (Ok a) new old = new
answered_by (Err f) new old = old
