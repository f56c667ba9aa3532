use Rattle.std.proofs.Common.{◌≡◌, Some, None, Option, rules}
use Rattle.faults.specs.Calls.{done}
use Rattle.faults.specs.declared.fault.Fault.{Fault}
use Rattle.area.specs.Loads.{fault_on}
use Rattle.area.proofs.area.Area.load_direction.Goals as goal

-- the fault of the put, whichever it is, is told on its line
pub returns-clause-answer : goal.returns-clause-answer
returns-clause-answer g c = on _ c.put.ensures.area.answer
  where
    on : (f : Option Fault) → c.put.result ≡ done f → c.map_err.result ≡ done (fault_on c.args.d.line f)
    on None e = search rules
    on (Some f) e = search rules
