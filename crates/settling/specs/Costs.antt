-- What a row of costs holds, and the memory that it lies in.
use Rattle.std.specs.Prelude.{◌≡◌, ℕ, length, Option}
use Rattle.costs.specs.Costs.{Costs}
use Rattle.squares.specs.Known.{costs_in}
use Rattle.settling.specs.declared.row.Row.{Row}

-- the cost at each router of the row's mask
abbrev pub costs_of : {C : Type 0} → Costs C → Row C → ℕ → Option C
costs_of rule row = costs_in rule row.costs.now row.reached

-- two rows lie in the same memory, which has as many places as before
pub record SameMemory {C : Type 0} (old new : Row C) : Type 0 where
  pub same_memory : new.costs.ghost_name ≡ old.costs.ghost_name
  pub same_length : length new.costs.now ≡ length old.costs.now
