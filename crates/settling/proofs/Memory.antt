-- A row that stays in its memory.
use Rattle.std.proofs.Common.{refl, ◌∙◌}
use Rattle.settling.specs.Costs.{SameMemory}
use Rattle.settling.specs.declared.row.Row.{Row}

pub same_row : {C : Type 0} {row : Row C} → SameMemory row row
same_row = record { same_memory = refl; same_length = refl }

-- what moved twice moved once
pub same_more : {C : Type 0} {old mid new : Row C} → SameMemory old mid → SameMemory mid new → SameMemory old new
same_more a b = record { same_memory = b.same_memory ∙ a.same_memory; same_length = b.same_length ∙ a.same_length }
