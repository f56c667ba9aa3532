-- Entries by cost, and at the same cost by router number.
use Rattle.std.specs.Prelude.{Bool, not, ◌&&◌, ◌||◌, ltb}
use Rattle.entries.specs.declared.Entry.{Entry}

abbrev pub entry_before : {C : Type 0} → (C → C → Bool) → Entry C → Entry C → Bool
entry_before lower a b = lower a.cost b.cost || (not (lower b.cost a.cost) && ltb a.router b.router)
