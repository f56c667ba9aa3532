-- What a value of the program's area means.
use Rattle.area.specs.Areas as areas
use Rattle.area.specs.declared.area.Area.{Area}
use Rattle.tables.specs.Meaning.{means}
use Rattle.tables.specs.declared.table.LinkTable.{Ghosts}

-- an area on a value of a type under the bound `LinkTable`
abbrev pub area_of : {C T : Type 0} → Ghosts T → Area C T → areas.Area
area_of g x = record { table = means g x.table.below; pages = x.pages }
