-- What a value of a type under the bound `LinkTable` means.
use Rattle.tables.specs.Tables.{Table, table}
use Rattle.tables.specs.declared.table.LinkTable.{Ghosts}

abbrev pub means : {T : Type 0} → Ghosts T → T → Table
means g t = table g.kept g.shown g.count g.greatest g.limit g.plain t
