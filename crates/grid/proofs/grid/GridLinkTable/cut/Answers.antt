use Rattle.std.proofs.Common.{arith}
use Rattle.grid.proofs.GridLaws.{grid_cut}
use Rattle.grid.proofs.grid.GridLinkTable.cut.Goals as goal

pub returns-clause-table : goal.returns-clause-table
returns-clause-table c =
    let self = c.args.self.now in
    grid_cut self.cells.now self.count c.args.from c.args.to c.in_ok-place.place c.in_ok-place.ensures (omega arith)
