use Rattle.std.proofs.Common.{arith}
use Rattle.grid.proofs.GridLaws.{grid_put}
use Rattle.grid.proofs.grid.GridLinkTable.put.Goals as goal

pub returns-clause-table : goal.returns-clause-table
returns-clause-table c =
    let self = c.args.self.now in
    grid_put self.cells.now self.count c.args.from c.args.to c.in_ok-place.place c.in_ok-place.ensures c.args.number (omega arith) (omega arith)
