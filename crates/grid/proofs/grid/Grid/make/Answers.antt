use Rattle.std.proofs.Common.{◌≡◌, ◌*◌, ◌++◌, drop, rules, ap, ◌∙◌}
use Rattle.grid.proofs.GridLaws.{grid_made}
use Rattle.grid.specs.Grids.{emptied, grid_table, grid_empty}
use Rattle.grid.proofs.grid.Grid.make.Goals as goal

pub returns-clause-table : goal.returns-clause-table
returns-clause-table c =
    let n = c.routers-count.result in
    let cells : c.fill.new.self ++ drop (n * n) c.args.cells.now ≡ emptied c.args.cells.now n = search rules in
    ap (λ xs. grid_table xs n) cells ∙ grid_made c.args.cells.now c.args.count n c.routers-count.ensures ∙ ap grid_empty c.routers-count.ensures
