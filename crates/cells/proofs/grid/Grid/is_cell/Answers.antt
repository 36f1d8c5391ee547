-- `cells::Grid::is_cell` meets its contract: a board that fits has few enough cells that their number fits.
use Rattle.cells.proofs.Places.{cell_some, cell_none}
use Rattle.cells.proofs.grid.Grid.is_cell.Goals as goal

pub returns-then-cell-ge1 : goal.returns-then-cell-ge1
returns-then-cell-ge1 c = cell_some c.args.self.board c.args.cell c.if-cell-ge1.true

pub returns-else-cell-ge1 : goal.returns-else-cell-ge1
returns-else-cell-ge1 c = cell_none c.args.self.board c.args.cell c.if-cell-ge1.false
