-- `cells::Cells::has` meets its contract: it tests the digit of the cell's column in the word of its row.
use Rattle.std.proofs.Common.{sym, ◌∙◌}
use Rattle.cells.proofs.Held.{held_off, held_test}
use Rattle.cells.proofs.Cells.has.Goals as goal

pub returns-then-not-is_cell : goal.returns-then-not-is_cell
returns-then-not-is_cell c = held_off c.args.grid.board c.args.self.rows c.args.cell (sym c.is_cell.ensures ∙ c.if-not-is_cell.true)

pub returns : goal.returns
returns c =
    held_test c.args.grid.board c.args.self.rows c.args.cell (sym c.is_cell.ensures ∙ c.if-not-is_cell.false) c.placed-at.result.column c.placed-at.result.row
    c.placed-at.ensures
