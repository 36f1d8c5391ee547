-- `cells::placed` meets its contract: it computes to the definition.
use Rattle.std.proofs.Common.{refl}
use native.Mathlib.Nat.{le_trans}
use Rattle.rules.specs.Board.{column_of, row_of}
use Rattle.rules.proofs.Places.{cell_range, cell_place}
use Rattle.cells.proofs.placed.Goals as goal

pub overflow_sub-at : goal.overflow_sub-at
overflow_sub-at c = (cell_range c.args.grid.board c.args.cell c.requires).0

pub returns : goal.returns
unfolding column_of row_of
returns c =
    let f = c.args.grid.fits in
    let o = cell_place c.args.grid.board c.args.cell f.some_column c.requires in
    record { column_is = refl; row_is = refl; few_columns = le_trans o.right f.few_columns; few_rows = le_trans o.bottom f.few_rows }
