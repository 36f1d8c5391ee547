-- `cells::Cells::of_rows`: the rows so far are in the set.
use Rattle.cells.proofs.InRows.{Filled}
use Rattle.cells.proofs.Cells.of_rows.Given as goal

abbrev pub invariant-loop-row : goal.invariant-loop-row
invariant-loop-row l = Filled l.grid.board l.t l.from l.row l.out.rows
