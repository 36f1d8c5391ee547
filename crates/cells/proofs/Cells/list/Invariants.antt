-- `cells::Cells::list`: the cells below the next one are written.
use Rattle.std.proofs.Common.{◌-◌}
use Rattle.cells.specs.Cells.{held}
use Rattle.cells.proofs.Counted.{Writing}
use Rattle.cells.proofs.Cells.list.Given as goal

abbrev pub invariant-loop-cell : goal.invariant-loop-cell
invariant-loop-cell l = Writing (held l.grid.board l.self.rows) (l.cell - 1) l.n l.fn.room l.room
