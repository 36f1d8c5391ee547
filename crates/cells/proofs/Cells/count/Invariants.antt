-- `cells::Cells::count`: the cells below the next one are counted.
use Rattle.std.proofs.Common.{◌-◌}
use Rattle.cells.specs.Cells.{held}
use Rattle.cells.proofs.Counted.{Counting}
use Rattle.cells.proofs.Cells.count.Given as goal

abbrev pub invariant-loop-cell : goal.invariant-loop-cell
invariant-loop-cell l = Counting (held l.grid.board l.self.rows) (l.cell - 1) l.many
