-- `cells::Cells::count` meets its contract: a turn counts one cell more where it is held.
use Rattle.std.proofs.Common.{◌+◌, ◌-◌, arith, sym, ◌∙◌}
use Rattle.cells.specs.Cells.{held}
use Rattle.cells.proofs.Counted.{counting_start, counting_more, counting_same, counting_end}
use Rattle.cells.proofs.Cells.count.Goals as goal
use Rattle.cells.proofs.Cells.count.Goals.{then-has, else-has}

pub loop-cell-init : goal.loop-cell-init
loop-cell-init c = counting_start (held c.args.grid.board c.args.self.rows)

pub loop-cell-preserved : goal.loop-cell-preserved
loop-cell-preserved c =
    let l = c.loop-cell in
    let h = sym c.has.ensures in
    elim c.if-has.branch [
      | then-has w ↦ rw w.many-is (counting_more l.invariant l.cell (l.cell + 1 - 1) (omega arith) (omega arith) (h ∙ w.if-has.true))
      | else-has w ↦ rw w.many-is (counting_same l.invariant l.cell (l.cell + 1 - 1) (omega arith) (omega arith) (h ∙ w.if-has.false))
    ]

pub returns : goal.returns
returns c = counting_end c.args.grid.board c.loop-cell.invariant (omega arith)
