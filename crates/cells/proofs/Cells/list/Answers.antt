-- `cells::Cells::list` meets its contract: a turn writes one cell more where it is held.
use Rattle.std.proofs.Common.{◌+◌, ◌-◌, arith, sym, ◌∙◌}
use Rattle.cells.specs.Cells.{held}
use Rattle.cells.proofs.Counted.{writing_start, writing_room, writing_more, writing_same, writing_end}
use Rattle.cells.proofs.Cells.list.Goals as goal
use Rattle.cells.proofs.Cells.list.Goals.{then-has, else-has}

pub loop-cell-init : goal.loop-cell-init
loop-cell-init c = writing_start (held c.args.grid.board c.args.self.rows) c.args.room.now

pub bounds-room-n : goal.bounds-room-n
bounds-room-n c =
    let b = c.args.grid.board in
    let l = c.loop-cell in
    writing_room b l.invariant l.cell (l.cell + 1 - 1) (omega arith) (omega arith) (omega arith) c.requires (sym c.has.ensures ∙ c.if-has.true)

pub loop-cell-preserved : goal.loop-cell-preserved
loop-cell-preserved c =
    let b = c.args.grid.board in
    let l = c.loop-cell in
    let h = sym c.has.ensures in
    elim c.if-has.branch [
      | then-has w ↦ rw (w.room-is, w.n-is) (writing_more b l.invariant l.cell (l.cell + 1 - 1) (omega arith) (omega arith) (omega arith) c.requires (h ∙ w.if-has.true))
      | else-has w ↦ rw (w.room-is, w.n-is) (writing_same b l.invariant l.cell (l.cell + 1 - 1) (omega arith) (omega arith) (h ∙ w.if-has.false))
    ]

pub returns : goal.returns
returns c = writing_end c.args.grid.board c.loop-cell.invariant (omega arith)
