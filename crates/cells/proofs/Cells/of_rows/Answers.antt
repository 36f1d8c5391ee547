-- `cells::Cells::of_rows` meets its contract: a turn puts the cell of one row in, where it is one.
use Rattle.std.proofs.Common.{arith, ◌≡◌, refl}
use native.Mathlib.Nat.{pos_of_ne-zero}
use Rattle.rules.specs.Board.{cells}
use Rattle.rules.proofs.Places.{range_cell}
use Rattle.cells.proofs.InRows.{filled_none, filled_more, filled_past}
use Rattle.cells.proofs.Cells.of_rows.Goals as goal
use Rattle.cells.proofs.Cells.of_rows.Goals.{then-cell-ne0, else-cell-ne0}

pub loop-row-init : goal.loop-row-init
loop-row-init c = filled_none _ _ _ _ (λ x. c.empty-out.ensures.1 _ x)

pub overflow_mul-cell : goal.overflow_mul-cell
overflow_mul-cell c = omega (arith, (c.requires.rows _ c.loop-row.invariant.on c.loop-row-test.true).0)

pub offset_bounds-t-row : goal.offset_bounds-t-row
offset_bounds-t-row c = omega (arith, (c.requires.rows _ c.loop-row.invariant.on c.loop-row-test.true).0)

pub bounds-t-row : goal.bounds-t-row
bounds-t-row c = omega (arith, (c.requires.rows _ c.loop-row.invariant.on c.loop-row-test.true).0)

pub put-requires : goal.put-requires
unfolding cells
put-requires c = range_cell _ _ (pos_of_ne-zero c.if-cell-ne0.true) (c.requires.rows _ c.loop-row.invariant.on c.loop-row-test.true).1

pub loop-row-preserved : goal.loop-row-preserved
loop-row-preserved c =
    elim c.if-cell-ne0.branch [
      | then-cell-ne0 w ↦ rw w.out-is (filled_more c.loop-row.invariant _ _ refl (λ x q. w.put.ensures x))
      | else-cell-ne0 w ↦ rw w.out-is (filled_past c.loop-row.invariant _ refl w.if-cell-ne0.false)
    ]

pub returns : goal.returns
returns c =
    let same : c.loop-row.row ≡ c.args.end = omega (arith, c.requires.up, c.loop-row-test.false) in
    rw same at c.loop-row.invariant.those
