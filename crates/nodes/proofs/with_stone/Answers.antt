-- The cell 0 puts no stone; any other is a cell of the board.
use Rattle.std.proofs.Common.{Bool, ◌||◌, nat_eq, sym, ap, ◌∙◌, pos_of_ne-zero}
use mathlib.Core.Bool.{or_comm, or-false}
use Rattle.cells.specs.Cells.{held}
use Rattle.rules.specs.Board.{cells}
use Rattle.rules.proofs.Places.{range_cell}
use Rattle.nodes.proofs.Collecting.{no_stone, stone_cell}
use Rattle.nodes.proofs.with_stone.Goals as goal

pub put-requires : goal.put-requires
unfolding cells
put-requires c = range_cell _ _ (pos_of_ne-zero c.if-cell-ne0.true) c.requires

pub returns-else-cell-ne0 : goal.returns-else-cell-ne0
returns-else-cell-ne0 c = λ x.
    let y = held c.args.grid.board c.args.set.rows x in
    sym (or-false y) ∙ ap (λ (z : Bool). y || z) (sym (no_stone c.args.cell x c.if-cell-ne0.false))

pub returns-then-cell-ne0 : goal.returns-then-cell-ne0
returns-then-cell-ne0 c = λ x.
    let y = held c.args.grid.board c.args.set.rows x in
    c.put.ensures x
    ∙ or_comm (nat_eq x c.args.cell) y
    ∙ ap (λ (z : Bool). y || z) (sym (stone_cell c.args.cell x (pos_of_ne-zero c.if-cell-ne0.true)))
