-- The tests say whether the cell is on the board; there its number is small.
use native.Mathlib.Omega.{arith}
use Rattle.rules.specs.Board.{cell_at}
use Rattle.reading.proofs.OnBoard.{off_board, on_board_lem}
use Rattle.reading.proofs.number_at.Goals as goal

pub returns-then-column-lt1 : goal.returns-then-column-lt1
returns-then-column-lt1 c = off_board _ _ _ (λ i. omega arith)

pub returns-then-row-lt1 : goal.returns-then-row-lt1
returns-then-row-lt1 c = off_board _ _ _ (λ i. omega arith)

pub returns : goal.returns
unfolding cell_at
returns c = on_board_lem _ _ _ (record { left = omega arith; right = omega arith; top = omega arith; bottom = omega arith })
