-- At the loop's head the game so far is that of the first i moves.
use Rattle.answering.proofs.Playing.{Going}
use Rattle.answering.proofs.play_moves.Given as goal

abbrev pub invariant-loop-i : goal.invariant-loop-i
invariant-loop-i l =
    Going l.grid.board l.player l.moves l.fn.t l.fn.room l.fn.set_up.own l.fn.set_up.opp l.t l.room l.stones.own.rows l.stones.opp.rows l.i-counter
