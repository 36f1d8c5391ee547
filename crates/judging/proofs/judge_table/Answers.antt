-- `judge_table` meets its contract: the refusals, or accepted with the counts.
use Rattle.std.proofs.Common.{sym, ap, arith}
use Rattle.rules.specs.Entries.{judged}
use Rattle.judging.proofs.Counting.{sheet_waits}
use Rattle.judging.proofs.Accepting.{judged_accepted}
use Rattle.judging.proofs.judge_table.Goals as goal

pub overflow_sub-waits : goal.overflow_sub-waits
overflow_sub-waits c =
    let held = c.requires.whole.tree in
    omega (arith, sheet_waits held, c.count_moves-moves.ensures _ _ held)

pub returns-in-Err : goal.returns-in-Err
unfolding judged
returns-in-Err c = λ s h same. sym (ap judged (c.in-Err.ensures s h same))

pub returns-in-Ok : goal.returns-in-Ok
returns-in-Ok c = λ s h same.
    let moves = c.count_moves-moves.ensures _ s h.tree in
    judged_accepted _ _ s c.in-Ok.accepted (c.in-Ok.ensures s h same) moves (omega (arith, moves, sheet_waits h.tree))
