-- The chosen wait's mark is cleared, and the waits under the chosen move are marked.
use Rattle.answering.proofs.Answered.{chosen_room, chosen_move, chosen_cell, chosen_answered}
use Rattle.answering.proofs.answer_to.Goals as goal

pub set_mark-requires : goal.set_mark-requires
set_mark-requires c =
    let p = c.requires.1 in
    chosen_room _ p.4 (c.answer_at-answer.ensures _ _ _ _ p.4)

pub open_under-requires : goal.open_under-requires
open_under-requires c =
    let p = c.requires.1 in
    chosen_move _ p.4 (c.answer_at-answer.ensures _ _ _ _ p.4) c.set_mark.ensures

pub cell_at-requires : goal.cell_at-requires
cell_at-requires c =
    let p = c.requires.1 in
    chosen_cell _ p.4 (c.answer_at-answer.ensures _ _ _ _ p.4) c.set_mark.ensures c.open_under.ensures

pub returns : goal.returns
returns c n₁ b ws k a = chosen_answered _ a (c.answer_at-answer.ensures n₁ b ws k a) c.set_mark.ensures c.open_under.ensures _ c.cell_at.ensures
