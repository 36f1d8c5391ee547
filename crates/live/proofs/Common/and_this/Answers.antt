-- The first move is live; a later one where some common cell isn't in it.
use Rattle.live.proofs.Sharing.{now, still, told_first, told_spent, told_idle, told_live, told_last}
use Rattle.live.proofs.Looking.{move_cells}
use Rattle.live.proofs.Common.and_this.Goals as goal

pub returns-in-NoMove : goal.returns-in-NoMove
returns-in-NoMove c before d ws h a = told_first _ before d ws (now c.in-NoMove.is h) (move_cells c.requires.below c.cells_at-own.ensures d ws a)

pub returns-in-Spent : goal.returns-in-Spent
returns-in-Spent c before d ws h a = still c.in-Spent.is (told_spent before d ws) h

pub returns-then-not-exceeds : goal.returns-then-not-exceeds
returns-then-not-exceeds c before d ws h a =
    let own = move_cells c.requires.below c.cells_at-own.ensures d ws a in
    still c.in-Left.is (told_idle _ _ d ws own c.exceeds.ensures c.if-not-exceeds.true before) h

pub returns-then-exceeds : goal.returns-then-exceeds
returns-then-exceeds c before d ws h a =
    let own = move_cells c.requires.below c.cells_at-own.ensures d ws a in
    told_live _ _ d ws own _ c.exceeds.ensures c.if-not-exceeds.false (λ x. c.meet-both.ensures _ x) before (now c.in-Left.is h)

pub returns-else-exceeds : goal.returns-else-exceeds
returns-else-exceeds c before d ws h a =
    let own = move_cells c.requires.below c.cells_at-own.ensures d ws a in
    told_last _ _ d ws own _ c.exceeds.ensures c.if-not-exceeds.false (λ x. c.meet-both.ensures _ x) _ (λ x. c.empty.ensures.1 _ x) c.exceeds-2.ensures c.if-exceeds.false
    before (now c.in-Left.is h)
