-- The waits of a move are picked from one after another, and at a wait the moves are passed over up to the one picked.
use Rattle.std.proofs.Common.{◌≡◌, ℕ, ◌||◌, subst, ◌∙◌, arith}
use Rattle.rules.specs.Tree.{stone}
use Rattle.rules.specs.Words.{among}
use Rattle.cells.specs.Cells.{held}
use Rattle.outcomes.proofs.Picking.{picking_move_starts, picking_move_step, picking_move_again, move_picked, picking_wait_step, picking_wait_room, picking_wait_again, picking_wait_done, move_step, moves_start}
use Rattle.outcomes.proofs.+pick_move_pick_wait.Goals as goal

pub pick_move-loop-init : goal.pick_move-loop-init
pick_move-loop-init t c = picking_move_starts c.under_at-under.ensures c.count_at-left.ensures

pub pick_move-count_at-own-requires : goal.pick_move-count_at-own-requires
pick_move-count_at-own-requires t c = (picking_move_step c.loop.invariant (omega arith) c.requires.stands).room

pub pick_move-nonzero_div-left : goal.pick_move-nonzero_div-left
pick_move-nonzero_div-left t c = rw c.count_at-own.ensures (picking_move_step c.loop.invariant (omega arith) c.requires.stands).own

pub pick_move-nonzero_div-k : goal.pick_move-nonzero_div-k
pick_move-nonzero_div-k t c = rw c.count_at-own.ensures (picking_move_step c.loop.invariant (omega arith) c.requires.stands).some

pub pick_move-pick_wait-cells-requires : goal.pick_move-pick_wait-cells-requires
pick_move-pick_wait-cells-requires t c =
    let s = picking_move_step c.loop.invariant (omega arith) c.requires.stands in
    (omega (arith, s.room, c.loop.invariant.on, c.decreases), (s.first, rw c.count_at-own.ensures s.pick))

pub pick_move-nonzero_rem-k : goal.pick_move-nonzero_rem-k
pick_move-nonzero_rem-k t c = rw c.count_at-own.ensures (picking_move_step c.loop.invariant (omega arith) c.requires.stands).some

pub pick_move-end_at-next-requires : goal.pick_move-end_at-next-requires
pick_move-end_at-next-requires t c = (picking_move_step c.loop.invariant (omega arith) c.requires.stands).room

pub pick_move-loop-preserved : goal.pick_move-loop-preserved
pick_move-loop-preserved t c =
    picking_move_again c.loop.invariant (omega arith) c.requires.stands _ _ _ c.count_at-own.ensures c.end_at-next.ensures c.pick_wait-cells.ensures

pub pick_move-returns : goal.pick_move-returns
pick_move-returns t c = λ a ws p.
    move_picked a (omega arith) (c.loop.invariant.waits a ws p)
    (subst (λ (y : ℕ). (x : ℕ) → held c.args.grid.board c.with_stone-cells.result.rows x ≡ (held c.args.grid.board c.args.set.rows x || among (stone y) x))
    (c.cell_at-cell.ensures ∙ p.at.here.weight.row.cell) c.with_stone-cells.ensures)

pub pick_wait-count_at-own-requires : goal.pick_wait-count_at-own-requires
pick_wait-count_at-own-requires t c = (move_step (moves_start c.requires.stands.1)).room

pub pick_wait-end_at-next-requires : goal.pick_wait-end_at-next-requires
pick_wait-end_at-next-requires t c = (picking_wait_step c.loop-own.invariant c.requires.stands).room

pub pick_wait-count_at-own-requires-in-loop-own : goal.pick_wait-count_at-own-requires-in-loop-own
pick_wait-count_at-own-requires-in-loop-own t c = rw c.end_at-next.ensures (picking_wait_room c.loop-own.invariant (omega arith) c.requires.stands)

pub pick_wait-loop-own-smaller : goal.pick_wait-loop-own-smaller
pick_wait-loop-own-smaller t c =
    let s = picking_wait_step c.loop-own.invariant c.requires.stands in
    omega (arith, s.room, s.on, c.end_at-next.ensures)

pub pick_wait-loop-own-preserved : goal.pick_wait-loop-own-preserved
pick_wait-loop-own-preserved t c = picking_wait_again c.loop-own.invariant (omega arith) c.requires.stands _ _ c.end_at-next.ensures c.count_at-own-in-loop-own.ensures

pub pick_wait-pick_move-requires : goal.pick_wait-pick_move-requires
pick_wait-pick_move-requires t c =
    let w = c.loop-own.invariant in
    let s = picking_wait_step w c.requires.stands in
    (omega (arith, s.room, w.on, c.decreases), (s.cell, s.first, (s.here (omega (arith, w.own_is))).0))

pub pick_wait-returns : goal.pick_wait-returns
pick_wait-returns t c = picking_wait_done c.loop-own.invariant (omega arith) _ _ c.pick_move.ensures
