-- The waits of a move are moved up one after another, and of a wait the moves that are live.
use Rattle.std.proofs.Common.{arith, refl}
use mathlib.Core.Logic.{inl, inr}
use Rattle.nodes.proofs.Walk.{walking_child}
use Rattle.live.proofs.Asking.{Stops}
use Rattle.live.proofs.Thinning.{waits_again, waits_done, moves_starts, moves_live, moves_idle, moves_done}
use Rattle.live.proofs.+thin_move_thin_wait.Goals as goal
use Rattle.live.proofs.+thin_move_thin_wait.Goals.{thin_wait-then-and_this, thin_wait-else-and_this, thin_wait-else-loop-test, thin_wait-then-loop-test+in-Spent}

pub thin_move-end_at-after-requires : goal.thin_move-end_at-after-requires
thin_move-end_at-after-requires t c =
    let n = walking_child c.loop.invariant.walk c.loop-test.true c.requires.stands in
    n.at.here.weight.row.room

pub thin_move-thin_wait-out-requires : goal.thin_move-thin_wait-out-requires
thin_move-thin_wait-out-requires t c =
    let g = c.loop.invariant in
    let n = walking_child g.walk c.loop-test.true c.requires.stands in (
      omega (arith, n.at.here.weight.row.room, g.walk.on, g.going.kept.long, c.decreases),
      (n, (omega (arith, g.going.kept.long, c.requires.small), g.going.behind)),
    )

pub thin_move-loop-preserved : goal.thin_move-loop-preserved
thin_move-loop-preserved t c =
    let g = c.loop.invariant in
    waits_again g c.loop-test.true (walking_child g.walk c.loop-test.true c.requires.stands) c.requires.stands c.end_at-after.ensures c.thin_wait-out.ensures

pub thin_move-returns : goal.thin_move-returns
thin_move-returns t c =
    let p = c.requires in
    let g = c.loop.invariant in
    waits_done g c.loop-test.false p.stands _ _ c.set_node.ensures c.cell_at-cell.ensures c.under_at-under.ensures
    (omega (arith, p.stands.at.here.weight.row.room, p.up, g.going.kept.long))

pub thin_wait-loop-init : goal.thin_wait-loop-init
thin_wait-loop-init t c = moves_starts _ _ _ _ _ c.under_at-under.ensures c.requires.up

pub thin_wait-end_at-after-requires : goal.thin_wait-end_at-after-requires
thin_wait-end_at-after-requires t c =
    let n = walking_child c.loop.invariant.walk c.loop-test.true c.requires.stands in
    n.at.here.weight.row.room

pub thin_wait-and_this-requires : goal.thin_wait-and_this-requires
thin_wait-and_this-requires t c =
    let w = c.loop.invariant.walk in
    record { stands = walking_child w c.loop-test.true c.requires.stands; below = omega (arith, w.on) }

pub thin_wait-thin_move-out-requires : goal.thin_wait-thin_move-out-requires
thin_wait-thin_move-out-requires t c =
    let g = c.loop.invariant in
    let n = walking_child g.walk c.loop-test.true c.requires.stands in (
      omega (arith, n.at.here.weight.row.room, g.walk.on, g.going.kept.long, c.decreases),
      (n, (omega (arith, g.going.kept.long, c.requires.small), g.going.behind)),
    )

pub thin_wait-loop-preserved : goal.thin_wait-loop-preserved
thin_wait-loop-preserved t c =
    let g = c.loop.invariant in
    let s = c.requires.stands in
    let n = walking_child g.walk c.loop-test.true s in
    let m = c.and_this.ensures in
    let end = c.end_at-after.ensures in
    elim c.if-and_this.branch [
      | thin_wait-then-and_this y ↦ rw (y.t-is, y.out-is, y.kept-is) (moves_live g c.loop-test.true n s m end y.if-and_this.true y.thin_move-out.ensures refl)
      | thin_wait-else-and_this y ↦ rw (y.t-is, y.out-is, y.kept-is) (moves_idle g c.loop-test.true n s m end y.if-and_this.false)
    ]

pub thin_wait-returns : goal.thin_wait-returns
thin_wait-returns t c =
    let p = c.requires in
    let g = c.loop.invariant in
    let why : Stops c.loop.common c.under_at-under.result c.loop.counter =
    elim c.loop-test.branch [
      | thin_wait-else-loop-test y ↦ inl y.loop-test.false
      | thin_wait-then-loop-test+in-Spent y ↦ inr y.in-Spent.is
    ] in
    moves_done g why p.stands c.set_node.ensures (omega (arith, p.stands.at.here.weight.row.room, p.up, g.going.kept.long))
