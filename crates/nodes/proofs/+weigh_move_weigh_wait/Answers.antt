-- The loops weigh each node under the node, and then its own end and count are stored.
use Rattle.std.proofs.Common.{arith}
use Rattle.nodes.specs.Nodes.{a_wait, a_move}
use Rattle.nodes.proofs.Weighing.{weighing_starts, weighs_small, weighing_again, weighing_room, weighing_done}
use Rattle.nodes.proofs.Walk.{walking_child}
use Rattle.nodes.proofs.+weigh_move_weigh_wait.Goals as goal

pub weigh_move-loop-init : goal.weigh_move-loop-init
weigh_move-loop-init t c = weighing_starts a_move _ _ _ c.under_at-under.ensures

pub weigh_move-weigh_wait-w-requires : goal.weigh_move-weigh_wait-w-requires
weigh_move-weigh_wait-w-requires t c =
    let w = c.loop.invariant in
    let n = walking_child w.walk c.loop-test.true c.requires.stands in
    (omega (arith, n.at.here.room, w.walk.on, w.long, c.decreases), (n, omega (arith, w.long, c.requires.small)))

pub weigh_move-times-count-requires : goal.weigh_move-times-count-requires
weigh_move-times-count-requires t c =
    let w = c.loop.invariant in
    (w.small, weighs_small (walking_child w.walk c.loop-test.true c.requires.stands) c.weigh_wait-w.ensures)

pub weigh_move-loop-preserved : goal.weigh_move-loop-preserved
weigh_move-loop-preserved t c = weighing_again c.loop.invariant c.loop-test.true c.requires.stands _ _ _ _ c.weigh_wait-w.ensures c.times-count.ensures

pub weigh_move-set_weight-requires : goal.weigh_move-set_weight-requires
weigh_move-set_weight-requires t c =
    let w = c.loop.invariant in
    (omega (arith, c.requires.stands.at.here.room, w.long), omega (arith, weighing_room w c.loop-test.false c.requires.stands, c.requires.small), w.small)

pub weigh_move-returns : goal.weigh_move-returns
weigh_move-returns t c = weighing_done c.loop.invariant c.loop-test.false _ c.set_weight.ensures

pub weigh_wait-loop-init : goal.weigh_wait-loop-init
weigh_wait-loop-init t c = weighing_starts a_wait _ _ _ c.under_at-under.ensures

pub weigh_wait-weigh_move-m-requires : goal.weigh_wait-weigh_move-m-requires
weigh_wait-weigh_move-m-requires t c =
    let w = c.loop.invariant in
    let n = walking_child w.walk c.loop-test.true c.requires.stands in
    (omega (arith, n.at.here.room, w.walk.on, w.long, c.decreases), (n, omega (arith, w.long, c.requires.small)))

pub weigh_wait-plus-count-requires : goal.weigh_wait-plus-count-requires
weigh_wait-plus-count-requires t c =
    let w = c.loop.invariant in
    (w.small, weighs_small (walking_child w.walk c.loop-test.true c.requires.stands) c.weigh_move-m.ensures)

pub weigh_wait-loop-preserved : goal.weigh_wait-loop-preserved
weigh_wait-loop-preserved t c = weighing_again c.loop.invariant c.loop-test.true c.requires.stands _ _ _ _ c.weigh_move-m.ensures c.plus-count.ensures

pub weigh_wait-set_weight-requires : goal.weigh_wait-set_weight-requires
weigh_wait-set_weight-requires t c =
    let w = c.loop.invariant in
    (omega (arith, c.requires.stands.at.here.room, w.long), omega (arith, weighing_room w c.loop-test.false c.requires.stands, c.requires.small), w.small)

pub weigh_wait-returns : goal.weigh_wait-returns
weigh_wait-returns t c = weighing_done c.loop.invariant c.loop-test.false _ c.set_weight.ensures
