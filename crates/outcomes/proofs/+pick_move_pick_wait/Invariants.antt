-- The measure of the cycle is the table's length less the node, since each call is at a later node.
use Rattle.std.proofs.Common.{◌-◌, length}
use Rattle.outcomes.proofs.Picking.{PickingMove, PickingWait}
use Rattle.outcomes.proofs.+pick_move_pick_wait.Given as goal

abbrev pub decreases-pick_move : goal.decreases-pick_move
decreases-pick_move l = length l.t.now - l.i

abbrev pub decreases-pick_wait : goal.decreases-pick_wait
decreases-pick_wait l = length l.t.now - l.i

abbrev pub invariant-pick_move-loop : goal.invariant-pick_move-loop
invariant-pick_move-loop l = PickingMove l.grid.board l.t l.initial.cells.rows l.cells.rows l.i l.number l.under l.next l.left l.k l.counter

abbrev pub decreases-pick_move-loop : goal.decreases-pick_move-loop
decreases-pick_move-loop l = l.under - l.counter

abbrev pub invariant-pick_wait-loop-own : goal.invariant-pick_wait-loop-own
invariant-pick_wait-loop-own l = PickingWait l.grid.board l.t l.i l.number l.next l.k l.own

abbrev pub decreases-pick_wait-loop-own : goal.decreases-pick_wait-loop-own
decreases-pick_wait-loop-own l = length l.t - l.next
