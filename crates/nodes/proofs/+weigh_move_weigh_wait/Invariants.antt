-- The measure is the table's length less the node: each call is at a later node.
use Rattle.std.proofs.Common.{◌-◌, length}
use Rattle.nodes.specs.Nodes.{a_wait, a_move}
use Rattle.nodes.proofs.Weighing.{Weighing}
use Rattle.nodes.proofs.+weigh_move_weigh_wait.Given as goal

abbrev pub decreases-weigh_move : goal.decreases-weigh_move
decreases-weigh_move l = length l.t.now - l.i

abbrev pub decreases-weigh_wait : goal.decreases-weigh_wait
decreases-weigh_wait l = length l.t.now - l.i

abbrev pub invariant-weigh_move-loop : goal.invariant-weigh_move-loop
invariant-weigh_move-loop l = Weighing a_move l.initial.t l.t l.i l.under l.next l.count l.counter

abbrev pub invariant-weigh_wait-loop : goal.invariant-weigh_wait-loop
invariant-weigh_wait-loop l = Weighing a_wait l.initial.t l.t l.i l.under l.next l.count l.counter
