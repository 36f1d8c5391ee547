-- The measure is the table's length less the node: each call is at a later node.
use Rattle.std.proofs.Common.{◌-◌, length}
use Rattle.nodes.specs.Nodes.{a_wait, a_move}
use Rattle.nodes.proofs.Collecting.{Collecting}
use Rattle.nodes.proofs.+collect_move_collect_wait.Given as goal

abbrev pub decreases-collect_move : goal.decreases-collect_move
decreases-collect_move l = length l.t.now - l.i

abbrev pub decreases-collect_wait : goal.decreases-collect_wait
decreases-collect_wait l = length l.t.now - l.i

abbrev pub invariant-collect_move-loop : goal.invariant-collect_move-loop
invariant-collect_move-loop l = Collecting a_move l.grid.board l.t l.initial.so_far.cells.rows l.so_far.cells.rows l.i l.under l.so_far.next l.counter

abbrev pub invariant-collect_wait-loop : goal.invariant-collect_wait-loop
invariant-collect_wait-loop l = Collecting a_wait l.grid.board l.t l.initial.so_far.cells.rows l.so_far.cells.rows l.i l.under l.so_far.next l.counter
