-- The measure of the cycle is the table's length less the node, since each call is at a later node.
use Rattle.std.proofs.Common.{◌-◌, length}
use Rattle.live.proofs.Thinning.{WaitsGoing, MovesGoing}
use Rattle.live.proofs.+thin_move_thin_wait.Given as goal

abbrev pub decreases-thin_move : goal.decreases-thin_move
decreases-thin_move l = length l.t.now - l.from

abbrev pub decreases-thin_wait : goal.decreases-thin_wait
decreases-thin_wait l = length l.t.now - l.from

abbrev pub invariant-thin_move-loop : goal.invariant-thin_move-loop
invariant-thin_move-loop l = WaitsGoing l.grid.board l.initial.t l.t l.from l.to l.under l.next l.out l.counter

abbrev pub decreases-thin_move-loop : goal.decreases-thin_move-loop
decreases-thin_move-loop l = l.under - l.counter

abbrev pub invariant-thin_wait-loop : goal.invariant-thin_wait-loop
invariant-thin_wait-loop l = MovesGoing l.grid.board l.initial.t l.t l.from l.to l.under l.next l.out l.counter l.common l.kept

abbrev pub decreases-thin_wait-loop : goal.decreases-thin_wait-loop
decreases-thin_wait-loop l = l.under - l.counter
