-- Each move is looked at once, as far as a cell is common.
use Rattle.std.proofs.Common.{◌-◌}
use Rattle.live.proofs.Idle.{Counting}
use Rattle.live.proofs.look.Given as goal

abbrev pub invariant-loop : goal.invariant-loop
invariant-loop l = Counting l.grid.board l.t l.i l.under l.next l.counter l.common l.live

abbrev pub decreases-loop : goal.decreases-loop
decreases-loop l = l.under - l.counter
