-- The move's own cell is found once at the start, and each wait's cells go into the tally.
use Rattle.std.proofs.Common.{◌-◌}
use Rattle.fair.proofs.Found.{Tallying}
use Rattle.fair.proofs.not_apart_at.Given as goal

abbrev pub invariant-loop : goal.invariant-loop
invariant-loop l = Tallying l.grid.board l.table l.cell l.seen.once.rows l.seen.twice.rows l.i l.under l.next l.counter

abbrev pub decreases-loop : goal.decreases-loop
decreases-loop l = l.under - l.counter
