-- Moves are passed over until a wait, or the end, is met; the measure is how far the end is.
use Rattle.std.proofs.Common.{◌-◌}
use Rattle.outcomes.proofs.Ahead.{Passing}
use Rattle.outcomes.proofs.Search.next_wait.Given as goal

abbrev pub invariant-loop-next : goal.invariant-loop-next
invariant-loop-next l = Passing l.self.t.now l.self.end l.i l.next

abbrev pub decreases-loop-next : goal.decreases-loop-next
decreases-loop-next l = l.self.end - l.next
