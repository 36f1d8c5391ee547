-- The measure is how far the end is, since each call is at a later node.
use Rattle.std.proofs.Common.{◌-◌}
use Rattle.outcomes.proofs.Searching.{Searching}
use Rattle.outcomes.proofs.Search.+first_from.Given as goal

abbrev pub decreases-first_from : goal.decreases-first_from
decreases-first_from l = l.self.now.end - l.i

abbrev pub invariant-loop-next : goal.invariant-loop-next
invariant-loop-next l = Searching l.self.grid.board l.self.player l.self.t.now l.self.end l.i l.many l.number l.set.rows l.after l.others l.next l.n l.passed

abbrev pub decreases-loop-next : goal.decreases-loop-next
decreases-loop-next l = l.after - l.next
