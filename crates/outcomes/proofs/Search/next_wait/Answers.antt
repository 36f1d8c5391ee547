-- A move is passed over.
use Rattle.std.proofs.Common.{arith}
use Rattle.outcomes.proofs.Ahead.{passing_again}
use Rattle.outcomes.proofs.Search.next_wait.Goals as goal

pub loop-next-preserved : goal.loop-next-preserved
loop-next-preserved c = passing_again c.loop-next.invariant (omega arith) c.requires _ c.end_at-next.ensures (omega arith)
