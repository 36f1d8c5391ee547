-- The rows passed are the same.
use Rattle.fair.proofs.Rows.{Comparing}
use Rattle.fair.proofs.same_rows.Given as goal

abbrev pub invariant-loop-k : goal.invariant-loop-k
invariant-loop-k l = Comparing l.table l.i l.j l.n l.k
