-- The marks of the first i nodes are cleared at the loop's head.
use Rattle.std.proofs.Common.{◌≡◌}
use Rattle.nodes.specs.Table.{end_in}
use Rattle.answering.specs.Rows.{Cleared}
use Rattle.answering.proofs.clear_marks.Given as goal

abbrev pub invariant-loop-i : goal.invariant-loop-i
invariant-loop-i l = (l.end ≡ end_in l.initial.t 0) × Cleared l.initial.t l.i l.t
