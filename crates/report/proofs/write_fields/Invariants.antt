-- After i turns the first i numbers are written.
use Rattle.report.proofs.Line.{Writing}
use Rattle.report.proofs.write_fields.Given as goal

abbrev pub invariant-loop-number : goal.invariant-loop-number
invariant-loop-number l = Writing l.numbers l.initial.room l.at l.room l.end l.number-index
