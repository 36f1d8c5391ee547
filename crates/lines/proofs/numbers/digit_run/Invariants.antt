-- Each digit goes on with the run of the whole text.
use Rattle.lines.proofs.Digits.{Counted}
use Rattle.lines.proofs.numbers.digit_run.Given as goal

abbrev pub invariant-loop-long : goal.invariant-loop-long
invariant-loop-long l = Counted l.s l.value l.long
