-- `lines::numbers::digit_run` meets its contract. The run ends at a byte that is no digit, or with the text.
use mathlib.Core.Path.{sym}
use Rattle.std.proofs.Common.{arith}
use Rattle.rules.specs.Text.{is_digit}
use Rattle.lines.proofs.Digits.{run_whole, run_stops, run_more}
use Rattle.lines.proofs.numbers.digit_run.Goals as goal

pub returns-then-not-is_ascii_digit : goal.returns-then-not-is_ascii_digit
unfolding is_digit
returns-then-not-is_ascii_digit c = run_stops c.loop-long.invariant c.loop-long-test.true (sym c.if-not-is_ascii_digit.ensures.value)

pub loop-long-preserved : goal.loop-long-preserved
unfolding is_digit
loop-long-preserved c =
    rw c.appended-value.ensures (run_more c.loop-long.invariant c.loop-long-test.true (sym c.if-not-is_ascii_digit.ensures.value))

pub returns : goal.returns
returns c = run_whole c.loop-long.invariant (omega arith)
