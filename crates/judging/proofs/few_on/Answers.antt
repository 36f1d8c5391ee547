-- `few_on` meets its contract: 12, or the number of outcomes.
use Rattle.std.proofs.Common.{arith}
use Rattle.judging.proofs.Fairness.{many_told, few_told, idle_low}
use Rattle.judging.proofs.few_on.Goals as goal

pub returns-then-too_many : goal.returns-then-too_many
returns-then-too_many c = λ s h. many_told h _ c.count_at-outcomes.ensures c.if-too_many.true

pub overflow_cast-result-2 : goal.overflow_cast-result-2
overflow_cast-result-2 c = omega (arith, idle_low c.requires.keeps)

pub returns : goal.returns
returns c = λ s h. few_told h _ c.count_at-outcomes.ensures c.if-too_many.false
