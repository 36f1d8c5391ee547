-- The memory is always found as it is laid down, and what is written is the reply.
use Rattle.std.proofs.Common.{ap, refl}
use Rattle.rules.specs.declared.Told.{Told}
use Rattle.replies.proofs.Laid.{all_are, outcome_never}
use Rattle.replies.proofs.Replying.{outcome_as, wrote_outcome}
use Rattle.replies.proofs.answers.answer_outcome.Goals as goal

pub say_memory-requires : goal.say_memory-requires
say_memory-requires c =
    absurd
    (outcome_never _ (all_are 4294967295 _ (c.fill-2.ensures.after (λ y e. e))) (all_are 4294967295 _ (c.fill.ensures.after (λ y e. e)))
    c.outcome-named.ensures (ap (λ (z : Told). z.number) c.from-told.ensures) c.lent_right-right.ensures.1 c.if-not-right.true)

pub returns-then-not-right : goal.returns-then-not-right
returns-then-not-right c =
    absurd
    (outcome_never _ (all_are 4294967295 _ (c.fill-2.ensures.after (λ y e. e))) (all_are 4294967295 _ (c.fill.ensures.after (λ y e. e)))
    c.outcome-named.ensures (ap (λ (z : Told). z.number) c.from-told.ensures) c.lent_right-right.ensures.1 c.if-not-right.true)

pub returns : goal.returns
returns c =
    outcome_as c.args.text.now c.fill.ensures.len c.fill-2.ensures.len _
    (wrote_outcome c.outcome-named.ensures c.from-told.ensures refl c.write_line-said.ensures)
