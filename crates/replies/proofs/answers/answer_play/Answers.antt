-- The memory is always found as it is laid down, and what is written is the reply.
use Rattle.std.proofs.Common.{ap, refl, ◌∙◌}
use Rattle.rules.specs.declared.Told.{Told}
use Rattle.rules.proofs.Small.{play_few_places}
use Rattle.report.proofs.Numbers.{bool_one}
use Rattle.replies.proofs.Laid.{all_are, play_never}
use Rattle.replies.proofs.Replying.{play_as, wrote_play}
use Rattle.replies.proofs.answers.answer_play.Goals as goal

pub say_memory-requires : goal.say_memory-requires
say_memory-requires c =
    absurd
    (play_never _ (all_are 4294967295 _ (c.fill-2.ensures.after (λ y e. e))) (all_are 4294967295 _ (c.fill.ensures.after (λ y e. e)))
    c.play-played.ensures (ap (λ (z : Told). z.number) c.from-told.ensures) c.lent_right-right.ensures.1 c.if-not-right.true)

pub returns-then-not-right : goal.returns-then-not-right
returns-then-not-right c =
    absurd
    (play_never _ (all_are 4294967295 _ (c.fill-2.ensures.after (λ y e. e))) (all_are 4294967295 _ (c.fill.ensures.after (λ y e. e)))
    c.play-played.ensures (ap (λ (z : Told). z.number) c.from-told.ensures) c.lent_right-right.ensures.1 c.if-not-right.true)

pub overflow_cast-others : goal.overflow_cast-others
overflow_cast-others c = search play_few_places

pub returns : goal.returns
returns c =
    play_as c.args.text.now c.fill.ensures.len c.fill-2.ensures.len _
    (wrote_play c.play-played.ensures c.from-told.ensures refl refl (c.from.ensures ∙ bool_one c.play-played.result.over) c.write_line-said.ensures)
