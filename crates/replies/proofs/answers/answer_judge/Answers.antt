-- The workspace is always found as it is laid down, and the verdict's line, or all its numbers, is the reply.
use Rattle.replies.proofs.Laid.{all_are, workspace_never}
use Rattle.replies.proofs.Replying.{judge_as, wrote_seven, wrote_all}
use Rattle.replies.proofs.answers.answer_judge.Goals as goal

pub say_memory-requires : goal.say_memory-requires
say_memory-requires c =
    absurd (workspace_never (all_are 4294967295 _ (c.fill.ensures.after (λ y e. e))) c.judge-verdict.ensures.memory c.workspace_right-right.ensures.1 c.if-not-right.true)

pub returns-then-not-right : goal.returns-then-not-right
returns-then-not-right c =
    absurd (workspace_never (all_are 4294967295 _ (c.fill.ensures.after (λ y e. e))) c.judge-verdict.ensures.memory c.workspace_right-right.ensures.1 c.if-not-right.true)

pub returns-then-not-all : goal.returns-then-not-all
returns-then-not-all c = judge_as c.args.text.now c.fill.ensures.len _ (wrote_seven c.judge-verdict.ensures c.if-not-all.true c.report-said.ensures)

pub returns : goal.returns
returns c = judge_as c.args.text.now c.fill.ensures.len _ (wrote_all c.judge-verdict.ensures c.if-not-all.false c.tell_all-told.ensures c.write_line-said.ensures)
