-- The reading's refusals, or the verdict on the sheet that was read.
use Rattle.sheet.proofs.Judging.{reply_refused, reply_sheet}
use Rattle.sheet.proofs.judge_text.Goals as goal

pub returns-in-Err : goal.returns-in-Err
returns-in-Err c = reply_refused _ _ c.in-Err.ensures.reply_is

pub returns-in-Ok : goal.returns-in-Ok
returns-in-Ok c =
    let held = c.in-Ok.ensures.reply_is in
    reply_sheet _ held.sheet _ held.reads (c.judge_table.ensures held.sheet held.whole held.for)
