-- The reading's refusals, or what `name_outcome` does.
use Rattle.std.proofs.lemmas.Result.{err_from_is_err_and}
use Rattle.sheet.proofs.Naming.{kept_refused, kept_as, outcome_refused, outcome_sheet}
use Rattle.sheet.proofs.outcome_text.Goals as goal

pub returns-in_err-head : goal.returns-in_err-head
returns-in_err-head c =
    let p = err_from_is_err_and c.from_residual.result c.from_residual.ensures.1 in
    rw (p.1, p.2) (kept_refused _ _ _ (outcome_refused _ _ _ _ c.in_err-head.ensures.reply_is))

pub returns : goal.returns
returns c =
    let held = c.in_ok-head.ensures.reply_is in
    kept_as (outcome_sheet _ _ _ held.sheet held.reads) (c.name_outcome.ensures held.sheet held.whole)
