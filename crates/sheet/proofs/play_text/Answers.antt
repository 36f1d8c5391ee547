-- The refusals of judge, or what `play_sheet` does.
use Rattle.std.proofs.lemmas.Result.{err_from_is_err_and}
use Rattle.rules.specs.Sizes.{least_workspace}
use Rattle.sheet.proofs.Playing.{played_refused, play_refused}
use Rattle.sheet.proofs.play_text.Goals as goal

pub returns-in_err-head : goal.returns-in_err-head
returns-in_err-head c =
    let p = err_from_is_err_and c.from_residual.result c.from_residual.ensures.1 in
    rw (p.1, p.2) (played_refused _ _ _ (play_refused _ _ _ least_workspace _ c.in_err-head.ensures))
