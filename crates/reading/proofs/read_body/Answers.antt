-- A set-up line refused, the tree refused, or both read.
use Rattle.std.proofs.lemmas.Result.{err_from_is_err_and}
use Rattle.reading.proofs.Body.{set_up_refused, body_refused, body_got}
use Rattle.reading.proofs.read_body.Goals as goal

pub returns-in_err-start : goal.returns-in_err-start
returns-in_err-start c =
    let p = err_from_is_err_and c.from_residual.result c.from_residual.ensures.1 in
    rw (p.1, p.2) (set_up_refused _ _ _ _ c.in_err-start.ensures)

pub returns-in_err-read_tree : goal.returns-in_err-read_tree
returns-in_err-read_tree c =
    let p = err_from_is_err_and c.from_residual-in_err-read_tree.result c.from_residual-in_err-read_tree.ensures.1 in
    rw (p.1, p.2) (body_refused _ _ _ _ _ c.in_ok-start.ensures _ _ c.in_err-read_tree.ensures)

pub returns : goal.returns
returns c = body_got _ _ _ _ _ c.in_ok-start.ensures _ c.in_ok-read_tree.ensures
