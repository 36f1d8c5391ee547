-- The reading's refusals, those of judge, or accepted, with the whole tree in the table.
use Rattle.std.proofs.lemmas.Result.{err_from_is_err_and}
use Rattle.sheet.proofs.Playing.{unread, of_passing, held_ready}
use Rattle.sheet.proofs.ready_text.Goals as goal

pub returns-in_err-head : goal.returns-in_err-head
returns-in_err-head c =
    let p = err_from_is_err_and c.from_residual.result c.from_residual.ensures.1 in
    rw (p.1, p.2) (unread _ _ c.in_err-head.ensures.reply_is)

pub returns-in_err-accepted : goal.returns-in_err-accepted
returns-in_err-accepted c =
    let h = c.in_ok-head.ensures.reply_is in
    let p = err_from_is_err_and c.from_residual-in_err-accepted.result c.from_residual-in_err-accepted.ensures.1 in
    rw (p.1, p.2) (of_passing _ c.in_ok-head.head h _ (c.in_err-accepted.ensures h.sheet h.whole h.for))

pub returns : goal.returns
returns c =
    let h = c.in_ok-head.ensures.reply_is in
    let a = (c.in_ok-accepted.ensures h.sheet h.whole h.for).0 in
    held_ready _ c.in_ok-head.head h a.passes _ (c.whole_again.ensures _ h.sheet h.reads a.keeps)
