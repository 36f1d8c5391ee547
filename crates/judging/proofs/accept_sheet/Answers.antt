-- `accept_sheet` meets its contract: the refusals of fairness, 13, or accepted.
use Rattle.std.proofs.lemmas.Result.{err_from_is_err_and}
use Rattle.rules.specs.Live.{living}
use Rattle.rules.specs.Entries.{◌>>=◌}
use Rattle.judging.proofs.Accepting.{countable, accept_unjoined, accept_got}
use Rattle.judging.proofs.accept_sheet.Goals as goal

pub returns-in_err-fair : goal.returns-in_err-fair
unfolding ◌>>=◌
returns-in_err-fair c =
    let e = err_from_is_err_and c.from_residual.result c.from_residual.ensures.1 in
    rw (e.1, e.2) (λ s h same. rw (c.in_err-fair.ensures s h))

pub first_unjoined-requires : goal.first_unjoined-requires
first_unjoined-requires c =
    let pre = c.requires in
    record { stands = (pre.sheet.root.cell, living pre.sheet.root.waits, countable (c.in_ok-fair.ensures pre.sheet pre.whole)) }

pub returns-in_err-passed : goal.returns-in_err-passed
returns-in_err-passed c =
    let e = err_from_is_err_and c.from_residual-in_err-passed.result c.from_residual-in_err-passed.ensures.1 in
    rw (e.1, e.2) (λ s h same. accept_unjoined same (c.in_ok-fair.ensures s h) h.set_up.stones.own_held _ c.in_err-passed.ensures)

pub returns : goal.returns
returns c = λ s h same. accept_got same (c.in_ok-fair.ensures s h) h.set_up.stones.own_held _ c.in_ok-passed.ensures
