-- `fair_sheet` meets its contract: the checks over every line, and then 12.
use Rattle.std.proofs.Common.{sym}
use Rattle.std.proofs.lemmas.Result.{err_from_is_err_and}
use Rattle.rules.specs.Entries.{◌>>=◌, fair}
use Rattle.judging.specs.Checked.{from_count}
use Rattle.judging.proofs.fair_sheet.Goals as goal

pub returns-in_err-free_on : goal.returns-in_err-free_on
unfolding fair ◌>>=◌
returns-in_err-free_on c =
    let e = err_from_is_err_and c.from_residual.result c.from_residual.ensures.1 in
    rw (e.1, e.2) (λ s h. rw (sym (c.in_err-free_on.ensures s h)))

pub returns-in_err-apart_on : goal.returns-in_err-apart_on
unfolding fair ◌>>=◌
returns-in_err-apart_on c =
    let e = err_from_is_err_and c.from_residual-in_err-apart_on.result c.from_residual-in_err-apart_on.ensures.1 in
    rw (e.1, e.2) (λ s h. rw (sym (c.in_ok-free_on.ensures s h), sym (c.in_err-apart_on.ensures s h)))

pub returns-in_err-single_on : goal.returns-in_err-single_on
unfolding fair ◌>>=◌
returns-in_err-single_on c =
    let e = err_from_is_err_and c.from_residual-in_err-single_on.result c.from_residual-in_err-single_on.ensures.1 in
    rw (e.1, e.2) (λ s h. rw (sym (c.in_ok-free_on.ensures s h), sym (c.in_ok-apart_on.ensures s h), sym (c.in_err-single_on.ensures s h)))

pub returns-in_err-idle : goal.returns-in_err-idle
unfolding fair ◌>>=◌
returns-in_err-idle c =
    let e = err_from_is_err_and c.from_residual-in_err-idle.result c.from_residual-in_err-idle.ensures.1 in
    rw (e.1, e.2) (λ s h. rw (sym (c.in_ok-free_on.ensures s h), sym (c.in_ok-apart_on.ensures s h), sym (c.in_ok-single_on.ensures s h), sym (c.in_err-idle.ensures s h).0))

pub returns : goal.returns
unfolding fair ◌>>=◌ from_count
returns c = λ s h.
    let told = c.few_on.ensures s (c.keep_live.ensures s h.tree (c.in_ok-idle.ensures s h).1) in
    rw (sym (c.in_ok-free_on.ensures s h), sym (c.in_ok-apart_on.ensures s h), sym (c.in_ok-single_on.ensures s h), sym (c.in_ok-idle.ensures s h).0) told
