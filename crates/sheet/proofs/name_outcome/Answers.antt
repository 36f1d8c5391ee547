-- The refusals of fairness, 18, or what `list_outcome` does.
use Rattle.std.proofs.Common.{ap, arith}
use Rattle.rules.specs.Entries.{named}
use Rattle.std.proofs.lemmas.Result.{err_from_is_err_and}
use Rattle.sheet.proofs.Naming.{kept_refused, kept_as, has_outcome, naming_refused, naming_none, naming_listing}
use Rattle.sheet.proofs.name_outcome.Goals as goal

pub returns-in_err-fair : goal.returns-in_err-fair
returns-in_err-fair c = λ s h.
    let p = err_from_is_err_and c.from_residual.result c.from_residual.ensures.1 in
    rw (p.1, p.2) (kept_refused _ _ _ (ap named (naming_refused s _ _ _ (c.in_err-fair.ensures s h))))

pub returns-then-fair-number : goal.returns-then-fair-number
returns-then-fair-number c = λ s h.
    let f = c.in_ok-fair.ensures s h in
    kept_refused _ _ _ (ap named (naming_none s _ _ f.passes (omega (arith, f.counted, c.if-fair-number.true))))

pub returns : goal.returns
returns c = λ s h.
    let f = c.in_ok-fair.ensures s h in
    let has = has_outcome h.set_up f c.if-fair-number.false in
    kept_as (ap named (naming_listing s _ _ f.passes has.numbered)) (c.list_outcome.ensures s has)
