-- The bytes up to the first line feed are the line, and as many as it says are the text.
use Rattle.std.proofs.Common.{◌≡◌, arith, Some, None}
use Rattle.std.proofs.lemmas.Result.{err_from_is_err_and}
use Rattle.requests.specs.Sent.{in_text, no_request}
use Rattle.requests.specs.declared.Unfound.{Unfound}
use Rattle.requests.proofs.find.Goals as goal

pub returns-in_err-request : goal.returns-in_err-request
returns-in_err-request c =
    let none : c.read_request.result ≡ None = grind arith in
    let e : c.in_err-request.field-0.0 ≡ Unfound.Malformed = grind arith in
    let p = err_from_is_err_and c.from_residual-in_err-request.result c.from_residual-in_err-request.ensures.1 in
    rw (p.1, p.2, e) (no_request _ c.in_ok-end.ensures (rw none at c.read_request.ensures))

pub returns-then-bytes-text : goal.returns-then-bytes-text
returns-then-bytes-text c =
    let some : c.read_request.result ≡ Some c.in_ok-request.request = grind arith in
    in_text _ _ _ c.in_ok-end.ensures (rw some at c.read_request.ensures) (omega arith)
