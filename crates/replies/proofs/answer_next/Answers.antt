-- What is left of the window goes on, with what was read behind it.
use Rattle.std.proofs.Common.{◌≡◌, refl, arith, rules, Some}
use Rattle.requests.specs.declared.Unfound.{Unfound}
use Rattle.requests.proofs.Finding.{partial_none, partial_short, malformed_none}
use Rattle.replies.proofs.Moving.{all_left, beyond_short, went_on, went_past, ended}
use Rattle.replies.proofs.answer_next.Goals as goal

pub returns-in_err-print-clause-went_on : goal.returns-in_err-print-clause-went_on
returns-in_err-print-clause-went_on c = all_left

pub read_on-requires : goal.read_on-requires
read_on-requires c =
    let e : c.gather-taken.result.unfound ≡ Some Unfound.Partial = search rules in
    beyond_short c.args.window.now (omega arith) c.gather-taken.ensures (partial_short (rw e at c.gather-taken.ensures.left))

pub returns-in_err-say_request-in-Some-Malformed-clause-went_on : goal.returns-in_err-say_request-in-Some-Malformed-clause-went_on
returns-in_err-say_request-in-Some-Malformed-clause-went_on c = went_past c.args.window.now (omega arith) c.gather-taken.ensures refl

pub returns-in-None-clause-went_on : goal.returns-in-None-clause-went_on
returns-in-None-clause-went_on c = went_past c.args.window.now (omega arith) c.gather-taken.ensures refl

pub returns-in-Some-Partial-clause-went_on : goal.returns-in-Some-Partial-clause-went_on
returns-in-Some-Partial-clause-went_on c = went_on c.args.window.now (omega arith) c.gather-taken.ensures _ c.read_on.ensures.behind

pub returns-in-Some-Partial-clause-ended : goal.returns-in-Some-Partial-clause-ended
returns-in-Some-Partial-clause-ended c =
    let e : c.gather-taken.result.unfound ≡ Some Unfound.Partial = search rules in
    λ _. ended c.args.window.now (omega arith) c.gather-taken.ensures (partial_none (rw e at c.gather-taken.ensures.left))

pub returns-in_ok-say_request-in-Some-Malformed-clause-went_on : goal.returns-in_ok-say_request-in-Some-Malformed-clause-went_on
returns-in_ok-say_request-in-Some-Malformed-clause-went_on c = went_past c.args.window.now (omega arith) c.gather-taken.ensures refl

pub returns-in_ok-say_request-in-Some-Malformed-clause-ended : goal.returns-in_ok-say_request-in-Some-Malformed-clause-ended
returns-in_ok-say_request-in-Some-Malformed-clause-ended c =
    let e : c.gather-taken.result.unfound ≡ Some Unfound.Malformed = search rules in
    λ _. ended c.args.window.now (omega arith) c.gather-taken.ensures (malformed_none (rw e at c.gather-taken.ensures.left))
