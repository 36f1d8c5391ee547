-- What was read stands behind the window, which has a place there, and where nothing was, the window still lies there.
use Rattle.std.proofs.Common.{arith}
use Rattle.replies.proofs.Moving.{read_behind}
use Rattle.replies.proofs.window.Window.read_on.Goals as goal

pub returns-in_err-got : goal.returns-in_err-got
returns-in_err-got c = record { more = _; behind = read_behind c.read.new.buf _ {got = 0} c.make_place.ensures (omega arith) (omega arith) (omega arith) }

pub returns-in_err-say_request : goal.returns-in_err-say_request
returns-in_err-say_request c = record { more = _; behind = read_behind c.read.new.buf _ {got = c.in_ok-got.got} c.make_place.ensures (omega arith) c.in_ok-got.ensures.bound.0 (omega arith) }

pub returns : goal.returns
returns c = record { more = _; behind = read_behind c.read.new.buf _ {got = c.in_ok-got.got} c.make_place.ensures (omega arith) c.in_ok-got.ensures.bound.0 (omega arith) }
