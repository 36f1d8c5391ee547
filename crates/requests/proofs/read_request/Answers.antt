-- The line is its word and its numbers, or no request's.
use Rattle.requests.proofs.Reading.{line_parts, line_read}
use Rattle.requests.proofs.read_request.Goals as goal

pub returns-in_err-ask : goal.returns-in_err-ask
returns-in_err-ask c = rw c.from_residual.ensures (λ ns r l. c.in_err-ask.ensures r.ask (line_parts c.first_field.ensures l).0)

pub returns : goal.returns
returns c = line_read c.in_ok-ask.ask c.request_of.result c.first_field.ensures c.in_ok-ask.ensures c.in_ok-count.ensures c.request_of.ensures
