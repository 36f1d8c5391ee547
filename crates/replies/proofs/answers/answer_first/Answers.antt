-- The request's bytes are its line, a line feed and its text.
use Rattle.replies.proofs.Gathering.{answered_to}
use Rattle.replies.proofs.answers.answer_first.Goals as goal

pub returns : goal.returns
returns c = answered_to c.in_ok-request.ensures c.answer.ensures
