-- As much is lent as the request says, and the reply is that of what is asked.
use Rattle.replies.proofs.Replying.{replied_judge, replied_play, replied_outcome}
use Rattle.replies.proofs.answers.answer.Goals as goal

pub returns-in-Judge : goal.returns-in-Judge
returns-in-Judge c = replied_judge c.args.request _ _ c.split_at_mut-workspace.ensures.front_len _ c.in-Judge.is c.answer_judge.ensures

pub returns-in-Play : goal.returns-in-Play
returns-in-Play c = replied_play c.args.request _ _ c.split_at_mut-workspace.ensures.front_len c.split_at_mut-room.ensures.front_len c.in-Play.is c.answer_play.ensures

pub returns-in-Outcome : goal.returns-in-Outcome
returns-in-Outcome c = replied_outcome c.args.request _ _ c.split_at_mut-workspace.ensures.front_len c.split_at_mut-room.ensures.front_len c.in-Outcome.is c.answer_outcome.ensures
