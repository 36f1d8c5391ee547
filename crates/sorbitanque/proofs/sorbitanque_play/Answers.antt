-- What is told of play's verdict, the place, the number of answers, and over.
use Rattle.std.proofs.Common.{◌∙◌}
use Rattle.rules.proofs.Small.{play_few_places, play_few_answers}
use Rattle.report.proofs.Numbers.{bool_one}
use Rattle.sorbitanque.proofs.Told.{play_told}
use Rattle.sorbitanque.proofs.sorbitanque_play.Goals as goal

pub overflow_cast-details : goal.overflow_cast-details
overflow_cast-details c = search play_few_places

pub overflow_cast-details-2 : goal.overflow_cast-details-2
overflow_cast-details-2 c = search play_few_answers

pub returns : goal.returns
returns c = play_told c.play-played.ensures c.from-told.ensures (c.from-over.ensures ∙ bool_one c.play-played.result.over)
