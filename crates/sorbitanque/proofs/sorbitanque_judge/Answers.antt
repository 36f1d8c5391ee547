-- What is told of judge's verdict.
use Rattle.sorbitanque.proofs.Told.{judge_told}
use Rattle.sorbitanque.proofs.sorbitanque_judge.Goals as goal

pub returns : goal.returns
returns c = search judge_told
