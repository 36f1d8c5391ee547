-- What is told of outcome's verdict, and the number of cells.
use Rattle.rules.proofs.Small.{outcome_few}
use Rattle.sorbitanque.proofs.Told.{outcome_told}
use Rattle.sorbitanque.proofs.sorbitanque_outcome.Goals as goal

pub overflow_cast-details : goal.overflow_cast-details
overflow_cast-details c = search outcome_few

pub returns : goal.returns
returns c = search outcome_told
