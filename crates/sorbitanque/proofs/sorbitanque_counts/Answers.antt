-- All numbers of judge's verdict are told.
use Rattle.sorbitanque.proofs.Told.{counts_told}
use Rattle.sorbitanque.proofs.sorbitanque_counts.Goals as goal

pub returns : goal.returns
returns c = search counts_told
