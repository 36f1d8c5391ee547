-- A line that names no cell has the number 0.
use Rattle.rules.specs.Reading.{within, cell_of}
use Rattle.reading.proofs.number_on.Goals as goal

pub returns-in-None : goal.returns-in-None
unfolding within cell_of
returns-in-None c = rw c.in-None.is
