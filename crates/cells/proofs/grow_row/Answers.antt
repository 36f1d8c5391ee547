-- `cells::grow_row` meets its contract: it computes to the definition.
use Rattle.std.proofs.Common.{refl}
use Rattle.cells.specs.Growing.{grown_row}
use Rattle.cells.proofs.grow_row.Goals as goal

pub returns : goal.returns
unfolding grown_row
returns c = refl
