-- `cells::Cells::empty` meets its contract: no digit of 0 is set.
use Rattle.std.proofs.Common.{refl}
use Rattle.cells.proofs.Held.{held_empty}
use Rattle.cells.proofs.Cells.empty.Goals as goal

pub returns : goal.returns
returns c = (refl, held_empty)
