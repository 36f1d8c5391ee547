-- `cells::Cells::meet` meets its contract: by the law of rows in common.
use Rattle.cells.proofs.Held.{held_both}
use Rattle.cells.proofs.Cells.meet.Goals as goal

pub returns : goal.returns
returns c = λ b x. held_both b x c.common.ensures
