-- `cells::clipped` meets its contract: the block that it keeps is the board.
use Rattle.cells.proofs.Blocks.{clipped_block}
use Rattle.cells.proofs.clipped.Goals as goal

pub returns : goal.returns
returns c = clipped_block c.args.grid.board c.common.ensures c.block.ensures
