-- `cells::sides_of` meets its contract: each side is one row or one column of the board.
use Rattle.cells.proofs.OnSides.{first_down, first_across, last_down, last_across}
use Rattle.cells.proofs.sides_of.Goals as goal

pub returns-in-D : goal.returns-in-D
returns-in-D c =
    let g = c.args.grid in
    record {
      first = first_down g.board g.fits c.block.result.rows c.args.player c.in-D.is c.block.ensures;
      last = last_down g.board g.fits c.block-in-D.result.rows c.args.player c.in-D.is c.block-in-D.ensures;
    }

pub returns-in-A : goal.returns-in-A
returns-in-A c =
    let g = c.args.grid in
    record {
      first = first_across g.board g.fits c.block-in-A.result.rows c.args.player c.in-A.is c.block-in-A.ensures;
      last = last_across g.board g.fits c.block-in-A-2.result.rows c.args.player c.in-A.is c.block-in-A-2.ensures;
    }
