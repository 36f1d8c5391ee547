-- `cells::Cells::joins` meets its contract: a chain joins exactly where what the first side grows to has a cell of the last side.
use Rattle.cells.proofs.Reached.{reached_joined}
use Rattle.cells.proofs.Cells.joins.Goals as goal

pub returns : goal.returns
returns c =
    let g = c.args.grid in
    let s = c.sides_of.ensures in
    reached_joined g.board c.args.player g.fits c.clipped-cells.ensures s.first s.last c.common.ensures c.closure-all.ensures c.common-2.ensures c.lowest.result
    c.lowest.ensures
