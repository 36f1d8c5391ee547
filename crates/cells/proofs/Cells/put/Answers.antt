-- `cells::Cells::put` meets its contract: it sets the bit of the cell's column in the word of its row.
use Rattle.std.proofs.Common.{rules, ◌≡◌, refl, length}
use Rattle.cells.proofs.Held.{held_with}
use Rattle.cells.proofs.Cells.put.Goals as goal

pub returns : goal.returns
returns c =
    let r = c.placed-at in
    let long : length c.args.self.now.rows ≡ 21 = search rules in
    held_with c.args.grid.board c.args.self.now.rows c.args.cell long c.args.grid.fits c.requires r.result.column r.result.row _ r.ensures refl
