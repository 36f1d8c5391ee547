-- `cells::block` meets its contract: its rows have the word of its columns, and the others nothing.
use Rattle.std.proofs.Common.{rules, ◌≡◌, ◌+◌, ◌-◌, arith, replicate}
use Rattle.cells.proofs.Blocks.{banded, block_filled}
use Rattle.cells.proofs.block.Goals as goal

pub returns : goal.returns
returns c =
    let a = c.args in
    let filled : c.fill.new.self ≡ replicate (a.bottom + 1 - a.top) c.word_of.result = search rules in
    block_filled a.left a.right a.top a.bottom _ (rw (filled, c.empty-out.ensures.0, c.word_of.ensures) (banded a.top a.bottom _ (omega arith) (omega arith)))
