-- 14, or the outcome's cells.
use Rattle.std.proofs.Common.{arith}
use Rattle.sheet.proofs.Naming.{picked_cells, some_pick, listed_short, listed_done}
use Rattle.sheet.proofs.list_outcome.Goals as goal

pub pick_move-cells-requires : goal.pick_move-cells-requires
pick_move-cells-requires c = record { stands = some_pick c.requires }

pub returns-then-room-count : goal.returns-then-room-count
returns-then-room-count c = λ s h.
    listed_short h _ _ (picked_cells h _ c.pick_move-cells.ensures) (omega (arith, c.if-room-count.true, c.count.ensures))

pub returns : goal.returns
returns c = λ s h.
    listed_done h _ _ (picked_cells h _ c.pick_move-cells.ensures) _ _ (omega (arith, c.if-room-count.false, c.count.ensures)) c.list.ensures
