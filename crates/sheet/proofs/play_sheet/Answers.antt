-- 14, or what `play_table` does.
use Rattle.rules.specs.Sizes.{least_workspace}
use Rattle.sheet.proofs.Playing.{played_refused, played_as, play_no_room, play_rounds, playable}
use Rattle.sheet.proofs.play_sheet.Goals as goal

pub returns-then-room-moves : goal.returns-then-room-moves
returns-then-room-moves c = λ text h.
    rw c.from.ensures (played_refused _ _ _ (play_no_room text _ _ least_workspace h.held.sheet h.is_accepted c.if-room-moves.true))

pub play_table-requires-clause-holds : goal.play_table-requires-clause-holds
play_table-requires-clause-holds c =
    let h = c.requires.ready in
    record { sheet = h.held.sheet; playable = playable _ h; stones = h.held.whole.set_up.stones }

pub returns : goal.returns
returns c = λ text h.
    played_as (play_rounds text _ _ least_workspace h.held.sheet h.is_accepted c.if-room-moves.false)
    (c.play_table.ensures h.held.sheet (playable text h) h.held.whole.set_up.stones)
