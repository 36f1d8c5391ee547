-- The same reply with any workspace that suffices.
use Rattle.std.proofs.Common.{rules}
use Rattle.sheet.proofs.Playing.{play_ran}
use Rattle.sheet.proofs.play.Goals as goal

pub returns : goal.returns
returns c =
    rw (c.shown_played.ensures, c.unwrap_or-answer.ensures, c.from.ensures)
    (play_ran _ _ _ _ _ _ _ _ _ _ c.on_table.ensures (λ e. search rules) (λ table later r k. search rules))
