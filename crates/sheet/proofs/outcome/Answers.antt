-- The same reply with any workspace that suffices.
use Rattle.std.proofs.Common.{rules}
use Rattle.sheet.proofs.Naming.{outcome_ran}
use Rattle.sheet.proofs.outcome.Goals as goal

pub returns : goal.returns
returns c =
    rw (c.shown_named.ensures, c.unwrap_or-answer.ensures)
    (outcome_ran _ _ _ _ _ _ _ _ _ _ c.on_table.ensures (λ e. search rules) (λ table later v k. search rules))
