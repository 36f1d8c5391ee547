-- A move has a stone on its own cell, or none; a wait has no cell.
use Rattle.std.proofs.Common.{sym, ◌∙◌}
use Rattle.fair.proofs.WhichKind.{stone_there, stone_gone}
use Rattle.fair.proofs.stone_at.Goals as goal

pub returns-then-not-has : goal.returns-then-not-has
returns-then-not-has c = stone_gone _ _ c.cell_at-cell.ensures (sym c.has.ensures ∙ c.if-not-has.true)

pub returns : goal.returns
returns c = stone_there _ _ c.cell_at-cell.ensures (sym c.has.ensures ∙ c.if-not-has.false) c.of.result c.of.ensures
