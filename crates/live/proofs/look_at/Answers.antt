-- A move tells nothing; a wait what its moves tell.
use Rattle.std.proofs.Common.{sym, ◌∙◌}
use Rattle.live.proofs.Idle.{move_told, wait_told}
use Rattle.live.proofs.look_at.Goals as goal

pub returns-then-is_move : goal.returns-then-is_move
returns-then-is_move c = move_told (sym c.is_move.ensures ∙ c.if-is_move.true)

pub returns : goal.returns
returns c = wait_told _ (sym c.is_move.ensures ∙ c.if-is_move.false) c.look.ensures
