-- A move has none; a wait is looked through.
use Rattle.std.proofs.Common.{not, ap, sym, ◌∙◌}
use Rattle.fair.proofs.WhichKind.{some_fork, twice_move, twice_wait}
use Rattle.fair.proofs.has_twice.Goals as goal

pub twice_at-requires : goal.twice_at-requires
twice_at-requires c = some_fork (sym c.is_move.ensures ∙ c.if-not-is_move.true) c.requires.1

pub returns-then-not-is_move : goal.returns-then-not-is_move
returns-then-not-is_move c = λ b. twice_wait (sym c.is_move.ensures ∙ c.if-not-is_move.true) c.twice_at.ensures

pub returns-else-not-is_move : goal.returns-else-not-is_move
returns-else-not-is_move c = λ b n a. ap not c.if-not-is_move.false ∙ twice_move (sym c.is_move.ensures ∙ c.if-not-is_move.false) n a
