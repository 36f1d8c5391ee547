-- The three refusals in their order, each by its test.
use Rattle.std.proofs.Common.{sym, ◌∙◌}
use Rattle.answering.proofs.Checking.{after_over, no_such_cell, cell_taken, not_refused}
use Rattle.answering.proofs.checked_move.Goals as goal

pub returns-then-joins : goal.returns-then-joins
returns-then-joins c = sym (after_over _ _ _ _ _ (sym c.joins.ensures ∙ c.if-joins.true))

pub returns-then-not-is_cell : goal.returns-then-not-is_cell
returns-then-not-is_cell c = sym (no_such_cell _ _ _ _ _ (sym c.joins.ensures ∙ c.if-joins.false) (sym c.is_cell.ensures ∙ c.if-not-is_cell.true))

pub returns-then-has : goal.returns-then-has
returns-then-has c =
    sym
    (cell_taken _ _ _ _ _ (sym c.joins.ensures ∙ c.if-joins.false) (sym c.is_cell.ensures ∙ c.if-not-is_cell.false) (sym c.has.ensures ∙ c.if-has.true))

pub returns : goal.returns
returns c =
    sym
    (not_refused _ _ _ _ _ (sym c.joins.ensures ∙ c.if-joins.false) (sym c.is_cell.ensures ∙ c.if-not-is_cell.false) (sym c.has.ensures ∙ c.if-has.false))
