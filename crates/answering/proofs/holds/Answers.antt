-- Each turn tests one more node.
use Rattle.std.proofs.Common.{sym, ◌∙◌, refl}
use Rattle.answering.proofs.Holding.{holding_starts, holding_found, holding_again, holding_done}
use Rattle.answering.proofs.holds.Goals as goal

pub loop-node-init : goal.loop-node-init
loop-node-init c = holding_starts c.end_at-end.ensures

pub returns-then-cell_at-cell : goal.returns-then-cell_at-cell
returns-then-cell_at-cell c = holding_found c.loop-node.invariant c.loop-node-test.true (sym c.cell_at.ensures ∙ c.if-cell_at-cell.true)

pub loop-node-preserved : goal.loop-node-preserved
loop-node-preserved c = holding_again c.loop-node.invariant _ c.loop-node-test.true (λ e. c.if-cell_at-cell.false (c.cell_at.ensures ∙ e)) refl

pub returns : goal.returns
returns c = holding_done c.loop-node.invariant c.loop-node-test.false
