-- The first two rows that differ decide.
use Rattle.std.proofs.Common.{sym, ◌∙◌}
use Rattle.fair.proofs.Rows.{comparing_starts, comparing_again, comparing_stops, comparing_ends}
use Rattle.fair.proofs.same_rows.Goals as goal

pub loop-k-init : goal.loop-k-init
loop-k-init c = comparing_starts _ _ _ _

pub returns-then-not-same_row : goal.returns-then-not-same_row
returns-then-not-same_row c = comparing_stops c.loop-k.invariant c.loop-k-test.true (sym c.same_row.ensures ∙ c.if-not-same_row.true)

pub loop-k-preserved : goal.loop-k-preserved
loop-k-preserved c = comparing_again c.loop-k.invariant c.loop-k-test.true (sym c.same_row.ensures ∙ c.if-not-same_row.false)

pub returns : goal.returns
returns c = comparing_ends c.loop-k.invariant c.loop-k-test.false
