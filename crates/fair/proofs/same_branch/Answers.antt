-- As many rows, and the same ones.
use Rattle.std.proofs.Common.{arith, ◌∙◌}
use borrow.Author.Tests.{ne_eqb}
use Rattle.fair.proofs.Rows.{other_long}
use Rattle.fair.proofs.same_branch.Goals as goal

pub returns-else-end_at-j : goal.returns-else-end_at-j
returns-else-end_at-j c =
    ne_eqb _ _ c.if-end_at-j.false
    ∙ other_long c.args.table.now c.args.i c.args.j _ _ (λ e. c.if-end_at-j.false (omega (arith, c.end_at.ensures, c.end_at-2.ensures, e)))
