-- The first 8,192 numbers and the others are looked at apart.
use Rattle.std.proofs.Common.{arith}
use Rattle.rules.proofs.Lists.{part_from}
use Rattle.replies.proofs.lent.workspace_right.Goals as goal

pub returns-then-all_are : goal.returns-then-all_are
returns-then-all_are c =
    let others = rw (part_from c.args.workspace.now 8192) at c.all_are-then-all_are.ensures in (
      λ e. record { unchanged = λ h. absurd (omega arith); cleared = λ _. c.all_are-2.ensures.0 c.if-all_are.true; others = λ _. others.0 e },
      λ w. others.1 (w.others c.if-workspace-lt8192.false),
    )
