-- What was taken are requests, what was said are their replies, and each request takes a byte at least.
use Rattle.std.proofs.Common.{refl}
use Rattle.rules.proofs.Lists.{part_from}
use Rattle.replies.proofs.Gathering.{gathered_none, gathered_more}
use Rattle.replies.proofs.answers.gather.Goals as goal

pub loop-said-init : goal.loop-said-init
loop-said-init c = gathered_none _ refl

pub loop-said-preserved : goal.loop-said-preserved
loop-said-preserved c =
    let h = rw (part_from c.args.bytes.now c.loop-said.taken) at c.in-Ok.ensures in
    gathered_more c.loop-said.invariant h
