-- What was taken are whole requests, and what was said are their replies.
use Rattle.std.proofs.Common.{◌-◌, length}
use Rattle.replies.proofs.Gathering.{GatheredSoFar}
use Rattle.replies.proofs.answers.gather.Given as goal

abbrev pub invariant-loop-said : goal.invariant-loop-said
invariant-loop-said l = GatheredSoFar l.bytes l.said l.taken

abbrev pub decreases-loop-said : goal.decreases-loop-said
decreases-loop-said l = length l.bytes - l.taken
