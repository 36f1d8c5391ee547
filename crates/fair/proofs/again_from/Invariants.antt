-- None of the moves passed has the branch.
use Rattle.std.proofs.Common.{◌-◌}
use Rattle.rules.specs.Words.{any, same}
use Rattle.fair.specs.Twice.{branch_in}
use Rattle.fair.proofs.Branches.{Asking}
use Rattle.fair.proofs.again_from.Given as goal

abbrev pub invariant-loop-j : goal.invariant-loop-j
invariant-loop-j l = Asking (any (same (branch_in l.table l.i))) l.table l.initial.j l.j l.end

abbrev pub decreases-loop-j : goal.decreases-loop-j
decreases-loop-j l = l.end - l.j
