-- None of the moves passed has its branch again.
use Rattle.std.proofs.Common.{◌+◌, ◌-◌}
use Rattle.rules.specs.Words.{twice}
use Rattle.fair.proofs.Branches.{Asking}
use Rattle.fair.proofs.twice_at.Given as goal

abbrev pub invariant-loop-j : goal.invariant-loop-j
invariant-loop-j l = Asking twice l.table (l.i + 1) l.j l.end

abbrev pub decreases-loop-j : goal.decreases-loop-j
decreases-loop-j l = l.end - l.j
