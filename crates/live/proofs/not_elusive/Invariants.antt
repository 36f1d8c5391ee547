-- No node passed has a fault, and their moves that aren't live are added up.
use Rattle.std.proofs.Common.{ℕ, ◌<◌}
use Rattle.std.specs.Prelude as code
use Rattle.rules.specs.Fair.{not_elusive}
use Rattle.fair.specs.Faults.{at_waits, FaultAt}
use Rattle.fair.proofs.Adding.{Adding}
use Rattle.live.proofs.Idle.{idle_sum}
use Rattle.live.proofs.not_elusive.Given as goal

abbrev pub invariant-loop-i : goal.invariant-loop-i
invariant-loop-i l = ((j : ℕ) → j < l.i → FaultAt (at_waits not_elusive) l.grid.board l.t j code.None) × Adding idle_sum l.grid.board l.t l.i l.end l.idle
