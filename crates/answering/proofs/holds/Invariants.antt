-- No node from i up to the one at the loop's head has the cell.
use Rattle.answering.proofs.Holding.{Holding}
use Rattle.answering.proofs.holds.Given as goal

abbrev pub invariant-loop-node : goal.invariant-loop-node
invariant-loop-node l = Holding l.t l.i l.cell l.end l.node
