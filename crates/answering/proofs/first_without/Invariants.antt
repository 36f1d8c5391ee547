-- Every move before node next holds the cell; the measure is what is left of the table.
use Rattle.std.proofs.Common.{◌-◌, length}
use Rattle.answering.proofs.Searching.{Dodging}
use Rattle.answering.proofs.first_without.Given as goal

abbrev pub invariant-loop-next : goal.invariant-loop-next
invariant-loop-next l = Dodging l.t l.i l.cell l.next

abbrev pub decreases-loop-next : goal.decreases-loop-next
decreases-loop-next l = length l.t - l.next
