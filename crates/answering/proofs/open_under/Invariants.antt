-- At the loop's head the waits that are left are still to be marked.
use Rattle.answering.proofs.Marking.{Marking}
use Rattle.answering.proofs.open_under.Given as goal

abbrev pub invariant-loop : goal.invariant-loop
invariant-loop l = Marking l.initial.t l.t l.i l.under l.next l.counter
