-- The measure is the number: its tenth part is less, from ten on.
use Rattle.report.proofs.+write_number.Given as goal

abbrev pub decreases-write_number : goal.decreases-write_number
decreases-write_number l = l.n
