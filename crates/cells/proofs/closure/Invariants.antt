-- `cells::closure`: the rows above the one that is looked at take nothing in; where it takes cells in, what the rows lack of 2 ^ 32 falls.
use Rattle.std.proofs.Common.{◌+◌, ◌-◌, ◌*◌, ◌≤◌}
use Rattle.cells.proofs.Growing.{Settled}
use Rattle.cells.proofs.Room.{room}
use Rattle.cells.proofs.closure.Given as goal

abbrev pub invariant-loop-row : goal.invariant-loop-row
invariant-loop-row l = (1 ≤ l.row) × (l.row ≤ l.rows + 1) × Settled l.cells.rows l.fn.a.rows l.row l.words

abbrev pub decreases-loop-row : goal.decreases-loop-row
decreases-loop-row l = 2 * room l.words + (l.rows + 1 - l.row)
