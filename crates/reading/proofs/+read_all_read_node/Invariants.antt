-- The measure is twice the levels left, and one more for all nodes of a kind.
use Rattle.std.proofs.Common.{◌+◌, ◌-◌}
use Rattle.reading.specs.Spots.{spot_of}
use Rattle.reading.specs.Storing.{store_all, store_node}
use Rattle.reading.proofs.Storing.{Going}
use Rattle.reading.proofs.+read_all_read_node.Given as goal

abbrev pub decreases-read_all : goal.decreases-read_all
decreases-read_all l = l.levels + l.levels + 1

abbrev pub decreases-read_node : goal.decreases-read_node
decreases-read_node l = l.levels + l.levels

abbrev pub invariant-read_all-loop : goal.invariant-read_all-loop
invariant-read_all-loop l =
    Going l.grid.board l.kind l.levels (store_all l.many (store_node l.levels l.kind l.grid.board) (spot_of l.initial.here) l.initial.table) l.here (l.many - l.counter) l.table
