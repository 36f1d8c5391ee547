-- No open wait before node `from` holds the cell; the measure is how many nodes are left.
use Rattle.std.proofs.Common.{◌-◌}
use Rattle.nodes.specs.Table.{end_in}
use Rattle.answering.proofs.Searching.{Looking}
use Rattle.answering.proofs.touched.Given as goal

abbrev pub invariant-loop-wait : goal.invariant-loop-wait
invariant-loop-wait l = Looking l.t l.cell l.from

abbrev pub decreases-loop-wait : goal.decreases-loop-wait
decreases-loop-wait l = end_in l.t 0 - l.from
