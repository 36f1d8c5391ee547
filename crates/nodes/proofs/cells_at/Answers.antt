-- The node's rows have its cells.
use Rattle.nodes.proofs.RowCells.{node_rows, node_cells}
use Rattle.nodes.proofs.cells_at.Goals as goal

pub of_rows-requires-clause-rows : goal.of_rows-requires-clause-rows
of_rows-requires-clause-rows c = node_rows c.requires.stands.1 c.end_at-end.ensures

pub returns : goal.returns
returns c = node_cells c.end_at-end.ensures c.of_rows.ensures
