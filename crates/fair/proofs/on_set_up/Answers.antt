-- The first node with a stone on its cell is found, and the stones are the sheet's.
use Rattle.std.proofs.Common.{rules, refl}
use Rattle.std.proofs.lemmas.Iterator.{serves_from_Range}
use Rattle.cells.specs.Cells.{held}
use Rattle.fair.specs.Faults.{not_free, at_moves, FaultAt}
use Rattle.fair.proofs.FirstTold.{first_told}
use Rattle.fair.proofs.Search.{sheet_node, least_first, tree_free, set_up_found}
use Rattle.fair.proofs.on_set_up.Goals as goal

pub find_map-requires-clause-callable : goal.find_map-requires-clause-callable
find_map-requires-clause-callable c = serves_from_Range (λ x q k. search rules) (λ x a b. search (rules, sheet_node))

pub returns : goal.returns
returns c = λ s h e.
    let faulty = at_moves (not_free (held c.args.grid.board c.args.stones.rows)) in
    set_up_found _ e.same
    (least_first faulty (tree_free _) c.end_at.ensures (first_told (FaultAt faulty c.args.grid.board c.args.table.now) _ (λ i o q k. search rules) refl c.find_map.ensures.runs) s h)
