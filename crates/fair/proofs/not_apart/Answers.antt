-- The first node that has a faulty cell is found.
use Rattle.std.proofs.Common.{rules, refl}
use Rattle.std.proofs.lemmas.Iterator.{serves_from_Range}
use Rattle.rules.specs.Fair.{not_apart}
use Rattle.fair.specs.Faults.{at_moves, FaultAt}
use Rattle.fair.proofs.FirstTold.{first_told}
use Rattle.fair.proofs.Search.{sheet_node, least_first, tree_apart}
use Rattle.fair.proofs.not_apart.Goals as goal

pub find_map-requires-clause-callable : goal.find_map-requires-clause-callable
find_map-requires-clause-callable c = serves_from_Range (λ x q k. search rules) (λ x a b. search (rules, sheet_node))

pub returns : goal.returns
returns c = λ s h. least_first (at_moves not_apart) tree_apart c.end_at.ensures (first_told (FaultAt (at_moves not_apart) c.args.grid.board c.args.table.now) _ (λ i o q k. search rules) refl c.find_map.ensures.runs) s h
