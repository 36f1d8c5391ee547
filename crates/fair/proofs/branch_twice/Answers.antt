-- The first node that has a branch twice is found.
use Rattle.std.proofs.Common.{rules, true, false}
use Rattle.std.proofs.lemmas.Iterator.{serves_from_Range, first_from_Range}
use Rattle.fair.proofs.Search.{sheet_node, TwiceAt, twice_first}
use Rattle.fair.proofs.branch_twice.Goals as goal

pub find-requires-clause-callable : goal.find-requires-clause-callable
find-requires-clause-callable c = serves_from_Range (λ x q k. search rules) (λ x a b. search (rules, sheet_node))

pub returns : goal.returns
returns c = λ b s h. twice_first c.end_at.ensures _ (first_from_Range _ _ _ _ (λ i. TwiceAt b c.args.table.now i true) (λ i. TwiceAt b c.args.table.now i false) c.find.ensures.ran (λ x q k. search rules) (λ x q k. search rules)) s h
