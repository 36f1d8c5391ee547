-- The range is searched for the first node whose count is 1.
use Rattle.std.proofs.Common.{◌≡◌, rules, tests}
use Rattle.std.specs.Prelude.{◌≢◌}
use Rattle.std.proofs.lemmas.Iterator.{first_from_Range}
use Rattle.nodes.specs.Table.{count_in}
use Rattle.answering.proofs.first_open.Goals as goal

pub returns : goal.returns
returns c =
    rw c.end_at.ensures at
    (first_from_Range _ _ _ _ (λ i. count_in c.args.t.now i ≡ 1) (λ i. count_in c.args.t.now i ≢ 1) c.find.ensures.ran
    (λ x q k. search (rules, tests))
    (λ x q k. search (rules, tests)))
