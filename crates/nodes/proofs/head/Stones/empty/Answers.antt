-- The empty set has no stones.
use Rattle.rules.specs.Words.{among}
use Rattle.rules.specs.Tree.{cells_of}
use Rattle.nodes.proofs.head.Stones.empty.Goals as goal

pub returns : goal.returns
unfolding among cells_of
returns c = λ b. record { own_held = record { same = λ x. c.empty.ensures.1 b x }; opp_held = record { same = λ x. c.empty-2.ensures.1 b x } }
