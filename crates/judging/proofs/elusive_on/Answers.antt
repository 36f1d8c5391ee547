-- `elusive_on` meets its contract: 11, or how many moves aren't live.
use Rattle.std.proofs.Common.{rules}
use Rattle.judging.proofs.Fairness.{elusive_told}
use Rattle.judging.proofs.elusive_on.Goals as goal

pub returns : goal.returns
returns c = λ s h. elusive_told s c.not_elusive.result c.map_err.result _ (c.not_elusive.ensures s h.tree) h.set_up.first_is (λ f v k. search rules) c.map_err.ensures.cases
