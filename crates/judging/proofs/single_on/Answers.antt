-- `single_on` meets its contract: 24, or passed.
use Rattle.rules.specs.declared.Verdict.TheVariants.{SameBranch}
use Rattle.judging.proofs.Fairness.{found_told, no_fault}
use Rattle.judging.proofs.single_on.Goals as goal

pub returns-in-None : goal.returns-in-None
returns-in-None c = λ s h. no_fault (λ line cell. SameBranch line) (c.in-None.ensures _ s h.tree)

pub returns-in-Some : goal.returns-in-Some
returns-in-Some c = λ s h. found_told (λ line cell. SameBranch line) _ (c.in-Some.ensures _ s h.tree) h.set_up.first_is c.line_of.ensures
