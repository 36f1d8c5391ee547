-- `apart_on` meets its contract: 10, or passed.
use Rattle.rules.specs.declared.Verdict.TheVariants.{NotApart}
use Rattle.judging.proofs.Fairness.{found_told, no_fault}
use Rattle.judging.proofs.apart_on.Goals as goal

pub returns-in-None : goal.returns-in-None
returns-in-None c = λ s h. no_fault NotApart (c.in-None.ensures s h.tree)

pub returns-in-Some : goal.returns-in-Some
returns-in-Some c = λ s h. found_told NotApart _ (c.in-Some.ensures s h.tree) h.set_up.first_is c.line_of.ensures
