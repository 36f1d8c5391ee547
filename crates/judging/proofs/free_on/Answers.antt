-- `free_on` meets its contract: 20, or passed.
use Rattle.rules.specs.declared.Verdict.TheVariants.{OnSetUp}
use Rattle.judging.proofs.Fairness.{found_told, no_fault, all_stones, none_told}
use Rattle.judging.proofs.free_on.Goals as goal

pub returns-then-no_stone : goal.returns-then-no_stone
returns-then-no_stone c = λ s h. none_told h.tree _ h.set_up.first_is c.if-no_stone.true

pub line_of-requires : goal.line_of-requires
line_of-requires c =
    let pre = c.requires in
    ((c.in-Some.ensures pre.sheet pre.whole.tree (all_stones pre.whole.set_up _ (c.union.ensures _))).low, pre.whole.set_up.low)

pub returns-in-None : goal.returns-in-None
returns-in-None c = λ s h. no_fault OnSetUp (c.in-None.ensures s h.tree (all_stones h.set_up _ (c.union.ensures _)))

pub returns-in-Some : goal.returns-in-Some
returns-in-Some c = λ s h. found_told OnSetUp _ (c.in-Some.ensures s h.tree (all_stones h.set_up _ (c.union.ensures _))) h.set_up.first_is c.line_of.ensures
