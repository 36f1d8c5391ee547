-- One reply of each function: what two calls with the same input leave in the lent memory is equal, the numbers told among it.
use mathlib.Core.Path.{◌≡◌, sym, ◌∙◌}
use Prim.Native.Nat.{ℕ}
use mathlib.Core.List.{List}
use Rattle.rules.specs.Text.{Bytes}
use Rattle.rules.specs.declared.Verdict.{Verdict}
use Rattle.sorbitanque.specs.Details.{JudgeTold, PlayTold, OutcomeTold}

module _ (workspace : List ℕ) (t : Bytes) where
  pub one_judge_told : (details-of : Verdict → List ℕ) {after after' details details' : List ℕ} → JudgeTold details-of workspace t after details
      → JudgeTold details-of workspace t after' details' → (after ≡ after') × (details ≡ details')
  one_judge_told details-of a b = (a.memory ∙ sym b.memory, a.reply ∙ sym b.reply)

  pub one_play_told : (moves room : List ℕ) {after after' later later' details details' : List ℕ} → PlayTold workspace t moves room after later details
      → PlayTold workspace t moves room after' later' details' → (after ≡ after') × (later ≡ later') × (details ≡ details')
  one_play_told moves room a b = (a.memory ∙ sym b.memory, a.answers ∙ sym b.answers, a.reply ∙ sym b.reply)

  pub one_outcome_told : (number : ℕ) (room : List ℕ) {after after' later later' details details' : List ℕ} → OutcomeTold workspace t number room after later details
      → OutcomeTold workspace t number room after' later' details' → (after ≡ after') × (later ≡ later') × (details ≡ details')
  one_outcome_told number room a b = (a.memory ∙ sym b.memory, a.cells ∙ sym b.cells, a.reply ∙ sym b.reply)
