-- One reply: two replies that keep an entry's promise for one input are equal, with all that they leave in the lent memory.
use mathlib.Core.Path.{◌≡◌, sym, ◌∙◌}
use Prim.Native.Nat.{ℕ}
use mathlib.Core.List.{List}
use Rattle.rules.specs.Text.{Bytes}
use Rattle.rules.specs.Entries.{JudgeKept, PlayKept, OutcomeKept}
use Rattle.rules.specs.declared.Verdict.{Verdict}
use Rattle.rules.specs.declared.Played.{Played}
use Rattle.rules.specs.declared.Named.{Named}

pub one_judge : (workspace : List ℕ) (t : Bytes) (v v' : Verdict) (after after' : List ℕ)
    → JudgeKept workspace t v after → JudgeKept workspace t v' after' → (v ≡ v') × (after ≡ after')
one_judge workspace t v v' after after' a b = (a.reply ∙ sym b.reply, a.memory ∙ sym b.memory)

pub one_play : (workspace : List ℕ) (t : Bytes) (moves room : List ℕ) (r r' : Played) (after after' later later' : List ℕ)
    → PlayKept workspace t moves room r after later → PlayKept workspace t moves room r' after' later'
    → (r ≡ r') × (after ≡ after') × (later ≡ later')
one_play workspace t moves room r r' after after' later later' a b =
    (a.reply ∙ sym b.reply, a.memory ∙ sym b.memory, a.answers ∙ sym b.answers)

pub one_outcome : (workspace : List ℕ) (t : Bytes) (number : ℕ) (room : List ℕ) (r r' : Named) (after after' later later' : List ℕ)
    → OutcomeKept workspace t number room r after later → OutcomeKept workspace t number room r' after' later'
    → (r ≡ r') × (after ≡ after') × (later ≡ later')
one_outcome workspace t number room r r' after after' later later' a b =
    (a.reply ∙ sym b.reply, a.memory ∙ sym b.memory, a.cells ∙ sym b.cells)
