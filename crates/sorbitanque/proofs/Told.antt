-- From what the entries promise to the numbers that are told.
use mathlib.Core.Path.{◌≡◌}
use Prim.Native.Nat.{ℕ}
use mathlib.Core.List.{List}
use Rattle.rules.specs.Words.{one_if}
use Rattle.rules.specs.Text.{Bytes}
use Rattle.rules.specs.Verdict.{told}
use Rattle.rules.specs.Entries.{JudgeKept, PlayKept, play_shown, OutcomeKept, outcome_shown}
use Rattle.rules.specs.declared.Told.{Told}
use Rattle.rules.specs.declared.Verdict.{Verdict}
use Rattle.rules.specs.declared.Played.{Played}
use Rattle.rules.specs.declared.Named.{Named}
use Rattle.report.specs.All.{all_numbers}
use Rattle.sorbitanque.specs.Details.{seven, judge_details, counts_details, JudgeTold, play_details, PlayTold, outcome_details, OutcomeTold}

module _ {workspace workspace' : List ℕ} {t : Bytes} where
  pub judge_told : {v : Verdict} {r : Told} → JudgeKept workspace t v workspace' → r ≡ told v
      → JudgeTold judge_details workspace t workspace' (seven r r.counts.moves r.counts.waits r.counts.outcomes)
  unfolding judge_details
  judge_told k e = record { reply = rw (e, k.reply); memory = k.memory }

  pub counts_told : {v : Verdict} {numbers : List ℕ} → JudgeKept workspace t v workspace' → numbers ≡ all_numbers (told v)
      → JudgeTold counts_details workspace t workspace' numbers
  unfolding counts_details
  counts_told k e = record { reply = rw (e, k.reply); memory = k.memory }

  module _ {room room' : List ℕ} where
    pub outcome_told : {number : ℕ} {n : Named} {r : Told} → OutcomeKept workspace t number room n workspace' room' → r ≡ told n.verdict
        → OutcomeTold workspace t number room workspace' room' (seven r n.cells 0 0)
    unfolding outcome_details outcome_shown
    outcome_told k e = record { reply = rw (e, k.reply); memory = k.memory; cells = k.cells }

    pub play_told : {moves : List ℕ} {p : Played} {r : Told} {over : ℕ} → PlayKept workspace t moves room p workspace' room' → r ≡ told p.verdict → over ≡ one_if p.over
        → PlayTold workspace t moves room workspace' room' (seven r p.place p.answers over)
    unfolding play_details play_shown
    play_told k e f = record { reply = rw (e, f, k.reply); memory = k.memory; answers = k.answers }
