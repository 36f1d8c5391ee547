-- The numbers that each function tells, and what it promises with them.
use Rattle.std.specs.Prelude.{◌≡◌, ℕ, List, [], ◌∷◌, length}
use Rattle.rules.specs.Words.{one_if}
use Rattle.rules.specs.Text.{Bytes}
use Rattle.rules.specs.Verdict.{told}
use Rattle.rules.specs.Entries.{judge, PlayReply, play, OutcomeReply, outcome, workspace_after, room_after}
use Rattle.rules.specs.declared.Told.{Told}
use Rattle.rules.specs.declared.Verdict.{Verdict}
use Rattle.report.specs.All.{all_numbers}

-- verdict, line, cell, index, and three more
abbrev pub seven : Told → (x y z : ℕ) → List ℕ
seven t x y z = t.number ∷ t.line ∷ t.cell ∷ t.index ∷ x ∷ y ∷ z ∷ []

-- judge: moves, waits, outcomes
unfoldable pub judge_details : Verdict → List ℕ
judge_details v = seven (told v) (told v).counts.moves (told v).counts.waits (told v).counts.outcomes

-- counts: all counts
unfoldable pub counts_details : Verdict → List ℕ
counts_details v = all_numbers (told v)

-- play: the place of the refused move, the number of answers, and 1 where play is over
unfoldable pub play_details : PlayReply → List ℕ
play_details r = seven (told r.verdict) r.place (length r.answers) (one_if r.over)

-- outcome: the number of cells
unfoldable pub outcome_details : OutcomeReply → List ℕ
outcome_details r = seven (told r.verdict) (length r.cells) 0 0

-- What each function promises, for every input: its full reply, and the later contents of all memory lent to it
pub record JudgeTold (details-of : Verdict → List ℕ) (workspace : List ℕ) (t : Bytes) (workspace_later details : List ℕ) : Type 0 where
  pub reply : details ≡ details-of (judge (length workspace) t)
  pub memory : workspace_later ≡ workspace_after workspace

pub record PlayTold (workspace : List ℕ) (t : Bytes) (moves room : List ℕ) (workspace_later room-later details : List ℕ) : Type 0 where
  pub reply : details ≡ play_details (play (length workspace) t moves (length room))
  pub memory : workspace_later ≡ workspace_after workspace
  pub answers : room-later ≡ room_after (play (length workspace) t moves (length room)).answers room

pub record OutcomeTold (workspace : List ℕ) (t : Bytes) (number : ℕ) (room : List ℕ) (workspace_later room-later details : List ℕ) : Type 0 where
  pub reply : details ≡ outcome_details (outcome (length workspace) t number (length room))
  pub memory : workspace_later ≡ workspace_after workspace
  pub cells : room-later ≡ room_after (outcome (length workspace) t number (length room)).cells room
