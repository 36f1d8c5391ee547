-- The reply to a request: a line of numbers.
use Rattle.std.specs.Prelude.{ℕ, Bool, true, false, List, ◌∷◌, length, get_or, drop}
use Rattle.rules.specs.Words.{one_if}
use Rattle.rules.specs.Text.{Bytes}
use Rattle.rules.specs.Verdict.{told}
use Rattle.rules.specs.Entries.{judge, PlayReply, play, OutcomeReply, outcome}
use Rattle.rules.specs.declared.Told.{Told}
use Rattle.report.specs.All.{all_counts}
use Rattle.report.specs.Line.{line_of, judge_line}
use Rattle.requests.specs.declared.Ask.TheVariants as Ask
use Rattle.requests.specs.declared.Request.{Request}

-- verdict, line, cell, index, and further numbers
abbrev pub told_line : Told → List ℕ → Bytes
told_line t ns = line_of t.number (t.line ∷ t.cell ∷ t.index ∷ ns)

-- counts: verdict, line, cell, index, and all counts
abbrev counts_line : Told → Bytes
counts_line t = told_line t (all_counts t.counts)

-- judge: verdict, line, cell, index, moves, waits, outcomes; or all counts
unfoldable pub verdict_line : (all : Bool) → (workspace : ℕ) → Bytes → Bytes
verdict_line false w t = judge_line w t
verdict_line true w t = counts_line (told (judge w t))

-- play: verdict, line, cell, index, place, answers, over, and the answers
abbrev answers_line : PlayReply → Bytes
answers_line r = told_line (told r.verdict) (r.place ∷ length r.answers ∷ one_if r.over ∷ r.answers)

unfoldable pub play_line : (workspace : ℕ) → Bytes → (moves : List ℕ) → (room : ℕ) → Bytes
play_line w t xs room = answers_line (play w t xs room)

-- outcome: verdict, line, cell, index, count, and the cells
abbrev cells_line : OutcomeReply → Bytes
cells_line r = told_line (told r.verdict) (length r.cells ∷ r.cells)

unfoldable pub outcome_line : (workspace : ℕ) → Bytes → (number room : ℕ) → Bytes
outcome_line w t i room = cells_line (outcome w t i room)

-- the reply to a request with the numbers about the sheet's text
unfoldable pub reply_of : Request → List ℕ → Bytes → Bytes
reply_of r ns t =
    elim r.ask [
      | Ask.Judge all ↦ verdict_line all r.work t
      | Ask.Play ↦ play_line r.work t (drop 3 ns) r.room
      | Ask.Outcome ↦ outcome_line r.work t (get_or ns 3 0) r.room
    ]
