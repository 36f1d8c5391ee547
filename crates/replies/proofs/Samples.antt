-- The definition of the reply to a request on samples, one of each kind, with no workspace. (In a sample `/` is a line feed, a blank a
-- tab.)
use mathlib.Core.Path.{◌≡◌, refl}
use Prim.Native.Nat.{ℕ}
use mathlib.Core.Bool.{true, false}
use mathlib.Core.List.{[], ◌∷◌}
use Rattle.rules.specs.Words.{one_if}
use Rattle.rules.specs.Entries.{◌>>=◌, refuse_if, read_text_up_to, read_up_to, accepted, judged, judge, refused_play, play_on, play, named, outcome}
use Rattle.rules.specs.Samples.{byte_of, sheet}
use Rattle.rules.specs.Decimal.{leading, decimal}
use Rattle.report.specs.Line.{fields, line_of, report_line, judge_line}
use Rattle.requests.specs.declared.Ask.{Ask}
use Rattle.requests.specs.declared.Request.{Request}
use Rattle.replies.specs.Reply.{verdict_line, play_line, outcome_line, reply_of}

-- a request without memory or text, by what it asks and its numbers
asking : Ask → (count room : ℕ) → Request
asking ask count room = record { ask = ask; work = 0; bytes = 0; room = room; count = count }

replies : (reply_of (asking (Ask.Judge false) 2 0) (0 ∷ 0 ∷ []) [] ≡ sheet "1 0 0 0 0 0 0/") × (reply_of (asking (Ask.Judge true) 2 0) (0 ∷ 0 ∷ []) [] ≡ sheet "1 0 0 0 0 0 0 0 0/") × (reply_of (asking Ask.Play 4 2) (0 ∷ 0 ∷ 2 ∷ 10 ∷ []) [] ≡ sheet "1 0 0 0 0 0 0/") × (reply_of (asking Ask.Outcome 4 0) (0 ∷ 0 ∷ 0 ∷ 7 ∷ []) [] ≡ sheet "1 0 0 0 0/")
unfolding one_if ◌>>=◌ refuse_if read_up_to read_text_up_to accepted judged judge refused_play play_on play named outcome byte_of sheet leading decimal fields line_of report_line judge_line verdict_line play_line outcome_line reply_of asking
replies = (refl, refl, refl, refl)
