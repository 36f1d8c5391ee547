-- What the checks of a sheet tell.
use Rattle.std.specs.Prelude.{◌≡◌, ℕ, ◌≤◌, List, ltb}
use Rattle.std.specs.Prelude as code
use Rattle.rules.specs.Sizes.{most_outcomes}
use Rattle.rules.specs.Tree.{Sheet}
use Rattle.rules.specs.Reading.{Result, refused, got}
use Rattle.rules.specs.Outcomes.{outcome_count}
use Rattle.rules.specs.Passing.{passed_over}
use Rattle.rules.specs.Answer.{as_result}
use Rattle.rules.specs.Entries.{◌>>=◌, refuse_if, fair, satisfying}
use Rattle.rules.specs.declared.Board.{Board}
use Rattle.rules.specs.declared.Verdict.{Verdict}
use Rattle.rules.specs.declared.Verdict.TheVariants.{TooManyOutcomes}
use Rattle.live.specs.Thinning.{KeepsLive}
use Rattle.judging.specs.declared.Accepted.{Accepted}
use Rattle.judging.specs.declared.Fair.{Fair}

-- what a check answers, but for what it tells of a sheet that passes
abbrev pub checked : {X : Type 0} → code.Result X Verdict → Result (Unit {0})
checked = as_result (λ x. tt)

-- 12
unfoldable pub from_count : Sheet → Result Sheet
from_count s = do
  _ ← refuse_if (ltb most_outcomes (outcome_count s)) TooManyOutcomes
  got s

-- 20, 10, 24, 11, 12, 13
abbrev pub passing : Sheet → Result Sheet
passing s = fair s >>= satisfying

-- some sheet is held without its moves that aren't live, which are so many
pub record SomeLiving (t : List ℕ) (b : Board) (idle : ℕ) : Type 0 where
  pub sheet : Sheet
  pub keeps : KeepsLive t b sheet idle

-- the sheet passes a check, and has so many outcomes; it is held without its moves that aren't live, which are so many
pub record Passed (t : List ℕ) (b : Board) (s : Sheet) (check : Result Sheet) (count idle : ℕ) : Type 0 where
  pub passes : check ≡ got s
  pub counted : count ≡ outcome_count s
  pub few : count ≤ most_outcomes
  pub keeps : KeepsLive t b s idle

-- what a check tells of a sheet, and leaves in the table: that, or the refusal
abbrev pub Tells : List ℕ → Board → Sheet → Result Sheet → code.Result Fair Verdict → Type 0
Tells t b s check (code.Ok f) = Passed t b s check f.outcomes f.idle
Tells t b s check (code.Err v) = check ≡ refused v

-- what all checks tell of a sheet, and leave in the table: the same, and how many outcomes were passed over
abbrev pub TellsAll : List ℕ → Board → Sheet → code.Result Accepted Verdict → Type 0
TellsAll t b s (code.Ok a) = Passed t b s (passing s) a.outcomes a.idle × (a.passed ≡ passed_over s)
TellsAll t b s (code.Err v) = passing s ≡ refused v
