-- Document 02, C-16: what is to be shown of moves that aren't live, and what judge accepted while outcomes ran over every move.
use Rattle.std.specs.Prelude.{◌≡◌, ◌≢◌, ◌⊎◌, ℕ, ◌≤◌, not, cond, List, [], ◌∷◌, T}
use Rattle.std.proofs.Math.Option.{none, some}
use Rattle.rules.specs.Words.{◌∈◌}
use Rattle.rules.specs.Text.{Bytes}
use Rattle.rules.specs.Tree.{Moves, no_moves, move, Wait, Sheet}
use Rattle.rules.specs.Reading.{Result, refused, got}
use Rattle.rules.specs.Fair.{in_move, in_every, not_elusive, first_on_set_up, first_twice}
use Rattle.rules.specs.Live.{Shared, and_this, is_live, idle_count}
use Rattle.rules.specs.Outcomes.{outcomes_from, count_of_waits, outcomes, outcome_count}
use Rattle.rules.specs.Choice.{the_first, one_later, PlaceIn, cell_there, waits_there, Choice}
use Rattle.rules.specs.Answering.{Game, answer, start, answered}
use Rattle.rules.specs.Holder.{live_there, live_choice}
use Rattle.rules.specs.Verdict.{told}
use Rattle.rules.specs.Entries.{◌>>=◌, read, fair_by, satisfying_by, accepted}
use Rattle.rules.specs.Plain.{WellRead, AllApart, AllElusive}
use Rattle.rules.specs.declared.Verdict.{Verdict}

-- "Live" in plain words: the move at the place is the first under its wait, or some cell common to all moves before it isn't in it
abbrev pub earlier : (ms : Moves) → PlaceIn ms → Moves
earlier no_moves p = absurd p
earlier (move line c ws ms) (the_first u) = no_moves
earlier (move line c ws ms) (one_later p) = move line c ws (earlier ms p)

abbrev pub IsLive : (ms : Moves) → PlaceIn ms → Type 0
IsLive ms p =
    (earlier ms p ≡ no_moves) ⊎ ((x : ℕ) × T (in_every (earlier ms p) x) × T (not (in_move (cell_there ms p) (waits_there ms p) x)))

abbrev pub LiveExactly : Type 0
LiveExactly = (ms : Moves) (p : PlaceIn ms) → (T (live_there none ms p) → IsLive ms p) × (IsLive ms p → T (live_there none ms p))

-- "11 at a wait would be the same without its moves that aren't live": each move left has all that was under it
unfoldable pub live_ones : Shared → Moves → Moves
live_ones before no_moves = no_moves
live_ones before (move line c ws ms) =
    cond (is_live before c ws) (move line c ws (live_ones (and_this before c ws) ms)) (live_ones (and_this before c ws) ms)

abbrev pub SameElusive : Type 0
SameElusive = (w : Wait) (x : ℕ) → not_elusive (record { line = w.line; moves = live_ones none w.moves }) x ≡ not_elusive w x

-- "on a sheet free of 10 and 11 the answering rule never gives it", whatever the opponent's moves were
unfoldable pub game_after : Game → List ℕ → Game
game_after g [] = g
game_after g (x ∷ xs) = game_after (answered g x) xs

abbrev pub LiveAnswers : Type 0
LiveAnswers = (s : Sheet) → WellRead s → AllApart s → AllElusive s → (xs : List ℕ) (x : ℕ)
    → (k : Choice (game_after (start s) xs).open_waits) → answer x (game_after (start s) xs).open_waits ≡ some k
    → T (live_choice (game_after (start s) xs).open_waits k)

-- Outcomes ran over every move: 12 and 13 went by these
abbrev pub outcomes_over_all : Sheet → List (List ℕ)
outcomes_over_all s = outcomes_from s s.root.waits

abbrev pub count_over_all : Sheet → ℕ
count_over_all s = count_of_waits s.root.waits

unfoldable pub accepted_over_all : (workspace : ℕ) → Bytes → Result Sheet
accepted_over_all w t = do
  s ← read w t
  s ← fair_by (first_on_set_up s) (first_twice s) (count_over_all s) s
  satisfying_by (outcomes_over_all s) s

-- what judge accepted it accepts now, with no more outcomes, and each of them was one
pub record StillAccepted (workspace : ℕ) (t : Bytes) (s : Sheet) : Type 0 where
  pub still : accepted workspace t ≡ got s
  pub no_more : outcome_count s ≤ count_over_all s
  pub were_there : (o : List ℕ) → o ∈ outcomes s → o ∈ outcomes_over_all s

-- every refusal but 12 and 13 was given where it is given now
pub record SameRefusal (workspace : ℕ) (t : Bytes) (v : Verdict) : Type 0 where
  pub was : accepted workspace t ≡ refused v → accepted_over_all workspace t ≡ refused v
  pub is : accepted_over_all workspace t ≡ refused v → accepted workspace t ≡ refused v

-- where every move is live the outcomes are what they were
abbrev pub SameWithoutSpare : Type 0
SameWithoutSpare = (s : Sheet) → idle_count s ≡ 0 → outcomes s ≡ outcomes_over_all s

pub record SparedAsBefore : Type 0 where
  pub accepts : (workspace : ℕ) (t : Bytes) (s : Sheet) → accepted_over_all workspace t ≡ got s → StillAccepted workspace t s
  pub refuses : (workspace : ℕ) (t : Bytes) (v : Verdict) → (told v).number ≢ 12 → (told v).number ≢ 13 → SameRefusal workspace t v
  pub alike : SameWithoutSpare
