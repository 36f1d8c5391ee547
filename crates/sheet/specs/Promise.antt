-- Demand 3, the cover's sentence, of what the entries judge and play return.
use Rattle.std.specs.Prelude.{◌≡◌, ℕ, ◌<◌, ◌≤◌, true, List, length, get_or}
use Rattle.rules.specs.Sizes.{least_workspace}
use Rattle.rules.specs.Text.{Bytes}
use Rattle.rules.specs.Tree.{Sheet, wait_count}
use Rattle.rules.specs.Answering.{Game, start, is_over}
use Rattle.rules.specs.Entries.{room_after, JudgeKept, PlayKept}
use Rattle.rules.specs.Plain.{IsSheet}
use Rattle.rules.specs.Promise.{Ruled, AnsweredAt, MovesToEmpty, JoinedAgainst, CoverSentence}
use Rattle.rules.specs.declared.Counts.{Counts}
use Rattle.rules.specs.declared.Played.{Played}
use Rattle.rules.specs.declared.Verdict.TheVariants.{Accepted, Done}

-- Play's return after these opponent moves, which lead to the game g: one answer a move, written to the first places of the room,
-- and move by move the answer written at its place was an empty cell; over as soon as the sides are joined
pub record Keeps (s : Sheet) (moves : List ℕ) (g : Game) (room : List ℕ) (r : Played) (room-later : List ℕ) : Type 0 where
  pub reply : r ≡ record { verdict = Done; place = 0; answers = length moves; over = is_over s g }
  pub one_each : length g.answers ≡ length moves
  pub written : room-later ≡ room_after g.answers room
  pub each : (place : ℕ) → place < length moves → AnsweredAt s moves place (get_or room-later place 0)

-- play is given these moves, with a workspace and a room that suffice
pub record Plays (t : Bytes) (moves room : List ℕ) (r : Played) (room-later : List ℕ) : Type 0 where
  pub workspace : List ℕ
  pub workspace_later : List ℕ
  pub kept : PlayKept workspace t moves room r workspace_later room-later
  pub enough : least_workspace ≤ length workspace
  pub room_enough : length moves ≤ length room

-- whatever moves are given to play, each on a cell empty at that moment
abbrev pub PlayKeeps : Bytes → Sheet → Type 0
PlayKeeps t s = (moves room : List ℕ) (r : Played) (room-later : List ℕ) → Plays t moves room r room-later
    → (g : Game) → Ruled s (start s) moves g → Keeps s moves g room r room-later

-- against any opponent who moves to an empty cell until the sides are joined, his game ends: given his moves, no more than the sheet
-- has waits, play keeps all that and returns that it is over
pub record EndsAgainst (t : Bytes) (s : Sheet) (opponent : Game → ℕ) : Type 0 where
  pub end : JoinedAgainst s opponent
  pub plays : (room : List ℕ) (r : Played) (room-later : List ℕ) → Plays t end.moves room r room-later
      → Keeps s end.moves end.game room r room-later × (r.over ≡ true)

abbrev pub PlayEnds : Bytes → Sheet → Type 0
PlayEnds t s = (opponent : Game → ℕ) → MovesToEmpty s opponent → EndsAgainst t s opponent

pub record Promised (t : Bytes) (waits : ℕ) : Type 0 where
  pub sheet : Sheet
  pub is_sheet : IsSheet least_workspace t sheet
  pub waits_are : waits ≡ wait_count sheet
  pub cover : CoverSentence least_workspace t sheet
  pub plays : PlayKeeps t sheet
  pub ends : PlayEnds t sheet

-- what judge's reply "accepted" promises of play
abbrev pub CoversPlay : Type 0
CoversPlay = (workspace : List ℕ) (t : Bytes) (n : Counts) (workspace_later : List ℕ)
    → JudgeKept workspace t (Accepted n) workspace_later → Promised t n.waits
