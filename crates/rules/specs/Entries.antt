-- "Three entries": what judge, play and outcome reply, and what they leave in the lent memory.
use Rattle.std.specs.Prelude.{◌≡◌, ℕ, ◌+◌, Bool, true, false, not, List, [], ◌∷◌, ◌++◌, ltb, length, get_or, drop, replicate, if◌then◌else◌}
use Rattle.std.proofs.Math.Option.{Option, none, some}
use Rattle.rules.specs.Sizes.{largest, most_bytes, least_workspace, most_outcomes}
use Rattle.rules.specs.Words.{among}
use Rattle.rules.specs.Text.{Bytes}
use Rattle.rules.specs.Board.{is_cell, listed}
use Rattle.rules.specs.Joining.{joined}
use Rattle.rules.specs.Tree.{Sheet, move_count, wait_count}
use Rattle.rules.specs.Reading.{Result, refused, got, read_sheet_up_to}
unfoldable pub use Rattle.rules.specs.Checks.{◌>>=◌, refuse_if}
use Rattle.rules.specs.Fair.{Fault, first_on_set_up, first_not_apart, first_twice, first_not_elusive}
use Rattle.rules.specs.Live.{idle_count}
use Rattle.rules.specs.Outcomes.{outcomes, outcome_count}
use Rattle.rules.specs.Passing.{passed_over}
use Rattle.rules.specs.Answering.{Game, start, is_over, is_taken, answered}
use Rattle.rules.specs.declared.Board.{Board}
use Rattle.rules.specs.declared.Player.{Player}
use Rattle.rules.specs.declared.Counts.{Counts}
use Rattle.rules.specs.declared.Played.{Played}
use Rattle.rules.specs.declared.Named.{Named}
use Rattle.rules.specs.declared.Verdict.{Verdict}
use Rattle.rules.specs.declared.Verdict.TheVariants.{Accepted, Done, SmallWorkspace, LongText, NotApart, NotElusive, TooManyOutcomes, NotJoined, ShortRoom, AfterOver, NoSuchCell, CellTaken, NoSuchOutcome, OnSetUp, SameBranch}

-- refused where there is a fault, with its line and cell
unfoldable pub refuse_fault : (ℕ → ℕ → Verdict) → Option Fault → Result (Unit {0})
refuse_fault v none = got tt
refuse_fault v (some f) = refused (v f.line f.cell)

-- refused at the first outcome that does not join, with its number; the first of these has number n
unfoldable pub refuse_unjoined : Board → Player → (n : ℕ) → List (List ℕ) → Result (Unit {0})
refuse_unjoined b p n [] = got tt
refuse_unjoined b p n (o ∷ os) = elim (joined b p (among o)) [ true ↦ refuse_unjoined b p (n + 1) os | false ↦ refused (NotJoined n) ]

-- 2, then the reading's 3 to 9 and 19, of a board of up to so many columns and rows
unfoldable pub read_text_up_to : (most : ℕ) → Bytes → Result Sheet
read_text_up_to most t = do
  _ ← refuse_if (ltb most_bytes (length t)) LongText
  read_sheet_up_to most t

abbrev pub read_text : Bytes → Result Sheet
read_text t = read_text_up_to largest t

-- order: 1, 2, 3; then the reading's 4 to 9 and 19
unfoldable pub read_up_to : (most workspace : ℕ) → Bytes → Result Sheet
read_up_to most w t = do
  _ ← refuse_if (ltb w least_workspace) SmallWorkspace
  read_text_up_to most t

abbrev pub read : (workspace : ℕ) → Bytes → Result Sheet
read w t = read_up_to largest w t

-- then 20, 10, 24, 11, 12, by what is on a set-up stone, what stands twice, and the number of outcomes; 24 has no cell
abbrev pub fair_by : (on-set-up stands_twice : Option Fault) → (many : ℕ) → Sheet → Result Sheet
fair_by on-set-up stands_twice many s = do
  _ ← refuse_fault OnSetUp on-set-up
  _ ← refuse_fault NotApart (first_not_apart s)
  _ ← refuse_fault (λ line cell. SameBranch line) stands_twice
  _ ← refuse_fault NotElusive (first_not_elusive s)
  _ ← refuse_if (ltb most_outcomes many) TooManyOutcomes
  got s

-- each over the whole tree, but for 12
unfoldable pub fair : Sheet → Result Sheet
fair s = fair_by (first_on_set_up s) (first_twice s) (outcome_count s) s

-- then 13: a sheet is satisfying when the cells of every outcome of the root join for the named player
abbrev pub satisfying_by : List (List ℕ) → Sheet → Result Sheet
satisfying_by os s = do
  _ ← refuse_unjoined s.board s.player 0 os
  got s

unfoldable pub satisfying : Sheet → Result Sheet
satisfying s = satisfying_by (outcomes s) s

-- the sheet that is accepted by checks that come before 13, of what was read, or the refusal; judge's checks are `fair`
abbrev pub accepted_by : (checks : Sheet → Result Sheet) → Result Sheet → Result Sheet
accepted_by checks r = do
  s ← r
  s ← checks s
  satisfying s

unfoldable pub accepted : (workspace : ℕ) → Bytes → Result Sheet
accepted w t = accepted_by fair (read w t)

-- the counts of a sheet that judge accepts: moves, waits, outcomes, and (document 02) how many outcomes were passed over (C-15) and
-- how many of the moves aren't live (C-16)
unfoldable pub counts : Sheet → Counts
counts s = record { moves = move_count s; waits = wait_count s; outcomes = outcome_count s; passed = passed_over s; idle = idle_count s }

-- Judge takes a sheet and answers a verdict; it also returns the counts
unfoldable pub judged : Result Sheet → Verdict
judged (refused v) = v
judged (got s) = Accepted (counts s)

unfoldable pub judge : (workspace : ℕ) → Bytes → Verdict
judge w t = judged (accepted w t)

-- Play takes a sheet, a list of opponent cell numbers and room for answers. One move: 15, 16, 17, or its answer
unfoldable pub step : Sheet → Game → ℕ → Result Game
step s g x = do
  _ ← refuse_if (is_over s g) AfterOver
  _ ← refuse_if (not (is_cell s.board x)) NoSuchCell
  _ ← refuse_if (is_taken s g x) CellTaken
  got (answered g x)

-- what a list of moves comes to: refused at a place, or played to a game
pub data Rounds : Type 0 where
  stopped : Verdict → (place : ℕ) → Rounds
  played : Game → Rounds

-- for each move in turn, the first at the given place
unfoldable pub rounds : Sheet → Game → (place : ℕ) → List ℕ → Rounds
rounds s g place [] = played g
rounds s g place (x ∷ xs) = elim (step s g x) [ refused v ↦ stopped v place | got h ↦ rounds s h (place + 1) xs ]

-- play also returns the place of the refused move (from 1, else 0), the answers, and whether play is over; on a refusal no
-- answers and not over
pub record PlayReply : Type 0 where
  pub verdict : Verdict
  pub place : ℕ
  pub answers : List ℕ
  pub over : Bool

unfoldable pub refused_play : Verdict → (place : ℕ) → PlayReply
refused_play v place = record { verdict = v; place = place; answers = []; over = false }

unfoldable pub played_out : Sheet → Rounds → PlayReply
played_out s (stopped v place) = refused_play v place
played_out s (played g) = record { verdict = Done; place = 0; answers = g.answers; over = is_over s g }

unfoldable pub play_on : List ℕ → Result Sheet → PlayReply
play_on xs (refused v) = refused_play v 0
play_on xs (got s) = played_out s (rounds s (start s) 1 xs)

-- play goes on with 14 (room shorter than the move list), then for each move in turn 15, 16, 17
abbrev pub play_of : Result Sheet → (moves : List ℕ) → (room : ℕ) → PlayReply
play_of r xs room = play_on xs do
  s ← r
  _ ← refuse_if (ltb room (length xs)) ShortRoom
  got s

unfoldable pub play : (workspace : ℕ) → Bytes → (moves : List ℕ) → (room : ℕ) → PlayReply
play w t xs room = play_of (accepted w t) xs room

-- Outcome takes a sheet, an outcome's number and room for its cells, listed in ascending order
unfoldable pub outcome_cells : Sheet → ℕ → List ℕ
outcome_cells s i = listed s.board (among (get_or (outcomes s) i []))

pub record OutcomeReply : Type 0 where
  pub verdict : Verdict
  pub cells : List ℕ

-- outcome also returns the number of cells, 0 on a refusal
unfoldable pub named : Result (List ℕ) → OutcomeReply
named (refused v) = record { verdict = v; cells = [] }
named (got xs) = record { verdict = Done; cells = xs }

-- outcome does not give 13; it goes on with 18, then 14 (room shorter than the cells)
abbrev pub outcome_by : (checks : Sheet → Result Sheet) → Result Sheet → (number room : ℕ) → OutcomeReply
outcome_by checks r i room = named do
  s ← r
  s ← checks s
  _ ← refuse_if (not (ltb i (outcome_count s))) NoSuchOutcome
  _ ← refuse_if (ltb room (length (outcome_cells s i))) ShortRoom
  got (outcome_cells s i)

unfoldable pub outcome : (workspace : ℕ) → Bytes → (number room : ℕ) → OutcomeReply
outcome w t i room = outcome_by fair (read w t) i room

-- on refusal 1 the workspace is unchanged; otherwise its first 8,192 numbers are 0 on return and the rest unchanged
unfoldable pub workspace_after : List ℕ → List ℕ
workspace_after ws = if ltb (length ws) least_workspace then ws else replicate least_workspace 0 ++ drop least_workspace ws

-- the room changes only on 0, and only in as many first places as there are answers or cells. (A refusal lists none.)
unfoldable pub room_after : (answers room : List ℕ) → List ℕ
room_after xs room = xs ++ drop (length xs) room

-- what play and outcome hand back beside the room: the number of answers, or of cells
unfoldable pub play_shown : PlayReply → Played
play_shown r = record { verdict = r.verdict; place = r.place; answers = length r.answers; over = r.over }

unfoldable pub outcome_shown : OutcomeReply → Named
outcome_shown r = record { verdict = r.verdict; cells = length r.cells }

-- What each entry promises, for every input: its full reply, and the later contents of all memory lent to it
pub record JudgeKept (workspace : List ℕ) (t : Bytes) (v : Verdict) (workspace_later : List ℕ) : Type 0 where
  pub reply : v ≡ judge (length workspace) t
  pub memory : workspace_later ≡ workspace_after workspace

pub record PlayKept (workspace : List ℕ) (t : Bytes) (moves room : List ℕ) (r : Played) (workspace_later room-later : List ℕ) : Type 0 where
  pub reply : r ≡ play_shown (play (length workspace) t moves (length room))
  pub memory : workspace_later ≡ workspace_after workspace
  pub answers : room-later ≡ room_after (play (length workspace) t moves (length room)).answers room

pub record OutcomeKept (workspace : List ℕ) (t : Bytes) (number : ℕ) (room : List ℕ) (r : Named) (workspace_later room-later : List ℕ) : Type 0 where
  pub reply : r ≡ outcome_shown (outcome (length workspace) t number (length room))
  pub memory : workspace_later ≡ workspace_after workspace
  pub cells : room-later ≡ room_after (outcome (length workspace) t number (length room)).cells room
