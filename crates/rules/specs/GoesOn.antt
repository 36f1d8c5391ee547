-- "Three entries", the table's rows of play and outcome, which go on where judge ends, in the paper's numbers.
use Rattle.std.specs.Prelude.{◌≢◌, ℕ, ◌+◌, ◌≤◌, ◌<◌, not, List, T, length, take, get_or}
use Rattle.rules.specs.Text.{Bytes}
use Rattle.rules.specs.Board.{is_cell}
use Rattle.rules.specs.Tree.{Sheet}
use Rattle.rules.specs.Outcomes.{outcome_count}
use Rattle.rules.specs.Answering.{Game, start, is_over, is_taken}
use Rattle.rules.specs.Entries.{outcome_cells}
use Rattle.rules.specs.Verdict.{told_as}
use Rattle.rules.specs.Plain.{IsSheet, IsFair, Given}
use Rattle.rules.specs.Promise.{Ruled}
use Rattle.rules.specs.declared.Told.{Told}

-- why the move x is refused in the game g: 15, 16, 17, in this order
pub data Refuses (s : Sheet) (g : Game) (x : ℕ) : Told → Type 0 where
  as_after_over : T (is_over s g) → Refuses s g x (told_as 15 0 0 0)
  as_no_cell : T (not (is_over s g)) → T (not (is_cell s.board x)) → Refuses s g x (told_as 16 0 0 0)
  as_taken : T (not (is_over s g)) → T (is_cell s.board x) → T (is_taken s g x) → Refuses s g x (told_as 17 0 0 0)

-- the moves before the one at a place (from 0) are played by the rule and lead to the game g, and that move is refused
pub record RefusedAt (s : Sheet) (moves : List ℕ) (place : ℕ) (n : Told) : Type 0 where
  pub game : Game
  pub there : place < length moves
  pub before : Ruled s (start s) (take place moves) game
  pub refuses : Refuses s game (get_or moves place 0) n

-- Play: judge's refusals, then 14 (room shorter than the move list), then the first move that is refused, with its place from 1; or done
pub data GivenPlay (workspace : ℕ) (t : Bytes) (moves : List ℕ) (room : ℕ) : Told → (place : ℕ) → Type 0 where
  play_judged : {n : Told} → Given workspace t n → n.number ≢ 0 → GivenPlay workspace t moves room n 0
  play_short : (s : Sheet) → IsSheet workspace t s → room < length moves → GivenPlay workspace t moves room (told_as 14 0 0 0) 0
  play_refused : (s : Sheet) (n : Told) (place : ℕ) → IsSheet workspace t s → length moves ≤ room → RefusedAt s moves place n
      → GivenPlay workspace t moves room n (place + 1)
  play_done : (s : Sheet) (g : Game) → IsSheet workspace t s → length moves ≤ room → Ruled s (start s) moves g
      → GivenPlay workspace t moves room (told_as 0 0 0 0) 0

-- Outcome: judge's refusals but 13, then 18 (number not below the count), then 14 (room shorter than the cells); or done
pub data GivenOutcome (workspace : ℕ) (t : Bytes) (number room : ℕ) : Told → Type 0 where
  outcome_judged : {n : Told} → Given workspace t n → n.number ≢ 0 → n.number ≢ 13 → GivenOutcome workspace t number room n
  outcome_none : (s : Sheet) → IsFair workspace t s → outcome_count s ≤ number → GivenOutcome workspace t number room (told_as 18 0 0 0)
  outcome_short : (s : Sheet) → IsFair workspace t s → number < outcome_count s → room < length (outcome_cells s number)
      → GivenOutcome workspace t number room (told_as 14 0 0 0)
  outcome_done : (s : Sheet) → IsFair workspace t s → number < outcome_count s → length (outcome_cells s number) ≤ room
      → GivenOutcome workspace t number room (told_as 0 0 0 0)
