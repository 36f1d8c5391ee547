-- "The answering rule": the game, its start, and what the rule answers.
use Rattle.std.specs.Prelude.{ℕ, min, Bool, true, not, cond, ◌&&◌, ◌||◌, List, [], ◌∷◌, ◌++◌, eqb}
use Rattle.std.proofs.Math.Option.{Option, none, some}
use Rattle.rules.specs.Words.{among}
use Rattle.rules.specs.Board.{is_cell}
use Rattle.rules.specs.Joining.{joined}
use Rattle.rules.specs.Tree.{Waits, no_waits, wait, Sheet, opp_cells, at_start}
use Rattle.rules.specs.Fair.{in_waits, in_moves, in_move}
use Rattle.rules.specs.Choice.{Choice, taken, opened, first_under}

-- A game: the answers so far, the opponent's stones, and the open waits
pub record Game : Type 0 where
  pub answers : List ℕ
  pub theirs : List ℕ
  pub open_waits : Waits

-- "Start: the root's stone, if any; the root's waits are open." (Follow-up C-11: the set-up stones are on the board)
unfoldable pub start : Sheet → Game
start s = record { answers = []; theirs = opp_cells s.set_up; open_waits = s.root.waits }

-- the player's stones
unfoldable pub mine : Sheet → Game → List ℕ
mine s g = at_start s ++ g.answers

-- "The opponent puts a stone on an empty cell": one of the board that neither side has taken
unfoldable pub is_taken : Sheet → Game → ℕ → Bool
is_taken s g x = among (mine s g) x || among g.theirs x

unfoldable pub is_empty : Sheet → Game → ℕ → Bool
is_empty s g x = is_cell s.board x && not (is_taken s g x)

-- "If it belongs to the cells of an open wait, the answer is the first move under that wait whose cells do not hold the opponent's
-- cell."
unfoldable pub touched_answer : ℕ → (ws : Waits) → Option (Choice ws)
touched_answer x ws = first_under (λ line ms. in_moves ms x) (λ c us. not (in_move c us x)) ws

-- the smallest line number of the open waits
unfoldable pub smallest_line : ℕ → Waits → ℕ
smallest_line n no_waits = n
smallest_line n (wait line ms ws) = smallest_line (min n line) ws

unfoldable pub first_line : Waits → ℕ
first_line no_waits = 0
first_line (wait line ms ws) = smallest_line line ws

-- "If it is in no open wait, the answer is the first move under the open wait with the smallest line number."
unfoldable pub free_answer : (ws : Waits) → Option (Choice ws)
free_answer ws = first_under (λ line ms. eqb line (first_line ws)) (λ c us. true) ws

unfoldable pub answer : ℕ → (ws : Waits) → Option (Choice ws)
answer x ws = cond (in_waits ws x) (touched_answer x ws) (free_answer ws)

-- after the opponent's x and the chosen answer: "That wait closes, and the waits under the answered move open."
unfoldable pub next : (g : Game) → ℕ → Choice g.open_waits → Game
next g x k =
    record { answers = g.answers ++ taken g.open_waits k ∷ []; theirs = g.theirs ++ x ∷ []; open_waits = opened g.open_waits k }

-- the rule's answer to x. (On an accepted sheet there is always one: specs/Promise)
unfoldable pub answered_by : (g : Game) → ℕ → Option (Choice g.open_waits) → Game
answered_by g x none = record { answers = g.answers; theirs = g.theirs ++ x ∷ []; open_waits = g.open_waits }
answered_by g x (some k) = next g x k

unfoldable pub answered : Game → ℕ → Game
answered g x = answered_by g x (answer x g.open_waits)

-- "Play is over as soon as the player's stones join."
unfoldable pub is_over : Sheet → Game → Bool
is_over s g = joined s.board s.player (among (mine s g))
