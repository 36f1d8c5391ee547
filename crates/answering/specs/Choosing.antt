-- Where the table has the open wait that holds a cell, and the chosen wait and move.
use Rattle.std.specs.Prelude.{◌≡◌, Bool, not, ℕ, zero, suc, ◌+◌, ◌-◌, List, [], ◌∷◌, if◌then◌else◌}
use Rattle.std.proofs.Math.Option.{some}
use Rattle.rules.specs.Words.{among}
use Rattle.rules.specs.Tree.{Waits, no_waits, wait, Moves, no_moves, move}
use Rattle.rules.specs.Fair.{in_moves, in_move}
use Rattle.rules.specs.Choice.{the_first, one_later, PlaceIn, Choice, taken, opened, first_move}
use Rattle.rules.specs.Answering.{answer}
use Rattle.rules.specs.declared.Board.{Board}
use Rattle.nodes.specs.Nodes.{a_move, size, nodes_of_waits, nodes_of_moves}
use Rattle.nodes.specs.Table.{cell_in, end_in, Each}
use Rattle.answering.specs.Rows.{EndedOn, Remarked}
use Rattle.answering.specs.Marks.{Opens}
use Rattle.answering.specs.declared.Found.{Found}
use Rattle.answering.specs.declared.Found.TheVariants as found

-- the cells of n nodes, from node i on
unfoldable pub cells_from : List ℕ → (i n : ℕ) → List ℕ
cells_from t i zero = []
cells_from t i (suc n) = cell_in t i ∷ cells_from t (i + 1) n

-- x is named at node i or at one of the nodes under it
unfoldable pub holds_at : List ℕ → (i x : ℕ) → Bool
holds_at t i x = among (cells_from t i (end_in t i - i)) x

-- the node of the first of the waits that holds x
unfoldable pub touched_in : (first : ℕ) → ℕ → Waits → Found
touched_in f x no_waits = found.Nothing
touched_in f x (wait line ms ws) = if in_moves ms x then found.At (line - f) else touched_in f x ws

-- the node of the move at a place, where the first of the moves is at node i
unfoldable pub node_there : ℕ → (ms : Moves) → PlaceIn ms → ℕ
node_there i no_moves p = absurd p
node_there i (move line c ws ms) (the_first u) = i
node_there i (move line c ws ms) (one_later p) = node_there (i + 1 + size (nodes_of_waits ws)) ms p

-- the nodes of the chosen wait, and of the chosen move
unfoldable pub wait_node : (first : ℕ) → (ws : Waits) → Choice ws → ℕ
wait_node f no_waits k = absurd k
wait_node f (wait line ms ws) (the_first p) = line - f
wait_node f (wait line ms ws) (one_later k) = wait_node f ws k

unfoldable pub move_node : (first : ℕ) → (ws : Waits) → Choice ws → ℕ
move_node f no_waits k = absurd k
move_node f (wait line ms ws) (the_first p) = node_there (line - f + 1) ms p
move_node f (wait line ms ws) (one_later k) = move_node f ws k

-- a move whose cells do not hold x
abbrev pub without : ℕ → ℕ → Waits → Bool
without x c us = not (in_move c us x)

-- moves stand from node i on, and the first that does not hold x is at a place
pub record Dodge (b : Board) (t : List ℕ) (i x : ℕ) (ms : Moves) (p : PlaceIn ms) : Type 0 where
  pub each : Each (EndedOn b t) a_move i (nodes_of_moves ms)
  pub is_first : first_move (without x) ms ≡ some p

abbrev pub SomeDodge : List ℕ → (i x : ℕ) → Type 0
SomeDodge t i x = (b : Board) × (ms : Moves) × (p : PlaceIn ms) × Dodge b t i x ms p

-- these waits are open, and the rule answers x with this choice
pub record Asked (f : ℕ) (b : Board) (t : List ℕ) (x : ℕ) (ws : Waits) (k : Choice ws) : Type 0 where
  pub are_open : Opens f b t ws
  pub is_answer : answer x ws ≡ some k

abbrev pub SomeAsked : List ℕ → ℕ → Type 0
SomeAsked t x = (f : ℕ) × (b : Board) × (ws : Waits) × (k : Choice ws) × Asked f b t x ws k

-- the nodes are those of the choice
pub record Chosen (f : ℕ) (ws : Waits) (k : Choice ws) (w m : ℕ) : Type 0 where
  pub wait_is : w ≡ wait_node f ws k
  pub move_is : m ≡ move_node f ws k

-- the answer is the chosen cell; the chosen wait is closed, and the waits under the chosen move are open
pub record Answered (f : ℕ) (b : Board) (t : List ℕ) (ws : Waits) (k : Choice ws) (r : ℕ) (v : List ℕ) : Type 0 where
  pub cell_is : r ≡ taken ws k
  pub are_open : Opens f b v (opened ws k)
  pub rows : Remarked t v
