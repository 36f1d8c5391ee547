-- What the comparing of branches answers: the rows of the table are the lines of a branch.
use Rattle.std.specs.Prelude.{◌≡◌, Bool, false, ◌&&◌, List, [], ◌∷◌, ℕ, zero, suc, ◌+◌, ◌-◌, ◌*◌, ◌<◌, ◌≤◌, eqb, length}
use Rattle.rules.specs.Words.{twice}
use Rattle.rules.specs.Tree.{Moves, Wait}
use Rattle.rules.specs.Fair.{branches}
use Rattle.nodes.specs.Nodes.{a_wait, a_move, nodes_of_moves, size}
use Rattle.nodes.specs.Table.{cell_in, under_in, end_in, WeighedRow, Each, At}
use Rattle.nodes.specs.Order.{TreeNode, is_move, is_wait}

-- nodes i and j have the same cell, and as many nodes right under them
abbrev pub same_row : List ℕ → (i j : ℕ) → Bool
same_row t i j = eqb (cell_in t i) (cell_in t j) && eqb (under_in t i) (under_in t j)

-- n rows from node i on: of each its cell, and the number of nodes right under it
unfoldable pub rows_in : List ℕ → (i n : ℕ) → List ℕ
rows_in t i zero = []
rows_in t i (suc n) = cell_in t i ∷ under_in t i ∷ rows_in t (i + 1) n

-- those of node i and of all under it
abbrev pub branch_in : List ℕ → ℕ → List ℕ
branch_in t i = rows_in t i (end_in t i - i)

-- they are some, and in the table
pub record Spans (t : List ℕ) (i : ℕ) : Type 0 where
  pub onward : i < end_in t i
  pub fits : 4 * end_in t i ≤ length t

-- this wait stands weighed at node i
abbrev pub ForkAt : List ℕ → ℕ → Wait → Type 0
ForkAt t i w = At (WeighedRow t) a_wait i 0 (nodes_of_moves w.moves)

pub record SomeFork (t : List ℕ) (i : ℕ) : Type 0 where
  pub its : Wait
  pub at : ForkAt t i its

-- moves side by side stand weighed from a node up to another
pub record MovesFrom (t : List ℕ) (from end : ℕ) : Type 0 where
  pub moves : Moves
  pub each : Each (WeighedRow t) a_move from (nodes_of_moves moves)
  pub to_end : from + size (nodes_of_moves moves) ≡ end

-- a node is a wait that has a branch twice
abbrev pub twice_by : TreeNode → Bool
twice_by (is_move m) = false
twice_by (is_wait w) = twice (branches w.moves)
