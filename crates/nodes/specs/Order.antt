-- The nodes of a tree in the order of their lines, moves and waits in one list.
use Rattle.std.specs.Prelude.{ℕ, ◌+◌, List, [], ◌∷◌, ◌++◌}
use Rattle.rules.specs.Tree.{Waits, no_waits, wait, Moves, no_moves, move, Wait, Move}
use Rattle.nodes.specs.Nodes.{a_wait, a_move, nodes_of_waits, nodes_of_moves}
use Rattle.nodes.specs.Table.{Property, At}

-- a node of the tree: a move, or a wait
pub data TreeNode : Type 0 where
  is_move : Move → TreeNode
  is_wait : Wait → TreeNode

unfoldable mutual
  pub in_order_waits : Waits → List TreeNode
  in_order_waits no_waits = []
  in_order_waits (wait line ms ws) = is_wait (record { line = line; moves = ms }) ∷ in_order_moves ms ++ in_order_waits ws

  pub in_order_moves : Moves → List TreeNode
  in_order_moves no_moves = []
  in_order_moves (move line c ws ms) = is_move (record { line = line; cell = c; waits = ws }) ∷ in_order_waits ws ++ in_order_moves ms

-- the moves among them, and the waits
unfoldable pub moves_among : List TreeNode → List Move
moves_among [] = []
moves_among (is_move m ∷ ns) = m ∷ moves_among ns
moves_among (is_wait w ∷ ns) = moves_among ns

unfoldable pub waits_among : List TreeNode → List Wait
waits_among [] = []
waits_among (is_move m ∷ ns) = waits_among ns
waits_among (is_wait w ∷ ns) = w ∷ waits_among ns

-- the tree's nodes are those from number i on, each with the property and all under it
pub data InOrder (P : Property) : ℕ → List TreeNode → Type 0 where
  at_end : {i : ℕ} → InOrder P i []
  at_move : {i : ℕ} {m : Move} {ns : List TreeNode} → At P a_move i m.cell (nodes_of_waits m.waits) → InOrder P (i + 1) ns → InOrder P i (is_move m ∷ ns)
  at_wait : {i : ℕ} {w : Wait} {ns : List TreeNode} → At P a_wait i 0 (nodes_of_moves w.moves) → InOrder P (i + 1) ns → InOrder P i (is_wait w ∷ ns)
