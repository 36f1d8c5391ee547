-- The nodes of a sheet as the table has them, without their lines: waits and moves alike, how many they are, and their outcomes' count.
use Rattle.std.specs.Prelude.{ℕ, suc, ◌+◌, ◌*◌, min, Bool, false, ◌||◌, eqb}
use Rattle.rules.specs.Sizes.{most_outcomes}
use Rattle.rules.specs.Tree.{Waits, no_waits, wait, Moves, no_moves, move}

-- nodes side by side: none, or a node (its cell, the nodes under it) and the nodes after it; a wait has the cell 0
pub data Nodes : Type 0 where
  no_nodes : Nodes
  node : (cell : ℕ) → (under after : Nodes) → Nodes

-- one node
abbrev pub alone : (cell : ℕ) → (under : Nodes) → Nodes
alone c u = node c u no_nodes

-- the nodes of waits, and of moves
unfoldable mutual
  pub nodes_of_waits : Waits → Nodes
  nodes_of_waits no_waits = no_nodes
  nodes_of_waits (wait line ms ws) = node 0 (nodes_of_moves ms) (nodes_of_waits ws)

  pub nodes_of_moves : Moves → Nodes
  nodes_of_moves no_moves = no_nodes
  nodes_of_moves (move line c ws ms) = node c (nodes_of_waits ws) (nodes_of_moves ms)

-- how many stand side by side
unfoldable pub many : Nodes → ℕ
many no_nodes = 0
many (node c u a) = suc (many a)

-- how many there are, with all under them
unfoldable pub size : Nodes → ℕ
size no_nodes = 0
size (node c u a) = suc (size u + size a)

-- nodes are taken as waits, and those under them as moves, or the other way round
pub data Kind : Type 0 where
  a_wait : Kind
  a_move : Kind

abbrev pub other : Kind → Kind
other a_wait = a_move
other a_move = a_wait

-- a move multiplies over its waits (none gives 1), a wait adds over its moves
abbrev pub counted : Kind → ℕ → ℕ → ℕ
counted a_wait x y = x * y
counted a_move x y = x + y

abbrev pub nothing_counted : Kind → ℕ
nothing_counted a_wait = 1
nothing_counted a_move = 0

unfoldable pub count_of : Kind → Nodes → ℕ
count_of k no_nodes = nothing_counted k
count_of k (node c u a) = counted k (count_of (other k) u) (count_of k a)

-- a count, kept at one past the most outcomes
abbrev pub limited : ℕ → ℕ
limited n = min n (suc most_outcomes)

-- a move names its cell, a wait none
abbrev pub named : Kind → (cell x : ℕ) → Bool
named a_move c x = eqb x c
named a_wait c x = false

-- x is one of the cells of the nodes: it is named at one of them or under it
unfoldable pub in_nodes : Kind → Nodes → ℕ → Bool
in_nodes k no_nodes x = false
in_nodes k (node c u a) x = (named k c x || in_nodes (other k) u x) || in_nodes k a x

-- the same of one node
abbrev pub in_node : Kind → (cell : ℕ) → (under : Nodes) → ℕ → Bool
in_node k c u x = named k c x || in_nodes (other k) u x
