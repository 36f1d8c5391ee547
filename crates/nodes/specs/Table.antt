-- The node table: node i stands at its numbers 4i to 4i + 3, which are its cell, the number of nodes right under it, the node after
-- all under it, and its number of outcomes.
use Rattle.std.specs.Prelude.{◌≡◌, ℕ, ◌+◌, ◌*◌, ◌<◌, ◌≤◌, Bool, not, ◌||◌, List, eqb, length, get_or, set}
use Rattle.rules.specs.Board.{cells}
use Rattle.rules.specs.declared.Board.{Board}
use Rattle.nodes.specs.Nodes.{Nodes, no_nodes, node, Kind, a_wait, a_move, other, many, size, count_of, limited}

abbrev pub cell_in : List ℕ → ℕ → ℕ
cell_in t i = get_or t (4 * i) 0

abbrev pub under_in : List ℕ → ℕ → ℕ
under_in t i = get_or t (4 * i + 1) 0

abbrev pub end_in : List ℕ → ℕ → ℕ
end_in t i = get_or t (4 * i + 2) 0

abbrev pub count_in : List ℕ → ℕ → ℕ
count_in t i = get_or t (4 * i + 3) 0

-- the first node is a move, and so is any other that has a cell
abbrev pub is_move_at : List ℕ → ℕ → Bool
is_move_at t i = eqb i 0 || not (eqb (cell_in t i) 0)

-- the table with the first two numbers of node i stored, and with the last two
abbrev pub with_node : List ℕ → (i cell under : ℕ) → List ℕ
with_node t i c n = set (set t (4 * i + 1) n) (4 * i) c

abbrev pub with_weight : List ℕ → (i end count : ℕ) → List ℕ
with_weight t i e q = set (set t (4 * i + 2) e) (4 * i + 3) q

-- a property of a node: its kind, its number, its cell, the nodes under it
abbrev pub Property : Type 1
Property = Kind → ℕ → ℕ → Nodes → Type 0

-- the nodes from number i on, and all under them, have the property; they are numbered in preorder
pub data Each (P : Property) : Kind → ℕ → Nodes → Type 0 where
  nothing : {k : Kind} {i : ℕ} → Each P k i no_nodes
  first : {k : Kind} {i c : ℕ} {u a : Nodes} → P k i c u → Each P (other k) (i + 1) u → Each P k (i + 1 + size u) a → Each P k i (node c u a)

-- node i of the table has this cell and so many nodes right under it as u
pub record Row (t : List ℕ) (k : Kind) (i c : ℕ) (u : Nodes) : Type 0 where
  pub room : 4 * i + 3 < length t
  pub cell : cell_in t i ≡ c
  pub under : under_in t i ≡ many u

-- besides these two, it has the node after all under it, and its number of outcomes
pub record WeighedRow (t : List ℕ) (k : Kind) (i c : ℕ) (u : Nodes) : Type 0 where
  pub row : Row t k i c u
  pub end : end_in t i ≡ i + 1 + size u
  pub count : count_in t i ≡ limited (count_of (other k) u)

-- a wait has the cell 0, and of the moves only the first node may have it
abbrev pub Celled : Kind → (i c : ℕ) → Type 0
Celled a_move i c = 1 ≤ i → 1 ≤ c
Celled a_wait i c = c ≡ 0

-- besides the first two, its cell is one of the board, or 0
pub record RowOn (b : Board) (t : List ℕ) (k : Kind) (i c : ℕ) (u : Nodes) : Type 0 where
  pub row : Row t k i c u
  pub on : c ≤ cells b
  pub celled : Celled k i c

-- it is weighed, and its cell is one of the board, or 0
pub record WeighedOn (b : Board) (t : List ℕ) (k : Kind) (i c : ℕ) (u : Nodes) : Type 0 where
  pub weight : WeighedRow t k i c u
  pub on : c ≤ cells b
  pub celled : Celled k i c

-- the nodes stand in the table from node i on
abbrev pub Stand : List ℕ → Kind → ℕ → Nodes → Type 0
Stand t = Each (Row t)

-- they stand there, and are weighed
abbrev pub Weighed : List ℕ → Kind → ℕ → Nodes → Type 0
Weighed t = Each (WeighedRow t)

-- one node i with the property, and all under it
pub record At (P : Property) (k : Kind) (i c : ℕ) (u : Nodes) : Type 0 where
  pub here : P k i c u
  pub below : Each P (other k) (i + 1) u

-- some node i has the property, and all under it
pub record SomeNode (P : Property) (k : Kind) (i : ℕ) : Type 0 where
  pub cell : ℕ
  pub under : Nodes
  pub at : At P k i cell under
