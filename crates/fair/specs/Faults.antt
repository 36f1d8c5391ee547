-- What the tests of fair sheets answer: the faulty cells of a node of the table, and the first fault of a sheet.
use Rattle.std.specs.Prelude.{◌≡◌, ◌≢◌, Bool, false, ◌&&◌, ◌||◌, List, ℕ, ◌+◌, ◌<◌, ◌≤◌, eqb}
use Rattle.std.specs.Prelude as code
use Rattle.std.proofs.Math.Option.{Option, none, some}
use Rattle.rules.specs.Sizes.{most_nodes}
use Rattle.rules.specs.declared.Board.{Board}
use Rattle.rules.specs.Board.{smallest}
use Rattle.rules.specs.Tree.{no_moves, Wait, Move, Sheet, every_move}
use Rattle.rules.specs.Fair.{Fault, first_fault}
use Rattle.cells.specs.Cells.{held}
use Rattle.nodes.specs.Nodes.{a_wait, a_move, nodes_of_waits, nodes_of_moves}
use Rattle.nodes.specs.Table.{RowOn, WeighedOn, At}
use Rattle.nodes.specs.Order.{TreeNode, is_move, is_wait}
use Rattle.fair.specs.declared.Fault as answered

-- the fault that an answer tells, where the first node's line is `first`
abbrev pub fault_seen : (first : ℕ) → code.Option answered.Fault → Option Fault
fault_seen first (code.Some f) = some (record { line = f.node + first; cell = f.cell })
fault_seen first code.None = none

-- a node's number is below the most nodes
abbrev pub FaultLow : code.Option answered.Fault → Type 0
FaultLow (code.Some f) = f.node < most_nodes
FaultLow code.None = Unit {0}

-- a faulty node whose fault is not a cell's: its cell is 0
abbrev pub bare : code.Option ℕ → code.Option answered.Fault
bare (code.Some i) = code.Some (record { node = i; cell = 0 })
bare code.None = code.None

-- the answer tells this fault of the sheet
pub record FaultFound (s : Sheet) (fault : Option Fault) (r : code.Option answered.Fault) : Type 0 where
  pub seen : fault_seen s.root.line r ≡ fault
  pub low : FaultLow r

-- at a move, its cell is faulty if one of the stones is on it
abbrev pub not_free : (stones : ℕ → Bool) → Move → ℕ → Bool
not_free stones m x = eqb x m.cell && stones x

-- the first fault of a sheet by a set of stones
abbrev pub first_free : (stones : ℕ → Bool) → Sheet → Option Fault
first_free stones s = first_fault s.board (λ (m : Move). m.line) (not_free stones) (every_move s)

-- x is faulty at a node by what is asked of moves alone, or of waits alone
abbrev pub at_moves : (Move → ℕ → Bool) → TreeNode → ℕ → Bool
at_moves faulty (is_move m) x = faulty m x
at_moves faulty (is_wait w) x = false

abbrev pub at_waits : (Wait → ℕ → Bool) → TreeNode → ℕ → Bool
at_waits faulty (is_move m) x = false
at_waits faulty (is_wait w) x = faulty w x

-- the line of a node of the tree
abbrev pub line_of : TreeNode → ℕ
line_of (is_move m) = m.line
line_of (is_wait w) = w.line

-- this move, or this wait, stands at node i
abbrev pub MoveAt : Board → List ℕ → ℕ → Move → Type 0
MoveAt b t i m = At (RowOn b t) a_move i m.cell (nodes_of_waits m.waits)

abbrev pub WaitAt : Board → List ℕ → ℕ → Wait → Type 0
WaitAt b t i w = At (WeighedOn b t) a_wait i 0 (nodes_of_moves w.moves)

-- a node of a sheet's tree stands weighed at node i: only the root may have no cell, and it is a move; a wait has a move under it
pub data NodeAt (b : Board) (t : List ℕ) (i : ℕ) : TreeNode → Type 0 where
  move_at : {m : Move} → At (WeighedOn b t) a_move i m.cell (nodes_of_waits m.waits) → (1 ≤ i → 1 ≤ m.cell) → NodeAt b t i (is_move m)
  wait_at : {w : Wait} → At (WeighedOn b t) a_wait i 0 (nodes_of_moves w.moves) → 1 ≤ i → w.moves ≢ no_moves → NodeAt b t i (is_wait w)

-- some node of a tree stands there
pub record SomeTreeNode (b : Board) (t : List ℕ) (i : ℕ) : Type 0 where
  pub node : TreeNode
  pub at : NodeAt b t i node

-- a set is the faulty cells of the move that stands at node i, whatever it is
abbrev pub FoundAtMove : (faulty : Move → ℕ → Bool) → Board → List ℕ → ℕ → List ℕ → Type 0
FoundAtMove faulty b t i rows = (m : Move) → MoveAt b t i m → (x : ℕ) → 1 ≤ x → held b rows x ≡ faulty m x

-- an answer is the fault of a node by its smallest faulty cell, and none where that is 0
abbrev pub IsFault : (node cell : ℕ) → code.Option answered.Fault → Type 0
IsFault i c (code.Some f) = (f.node ≡ i) × (f.cell ≡ c) × (c ≢ 0)
IsFault i c code.None = c ≡ 0

-- an answer is the fault of the node that stands at node i, whatever it is
abbrev pub FaultAt : (faulty : TreeNode → ℕ → Bool) → Board → List ℕ → ℕ → code.Option answered.Fault → Type 0
FaultAt faulty b t i r = (n : TreeNode) → NodeAt b t i n → IsFault i (smallest b (faulty n)) r

-- one more set in a tally of the cells found once or more, and twice or more
pub record OneMoreSet (once twice more once' twice' : List ℕ) : Type 0 where
  pub once_are : (b : Board) (x : ℕ) → held b once' x ≡ (held b once x || held b more x)
  pub twice_are : (b : Board) (x : ℕ) → held b twice' x ≡ (held b twice x || (held b once x && held b more x))
