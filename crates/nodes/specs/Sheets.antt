-- The table holds a sheet: its tree stands there from node 0 on, and is weighed; and what is set up before the tree is the sheet's.
use Rattle.std.specs.Prelude.{◌≡◌, List, ℕ, ◌+◌, ◌≤◌, length}
use Rattle.rules.specs.Sizes.{most_bytes, least_workspace}
use Rattle.rules.specs.Tree.{Waits, Stone, Sheet, own_cells, opp_cells}
use Rattle.rules.specs.Live.{living}
use Rattle.rules.specs.Plain.{WellRead}
use Rattle.rules.specs.declared.Board.{Board}
use Rattle.cells.specs.Cells.{Holds}
use Rattle.cells.specs.declared.Cells.{Cells}
use Rattle.nodes.specs.declared.head.SetUp.{SetUp}
use Rattle.nodes.specs.Nodes.{a_move, nodes_of_waits}
use Rattle.nodes.specs.Table.{WeighedRow, At}

-- the sheet is one that reads, on this board; the root stands there with these waits
pub record HoldsTree (t : List ℕ) (b : Board) (s : Sheet) (ws : Waits) : Type 0 where
  pub long : length t ≡ least_workspace
  pub on : s.board ≡ b
  pub well : WellRead s
  pub root : At (WeighedRow t) a_move 0 s.root.cell (nodes_of_waits ws)

-- with its own, or with what is left of them without the moves that aren't live
abbrev pub HoldsSheet : List ℕ → Board → Sheet → Type 0
HoldsSheet t b s = HoldsTree t b s s.root.waits

abbrev pub HoldsLiving : List ℕ → Board → Sheet → Type 0
HoldsLiving t b s = HoldsTree t b s (living s.root.waits)

-- some sheet is held
pub record SomeSheet (t : List ℕ) (b : Board) : Type 0 where
  pub sheet : Sheet
  pub held : HoldsSheet t b sheet

-- two sets are the player's own set-up stones and the opponent's
pub record HeldStones (b : Board) (cs : List Stone) (own opp : Cells) : Type 0 where
  pub own_held : Holds b own.rows (own_cells cs)
  pub opp_held : Holds b opp.rows (opp_cells cs)

-- what is set up is the sheet's: its stones, and the line of its first node, no further on than a text is long
pub record HoldsSetUp (b : Board) (s : Sheet) (u : SetUp) : Type 0 where
  pub stones : HeldStones b s.set_up u.stones.own u.stones.opp
  pub first_is : u.first ≡ s.root.line
  pub low : u.first ≤ most_bytes + 2

-- both
pub record HoldsWhole (t : List ℕ) (b : Board) (u : SetUp) (s : Sheet) : Type 0 where
  pub tree : HoldsSheet t b s
  pub set_up : HoldsSetUp b s u

pub record SomeWhole (t : List ℕ) (b : Board) (u : SetUp) : Type 0 where
  pub sheet : Sheet
  pub whole : HoldsWhole t b u sheet
