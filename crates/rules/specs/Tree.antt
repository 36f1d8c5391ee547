-- "The sheet": the tree. A node keeps the number of its line.
use Rattle.std.specs.Prelude.{ℕ, zero, suc, true, false, List, [], ◌∷◌, ◌++◌, length}
use Rattle.rules.specs.Lines.{Side, own, opp, is_side}
use Rattle.rules.specs.declared.Board.{Board}
use Rattle.rules.specs.declared.Player.{Player}

-- under a move stand waits, under a wait moves
mutual
  -- the waits under a move: none, or a wait (its line, the moves under it) and the waits after it
  pub data Waits : Type 0 where
    no_waits : Waits
    wait : (line : ℕ) → Moves → Waits → Waits

  -- the moves under a wait: none, or a move (its line, its cell, the waits under it) and the moves after it
  pub data Moves : Type 0 where
    no_moves : Moves
    move : (line cell : ℕ) → Waits → Moves → Moves

-- one wait, and one move; the cell 0 is no cell
pub record Wait : Type 0 where
  pub line : ℕ
  pub moves : Moves

pub record Move : Type 0 where
  pub line : ℕ
  pub cell : ℕ
  pub waits : Waits

-- one after another
unfoldable pub as_waits : List Wait → Waits
as_waits [] = no_waits
as_waits (w ∷ ws) = wait w.line w.moves (as_waits ws)

unfoldable pub as_moves : List Move → Moves
as_moves [] = no_moves
as_moves (m ∷ ms) = move m.line m.cell m.waits (as_moves ms)

-- one forest before another
abbrev pub and_then : Waits → Waits → Waits
and_then no_waits us = us
and_then (wait line ms ws) us = wait line ms (and_then ws us)

-- a set-up stone: whose it is, and its cell
pub record Stone : Type 0 where
  pub side : Side
  pub cell : ℕ

-- a sheet: the board, the named player, the set-up stones in the order of their lines, and the first node, which is a move
pub record Sheet : Type 0 where
  pub board : Board
  pub player : Player
  pub set_up : List Stone
  pub root : Move

-- a move's stone; `-` puts none
unfoldable pub stone : ℕ → List ℕ
stone zero = []
stone (suc c) = suc c ∷ []

-- the cells of set-up stones: of all, and of one side; the player's own, and the opponent's
unfoldable pub set_up_cells : List Stone → List ℕ
set_up_cells [] = []
set_up_cells (c ∷ cs) = c.cell ∷ set_up_cells cs

unfoldable pub cells_of : Side → List Stone → List ℕ
cells_of o [] = []
cells_of o (c ∷ cs) = elim (is_side o c.side) [ true ↦ c.cell ∷ cells_of o cs | false ↦ cells_of o cs ]

abbrev pub own_cells : List Stone → List ℕ
own_cells cs = cells_of own cs

abbrev pub opp_cells : List Stone → List ℕ
opp_cells cs = cells_of opp cs

-- the player's stones at the start: the own set-up stones, and the root's stone, if any
unfoldable pub at_start : Sheet → List ℕ
at_start s = own_cells s.set_up ++ stone s.root.cell

-- the moves at nodes and under them, in the order of their lines
unfoldable mutual
  pub moves_of_waits : Waits → List Move
  moves_of_waits no_waits = []
  moves_of_waits (wait line ms ws) = moves_of_moves ms ++ moves_of_waits ws

  pub moves_of_moves : Moves → List Move
  moves_of_moves no_moves = []
  moves_of_moves (move line c ws ms) = record { line = line; cell = c; waits = ws } ∷ moves_of_waits ws ++ moves_of_moves ms

-- the waits at nodes and under them, in the order of their lines
unfoldable mutual
  pub waits_of_waits : Waits → List Wait
  waits_of_waits no_waits = []
  waits_of_waits (wait line ms ws) = record { line = line; moves = ms } ∷ waits_of_moves ms ++ waits_of_waits ws

  pub waits_of_moves : Moves → List Wait
  waits_of_moves no_moves = []
  waits_of_moves (move line c ws ms) = waits_of_waits ws ++ waits_of_moves ms

-- of the whole tree
unfoldable pub every_move : Sheet → List Move
every_move s = s.root ∷ moves_of_waits s.root.waits

unfoldable pub every_wait : Sheet → List Wait
every_wait s = waits_of_waits s.root.waits

-- the counts of moves and waits
unfoldable pub move_count : Sheet → ℕ
move_count s = length (every_move s)

unfoldable pub wait_count : Sheet → ℕ
wait_count s = length (every_wait s)
