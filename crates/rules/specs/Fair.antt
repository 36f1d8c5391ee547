-- "Fair sheets": the cells of a node, apart and elusive, each with its first faulty node and that node's smallest faulty cell; and, of
-- document 02, free (C-11) and no branch twice (C-20).
use Rattle.std.specs.Prelude.{ℕ, zero, suc, ◌+◌, Bool, true, false, ◌&&◌, ◌||◌, List, [], ◌∷◌, ◌++◌, eqb, leb, if◌then◌else◌}
use Rattle.std.proofs.Math.Option.{Option, none, some}
use Rattle.rules.specs.Words.{among, first_some, twice, one_if}
use Rattle.rules.specs.Board.{smallest}
use Rattle.rules.specs.Tree.{Waits, no_waits, wait, Moves, no_moves, move, Wait, Move, Stone, Sheet, set_up_cells, every_move, every_wait}
use Rattle.rules.specs.Written.{how_many_waits, how_many_moves}
use Rattle.rules.specs.declared.Board.{Board}

-- the cells of a node are all cells named at it or under it: x is one of some of these waits, or of some of these moves
unfoldable mutual
  pub in_waits : Waits → ℕ → Bool
  in_waits no_waits x = false
  in_waits (wait line ms ws) x = in_moves ms x || in_waits ws x

  pub in_moves : Moves → ℕ → Bool
  in_moves no_moves x = false
  in_moves (move line c ws ms) x = (eqb x c || in_waits ws x) || in_moves ms x

-- x is one of the cells of a move with its own cell c
unfoldable pub in_move : (c : ℕ) → Waits → ℕ → Bool
in_move c ws x = eqb x c || in_waits ws x

-- in how many of the waits x is found
unfoldable pub holding : Waits → ℕ → ℕ
holding no_waits x = 0
holding (wait line ms ws) x = one_if (in_moves ms x) + holding ws x

-- x is found in every one of the moves
unfoldable pub in_every : Moves → ℕ → Bool
in_every no_moves x = true
in_every (move line c ws ms) x = in_move c ws x && in_every ms x

-- Apart. At a move, a cell is faulty if it is the move's own and is found under it, or if it is found in two or more of its waits
unfoldable pub not_apart : Move → ℕ → Bool
not_apart m x = (eqb x m.cell && in_waits m.waits x) || leb 2 (holding m.waits x)

-- Elusive. At a wait, a cell is faulty if it is found in every one of its moves
unfoldable pub not_elusive : Wait → ℕ → Bool
not_elusive w x = in_every w.moves x

-- Free. At a move, its cell is faulty if a set-up stone is on it
unfoldable pub on_set_up : List Stone → Move → ℕ → Bool
on_set_up cs m x = eqb x m.cell && among (set_up_cells cs) x

-- No branch twice. Lines with all lines under them, in their order: of each line its cell, which is 0 at a wait, and the number of
-- nodes right under it; so the same numbers are lines of the same kind, cell and count
unfoldable mutual
  pub lines_under_move : Waits → List ℕ
  lines_under_move no_waits = []
  lines_under_move (wait line ms ws) = 0 ∷ how_many_moves ms ∷ lines_under_wait ms ++ lines_under_move ws

  pub lines_under_wait : Moves → List ℕ
  lines_under_wait no_moves = []
  lines_under_wait (move line c ws ms) = c ∷ how_many_waits ws ∷ lines_under_move ws ++ lines_under_wait ms

-- a branch is a move's line with all lines under it; the branches of moves, one a move
unfoldable pub branch : (c : ℕ) → Waits → List ℕ
branch c ws = c ∷ how_many_waits ws ∷ lines_under_move ws

unfoldable pub branches : Moves → List (List ℕ)
branches no_moves = []
branches (move line c ws ms) = branch c ws ∷ branches ms

-- a faulty node: its line, and its smallest faulty cell; 0 where the fault is not a cell's
pub record Fault : Type 0 where
  pub line : ℕ
  pub cell : ℕ

-- the fault of the node at a line whose smallest faulty cell is c; none where c is no cell
unfoldable pub fault_at : (line c : ℕ) → Option Fault
fault_at line zero = none
fault_at line (suc c) = some (record { line = line; cell = suc c })

-- the fault of the first faulty node of a list, whose cells are faulty by the test
unfoldable pub first_fault : {N : Type 0} → Board → (line : N → ℕ) → (faulty : N → ℕ → Bool) → List N → Option Fault
first_fault b line faulty ns = first_some (λ n. fault_at (line n) (smallest b (faulty n))) ns

-- the fault of a wait that has a branch twice
unfoldable pub twice_at : Wait → Option Fault
twice_at w = if twice (branches w.moves) then some (record { line = w.line; cell = 0 }) else none

unfoldable pub first_on_set_up : Sheet → Option Fault
first_on_set_up s = first_fault s.board (λ m. m.line) (on_set_up s.set_up) (every_move s)

unfoldable pub first_not_apart : Sheet → Option Fault
first_not_apart s = first_fault s.board (λ m. m.line) not_apart (every_move s)

unfoldable pub first_twice : Sheet → Option Fault
first_twice s = first_some twice_at (every_wait s)

unfoldable pub first_not_elusive : Sheet → Option Fault
first_not_elusive s = first_fault s.board (λ w. w.line) not_elusive (every_wait s)
