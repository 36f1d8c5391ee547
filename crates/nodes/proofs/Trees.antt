-- The nodes of waits and of moves have the count and the cells that rules gives to the waits and the moves.
use mathlib.Core.Path.{◌≡◌, refl, ap₂}
use mathlib.Core.Logic.{◌⊎◌, ⊎_elim}
use mathlib.Core.Bool.{Bool, ◌||◌}
use Prim.Native.Nat.{ℕ, ◌+◌, ◌*◌}
use native.Mathlib.Omega.{arith}
use mathlib.Core.List.{List}
use lib.Dec.{T, eqb}
use Rattle.rules.specs.declared.Board.{Board}
use Rattle.rules.specs.Board.{is_cell, cells}
use Rattle.rules.specs.Words.{◌∈◌, at_head, in_tail}
use Rattle.rules.specs.Tree.{Waits, no_waits, wait, Moves, no_moves, move, Move, moves_of_waits, moves_of_moves}
use Rattle.rules.specs.Fair.{in_waits, in_moves}
use Rattle.rules.specs.Outcomes.{count_of_waits, count_of_moves}
use Rattle.rules.proofs.Lists.{in_first, in_second}
use Rattle.rules.proofs.Reading.{nodes_in_waits, nodes_in_moves}
use Rattle.rules.proofs.Places.{cell_range}
use Rattle.nodes.specs.Nodes.{nodes_of_waits, nodes_of_moves, a_wait, a_move, size, count_of, in_nodes}
use Rattle.nodes.specs.Table.{Property, Each, nothing, first, Row, RowOn, Stand, At}

mutual
  unfolding nodes_of_waits count_of count_of_waits

  pub waits_count : (ws : Waits) → count_of a_wait (nodes_of_waits ws) ≡ count_of_waits ws
  waits_count no_waits = refl
  waits_count (wait line ms ws) = ap₂ (λ (x y : ℕ). x * y) (moves_count ms) (waits_count ws)

  pub moves_count : (ms : Moves) → count_of a_move (nodes_of_moves ms) ≡ count_of_moves ms
  moves_count no_moves = refl
  moves_count (move line c ws ms) = ap₂ (λ (x y : ℕ). x + y) (waits_count ws) (moves_count ms)

mutual
  unfolding nodes_of_waits in_nodes in_waits

  pub waits_cells : (ws : Waits) (x : ℕ) → in_nodes a_wait (nodes_of_waits ws) x ≡ in_waits ws x
  waits_cells no_waits x = refl
  waits_cells (wait line ms ws) x = ap₂ (λ (a b : Bool). a || b) (moves_cells ms x) (waits_cells ws x)

  pub moves_cells : (ms : Moves) (x : ℕ) → in_nodes a_move (nodes_of_moves ms) x ≡ in_moves ms x
  moves_cells no_moves x = refl
  moves_cells (move line c ws ms) x = ap₂ (λ (a b : Bool). (eqb x c || a) || b) (waits_cells ws x) (moves_cells ms x)

-- how many nodes there are
mutual
  unfolding nodes_of_waits size nodes_in_waits

  pub waits_size : (ws : Waits) → size (nodes_of_waits ws) ≡ nodes_in_waits ws
  waits_size no_waits = refl
  waits_size (wait line ms ws) = omega (arith, moves_size ms, waits_size ws)

  pub moves_size : (ms : Moves) → size (nodes_of_moves ms) ≡ nodes_in_moves ms
  moves_size no_moves = refl
  moves_size (move line c ws ms) = omega (arith, waits_size ws, moves_size ms)

-- one wait, or one move, and those after it
pub wait_first : {P : Property} {i : ℕ} (line : ℕ) (ms : Moves) (ws : Waits) → Each P a_wait i (nodes_of_waits (wait line ms ws))
    → At P a_wait i 0 (nodes_of_moves ms) × Each P a_wait (i + 1 + size (nodes_of_moves ms)) (nodes_of_waits ws)
unfolding nodes_of_waits
wait_first line ms ws (first p below rest) = (record { here = p; below = below }, rest)

pub move_first : {P : Property} {i : ℕ} (line c : ℕ) (ws : Waits) (ms : Moves) → Each P a_move i (nodes_of_moves (move line c ws ms))
    → At P a_move i c (nodes_of_waits ws) × Each P a_move (i + 1 + size (nodes_of_waits ws)) (nodes_of_moves ms)
unfolding nodes_of_waits
move_first line c ws ms (first p below rest) = (record { here = p; below = below }, rest)

-- nodes that stand in the table, whose moves' cells are cells of the board
mutual
  unfolding nodes_of_waits moves_of_waits cells

  pub waits_on_board : {t : List ℕ} {i : ℕ} (b : Board) (ws : Waits) → ((m : Move) → m ∈ moves_of_waits ws → T (is_cell b m.cell))
      → Stand t a_wait i (nodes_of_waits ws) → Each (RowOn b t) a_wait i (nodes_of_waits ws)
  waits_on_board b no_waits f s = nothing
  waits_on_board b (wait line ms ws) f (first r below rest) =
      first
      (record { row = r; on = omega arith; celled = refl })
      (moves_on_board b ms (λ m h. f m (in_first (moves_of_waits ws) h)) below)
      (waits_on_board b ws (λ m h. f m (in_second (moves_of_moves ms) h)) rest)

  pub moves_on_board : {t : List ℕ} {i : ℕ} (b : Board) (ms : Moves) → ((m : Move) → m ∈ moves_of_moves ms → T (is_cell b m.cell))
      → Stand t a_move i (nodes_of_moves ms) → Each (RowOn b t) a_move i (nodes_of_moves ms)
  moves_on_board b no_moves f s = nothing
  moves_on_board b (move line c ws ms) f (first r below rest) =
      let range = cell_range b c (f (record { line = line; cell = c; waits = ws }) at_head) in
      first
      (record { row = r; on = range.1; celled = λ p. range.0 })
      (waits_on_board b ws (λ m h. f m (in_tail (in_first (moves_of_moves ms) h))) below)
      (moves_on_board b ms (λ m h. f m (in_tail (in_second (moves_of_waits ws) h))) rest)

pub root_on_board : {t : List ℕ} (b : Board) (c : ℕ) (ws : Waits) → (c ≡ 0) ⊎ T (is_cell b c) → ((m : Move) → m ∈ moves_of_waits ws → T (is_cell b m.cell))
    → At (Row t) a_move 0 c (nodes_of_waits ws) → At (RowOn b t) a_move 0 c (nodes_of_waits ws)
unfolding cells
root_on_board b c ws z f n =
    record {
      here = record { row = n.here; on = ⊎_elim (λ e. omega arith) (λ h. (cell_range b c h).1) z; celled = λ p. absurd (omega arith) };
      below = waits_on_board b ws f n.below;
    }
