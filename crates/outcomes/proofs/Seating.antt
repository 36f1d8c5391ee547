-- The waits of a sheet that reads are seated: each move has its cell of the board, and each wait a move, so that all have an outcome.
use mathlib.Core.Path.{refl}
use Prim.Native.Nat.{ℕ}
use mathlib.Core.List.{List}
use lib.Dec.{T}
use Rattle.rules.specs.declared.Board.{Board}
use Rattle.rules.specs.Board.{is_cell}
use Rattle.rules.specs.Words.{◌∈◌, at_head, in_tail}
use Rattle.rules.specs.Tree.{Waits, no_waits, wait, Moves, no_moves, move, Move, moves_of_waits, moves_of_moves, waits_of_waits, waits_of_moves}
use Rattle.rules.proofs.Lists.{in_first, in_second}
use Rattle.rules.proofs.Looking.{SomeIn, some_waits, some_moves}
use Rattle.nodes.specs.Nodes.{a_wait, a_move, nodes_of_waits, nodes_of_moves}
use Rattle.nodes.specs.Table.{Weighed, Each, nothing, first}
use Rattle.nodes.proofs.Trees.{waits_count, moves_count}
use Rattle.outcomes.specs.Searching.{Seated}

mutual
  unfolding nodes_of_waits moves_of_waits waits_of_waits

  pub waits_seated : {t : List ℕ} {i : ℕ} (b : Board) (ws : Waits) → ((m : Move) → m ∈ moves_of_waits ws → T (is_cell b m.cell)) → SomeIn (waits_of_waits ws)
      → Weighed t a_wait i (nodes_of_waits ws) → Each (Seated b t) a_wait i (nodes_of_waits ws)
  waits_seated b no_waits f g s = nothing
  waits_seated b (wait line ms ws) f g (first r below rest) =
      let under = moves_seated b ms (λ m h. f m (in_first (moves_of_waits ws) h)) (λ w h. g w (in_tail (in_first (waits_of_waits ws) h))) below in
      first
      (record { weight = r; on = refl; some = rw (moves_count ms) (some_moves ms (g (record { line = line; moves = ms }) at_head) (λ w h. g w (in_tail (in_first (waits_of_waits ws) h)))) })
      under
      (waits_seated b ws (λ m h. f m (in_second (moves_of_moves ms) h)) (λ w h. g w (in_tail (in_second (waits_of_moves ms) h))) rest)

  moves_seated : {t : List ℕ} {i : ℕ} (b : Board) (ms : Moves) → ((m : Move) → m ∈ moves_of_moves ms → T (is_cell b m.cell)) → SomeIn (waits_of_moves ms)
      → Weighed t a_move i (nodes_of_moves ms) → Each (Seated b t) a_move i (nodes_of_moves ms)
  moves_seated b no_moves f g s = nothing
  moves_seated b (move line c ws ms) f g (first r below rest) =
      let under = waits_seated b ws (λ m h. f m (in_tail (in_first (moves_of_moves ms) h))) (λ w h. g w (in_first (waits_of_moves ms) h)) below in
      first
      (record { weight = r; on = f (record { line = line; cell = c; waits = ws }) at_head; some = rw (waits_count ws) (some_waits ws (λ w h. g w (in_first (waits_of_moves ms) h))) })
      under
      (moves_seated b ms (λ m h. f m (in_tail (in_second (moves_of_waits ws) h))) (λ w h. g w (in_second (waits_of_waits ws) h)) rest)
