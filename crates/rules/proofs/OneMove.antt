-- "So a wait with one move is always faulty."
use mathlib.Core.Path.{◌≡◌, subst⁻¹}
use mathlib.Core.Logic.{inl, inr}
use Prim.Native.Nat.{ℕ}
use mathlib.Core.Bool.{true, ◌||◌}
use lib.Dec.{T, eqb, eqb_refl}
use Rattle.rules.specs.Words.{◌∈◌, at_head, in_tail}
use Rattle.rules.specs.Tree.{Waits, no_waits, wait, Moves, no_moves, move, Wait, Move, Sheet, moves_of_waits, moves_of_moves, waits_of_waits, waits_of_moves, every_wait}
use Rattle.rules.specs.Fair.{in_waits, in_move, in_every}
use Rattle.rules.specs.Plain.{WellRead, IsElusive}
use Rattle.rules.proofs.Tests.{left, both}
use Rattle.rules.proofs.Lists.{in_both, in_first, in_second}

-- the moves of a wait are among the moves of the tree that has the wait
mutual
  unfolding moves_of_waits waits_of_waits

  under_waits : (ws : Waits) {w : Wait} {m : Move} → w ∈ waits_of_waits ws → m ∈ moves_of_moves w.moves → m ∈ moves_of_waits ws
  under_waits no_waits h j = elim h [ ]
  under_waits (wait line ms ws) at_head j = in_first (moves_of_waits ws) j
  under_waits (wait line ms ws) (in_tail h) j =
      elim (in_both (waits_of_moves ms) (waits_of_waits ws) h) [
        | inl k ↦ in_first (moves_of_waits ws) (under_moves ms k j)
        | inr k ↦ in_second (moves_of_moves ms) (under_waits ws k j)
      ]

  under_moves : (ms : Moves) {w : Wait} {m : Move} → w ∈ waits_of_moves ms → m ∈ moves_of_moves w.moves → m ∈ moves_of_moves ms
  under_moves no_moves h j = elim h [ ]
  under_moves (move line c ws ms) h j =
      elim (in_both (waits_of_waits ws) (waits_of_moves ms) h) [
        | inl k ↦ in_tail (in_first (moves_of_moves ms) (under_waits ws k j))
        | inr k ↦ in_tail (in_second (moves_of_waits ws) (under_moves ms k j))
      ]

pub one_move_faulty : (s : Sheet) → WellRead s → (w : Wait) → w ∈ every_wait s → (line c : ℕ) (ws : Waits) → w.moves ≡ move line c ws no_moves
    → IsElusive s.board w → ⊥
unfolding every_wait moves_of_moves in_every in_move
one_move_faulty s r w i line c ws e h =
    let own = subst⁻¹ (λ (ms : Moves). record { line = line; cell = c; waits = ws } ∈ moves_of_moves ms) e at_head in
    let there : T (in_every (move line c ws no_moves) c) = both (eqb c c || in_waits ws c) true (left (eqb c c) (in_waits ws c) (eqb_refl c)) tt in
    h.no_cell_in_all c (r.on_board_lem _ (under_waits s.root.waits i own)) (subst⁻¹ (λ (ms : Moves). T (in_every ms c)) e there)
