-- The table after an answer: the chosen wait closed, and the waits under the chosen move open.
use mathlib.Core.Path.{◌≡◌, ap, ◌∙◌}
use mathlib.Core.Logic.{◌⊎◌, inl, inr, ⊎_elim}
use Prim.Native.Nat.{ℕ, ◌+◌, ◌*◌, ◌<◌, ◌≤◌}
use native.Mathlib.Omega.{arith}
use mathlib.Core.List.{List}
use lib.ListN.{length}
use Rattle.rules.specs.Tree.{Waits}
use Rattle.rules.specs.Choice.{Choice, taken}
use Rattle.rules.specs.declared.Board.{Board}
use Rattle.nodes.specs.Nodes.{Nodes, a_move, nodes_of_waits}
use Rattle.nodes.specs.Table.{cell_in, end_in, count_in, At, SomeNode}
use Rattle.answering.specs.Rows.{Ended, EndedOn, SameRows, with_mark, marked}
use Rattle.answering.specs.Choosing.{wait_node, move_node, Asked, Chosen, Answered}
use Rattle.answering.proofs.Rows.{mark_rows, mark_elsewhere, at_same, at_ended, marked_before, marked_after}
use Rattle.answering.proofs.Marks.{under_chosen, after, after_rows, choice_nodes, opened_open}

module _ (base : ℕ) where
  module _ {b : Board} {t : List ℕ} {x : ℕ} {ws : Waits} {k : Choice ws} {w m : ℕ} (a : Asked base b t x ws k) (c : Chosen base ws k w m) where
    pub chosen_room : 4 * w + 3 < length t
    chosen_room = rw c.wait_is (choice_nodes base ws k a.are_open.marks).room

    -- the chosen move, after the mark of the chosen wait is cleared
    chosen_at : {v : List ℕ} → v ≡ with_mark t w 0 → At (EndedOn b v) a_move m (taken ws k) (nodes_of_waits (under_chosen base ws k))
    chosen_at e = rw (e, c.move_is) (at_same (mark_rows t w 0) (choice_nodes base ws k a.are_open.marks).move_at)

    pub chosen_move : {v : List ℕ} → v ≡ with_mark t w 0 → SomeNode (Ended v) a_move m
    chosen_move e = record { cell = _; under = _; at = at_ended (chosen_at e) }

    module _ {v : List ℕ} (e : v ≡ with_mark t w 0) {z : List ℕ} (f : (cell : ℕ) (u : Nodes) → At (Ended v) a_move m cell u → z ≡ marked u (m + 1) v) where
      chosen_after : z ≡ after base t ws k
      chosen_after = f _ _ (at_ended (chosen_at e)) ∙ rw (e, c.wait_is, c.move_is)

      chosen_rows : SameRows t z
      chosen_rows = rw chosen_after (after_rows base t ws k)

      pub chosen_cell : 4 * m + 3 < length z
      chosen_cell = omega (arith, chosen_rows.long, (mark_rows t w 0).long, ap length e, (chosen_at e).here.row.room)

      -- no mark outside the tree is changed
      outside : (i : ℕ) → (i < 1) ⊎ (end_in t 0 ≤ i) → count_in z i ≡ count_in t i
      outside i h =
          let n = choice_nodes base ws k a.are_open.marks in
          let one = with_mark t (wait_node base ws k) 0 in
          let under = nodes_of_waits (under_chosen base ws k) in
          ap (λ (l : List ℕ). count_in l i) chosen_after
          ∙ ⊎_elim
          (λ p. marked_before under (move_node base ws k + 1) one i (omega arith) ∙ mark_elsewhere t (wait_node base ws k) 0 i (λ e. omega (arith, n.from)))
          (λ p. marked_after under (move_node base ws k + 1) one i (omega (arith, n.within)) ∙ mark_elsewhere t (wait_node base ws k) 0 i (λ e. omega (arith, n.below, n.within)))
          h

      pub chosen_answered : (r : ℕ) → r ≡ cell_in z m → Answered base b t ws k r z
      chosen_answered r g =
          let n = choice_nodes base ws k a.are_open.marks in
          let ends : end_in z 0 ≡ end_in t 0 = chosen_rows.end 0 in
          record {
            cell_is = g ∙ chosen_rows.cell m ∙ ap (cell_in t) c.move_is ∙ n.move_at.here.row.cell;
            are_open = record {
              room = omega (arith, chosen_rows.long, a.are_open.room);
              within = omega (arith, chosen_rows.long, a.are_open.within);
              root = outside 0 (inl (omega arith)) ∙ a.are_open.root;
              marks = rw (ends, chosen_after) (opened_open base ws k a.are_open.marks);
            };
            rows = record { rows = chosen_rows; later = λ i h. outside i (inr h) };
          }
