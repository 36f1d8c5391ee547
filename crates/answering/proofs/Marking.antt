-- The loop that marks the waits right under a move.
use mathlib.Core.Path.{◌≡◌, ◌∙◌}
use Prim.Native.Nat.{ℕ, ◌+◌, ◌*◌, ◌<◌, ◌≤◌}
use native.Mathlib.Omega.{arith}
use mathlib.Core.List.{List}
use lib.ListN.{length}
use Rattle.nodes.specs.Nodes.{Nodes, a_move, size}
use Rattle.nodes.specs.Table.{end_in, nothing, first, SomeNode, At}
use Rattle.nodes.proofs.Table.{each_map, alone_at, stand_end}
use Rattle.nodes.proofs.Walk.{Walking, walking_child, walking_again, walking_ends}
use Rattle.answering.specs.Rows.{Within, Ended, SameRows, with_mark, marked}
use Rattle.answering.proofs.Rows.{same_twice, mark_rows, ended_same}

-- marking what is left gives the table with all marked
pub record ToMark (t₀ t : List ℕ) (i next : ℕ) (n rest : Nodes) : Type 0 where
  pub same : marked rest next t ≡ marked n (i + 1) t₀

-- the loop's invariant at the move at node i with so many waits right under it, j of which are marked
pub record Marking (t₀ t : List ℕ) (i under next j : ℕ) : Type 0 where
  pub rows : SameRows t₀ t
  pub walk : Walking (Ended t₀) (Ended t) a_move i under next j (ToMark t₀ t i next)

module _ {t₀ t : List ℕ} {i under next j : ℕ} (w : Marking t₀ t i under next j) where
  pub marking_room : j < under → SomeNode (Ended t₀) a_move i → 4 * next + 3 < length t
  marking_room p s = (walking_child w.walk p s).at.here.row.room

  -- one more is marked
  module _ (p : j < under) (s : SomeNode (Ended t₀) a_move i) {v : List ℕ} (e : v ≡ with_mark t next 1) where
    new_rows : SameRows t v
    new_rows = rw e (mark_rows t next 1)

    pub marking_kept : 4 * next + 3 < length v
    marking_kept = omega (arith, marking_room p s, new_rows.long)

    pub marking_again : (to : ℕ) → to ≡ end_in v next → Marking t₀ v i under to (j + 1)
    unfolding marked
    marking_again to f =
        record {
          rows = same_twice w.rows new_rows;
          walk = walking_again w.walk p s (λ c u n.
              let ends : to ≡ next + 1 + size u = f ∙ new_rows.end next ∙ n.here.end in
              record {
                next_is = ends;
                each = λ a st. ended_same new_rows st;
                holds = λ all a q. record { same = rw (ends, e) q.same };
              });
        }

  pub marking_done : under ≤ j → (c : ℕ) (u : Nodes) → At (Ended t₀) a_move i c u → t ≡ marked u (i + 1) t₀
  unfolding marked
  marking_done p c u n = (walking_ends w.walk p c u n).1.same

-- the root and all under it are in the table
pub root_room : {t : List ℕ} → SomeNode (Ended t) a_move 0 → Within t 0
root_room s =
    let n = s.at in
    let e = stand_end (omega (arith, n.here.row.room)) (each_map (λ k j c u from to r. r.row) n.below) in
    (omega (arith, n.here.row.room), omega (arith, n.here.end, e))

pub ended_at_same : {t v : List ℕ} {i c : ℕ} {u : Nodes} → SameRows t v → At (Ended t) a_move i c u → At (Ended v) a_move i c u
ended_at_same s n = alone_at (ended_same s (first n.here n.below nothing))
