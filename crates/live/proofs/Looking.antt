-- The cells of a move of the table.
use mathlib.Core.Path.{ap, ◌∙◌, subst⁻¹}
use mathlib.Core.Bool.{◌||◌}
use mathlib.Core.List.{List}
use mathlib.Core.Logic.{⊎_elim}
use Prim.Native.Nat.{ℕ, ◌≤◌}
use native.Mathlib.Omega.{arith}
use lib.Dec.{T, eqb, eqb→eq}
use Rattle.rules.specs.declared.Board.{Board}
use Rattle.rules.specs.Tree.{Waits}
use Rattle.rules.specs.Fair.{in_waits, in_move}
use Rattle.rules.proofs.Tests.{cases}
use Rattle.nodes.specs.Nodes.{Nodes, Kind, a_wait, a_move, other, nodes_of_waits, named, in_nodes}
use Rattle.nodes.specs.Table.{Celled, WeighedOn, Each, nothing, first, At}
use Rattle.nodes.specs.Collecting.{CellsAny}
use Rattle.nodes.proofs.Trees.{waits_cells}
use Rattle.live.proofs.Sharing.{CellsAre}

-- below the root no node has the cell 0
no_zero : {b : Board} {t : List ℕ} {k : Kind} {i : ℕ} {n : Nodes} → 1 ≤ i → Each (WeighedOn b t) k i n → T (in_nodes k n 0) → ⊥
unfolding in_nodes
no_zero p nothing h = h
no_zero {k = k} {i = i} p (first {c = c} {u = u} {a = a} r below rest) h =
    ⊎_elim
    (λ q. ⊎_elim (own k r.celled) (no_zero (omega arith) below) (cases (named k c 0) (in_nodes (other k) u 0) q))
    (no_zero (omega arith) rest)
    (cases (named k c 0 || in_nodes (other k) u 0) (in_nodes k a 0) h)
  where
    own : (k : Kind) → Celled k i c → T (named k c 0) → ⊥
    own a_move g q = omega (arith, g p, eqb→eq 0 c q)
    own a_wait g q = q

module _ {b : Board} {t : List ℕ} {i : ℕ} where
  -- the cells that stand in the move's rows are its own and those under it
  pub move_cells : {rows : List ℕ} → 1 ≤ i → CellsAny b t i rows → (c : ℕ) (ws : Waits) → At (WeighedOn b t) a_move i c (nodes_of_waits ws) → CellsAre b rows c ws
  unfolding in_move
  move_cells p h c ws a =
      record {
        same = λ x q. h a_move c (nodes_of_waits ws) a x q ∙ ap (λ y. eqb x c || y) (waits_cells ws x);
        no_zero = λ m.
            ⊎_elim (λ q. omega (arith, a.here.celled p, eqb→eq 0 c q)) (λ q. no_zero (omega arith) a.below (subst⁻¹ T (waits_cells ws 0) q))
            (cases (eqb 0 c) (in_waits ws 0) m);
      }
