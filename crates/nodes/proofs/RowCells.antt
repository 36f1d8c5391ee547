-- The cells of a node stand in its rows.
use mathlib.Core.Path.{◌≡◌, sym, subst, subst⁻¹, ◌∙◌}
use mathlib.Core.Logic.{⊎_elim}
use mathlib.Core.Bool.{false, ◌||◌}
use mathlib.Core.List.{List}
use Prim.Native.Nat.{ℕ, ◌+◌, ◌*◌, ◌<◌, ◌≤◌}
use native.Mathlib.Decide.{dec_lt, ℕ_discrete}
use native.Mathlib.Omega.{arith}
use lib.Dec.{T, eqb→eq}
use lib.ListN.{length}
use borrow.Author.Tests.{eq-eqb}
use Rattle.rules.specs.declared.Board.{Board}
use Rattle.rules.specs.Board.{cells}
use Rattle.rules.proofs.Tests.{holds_of, same_test, left, right, cases}
use Rattle.cells.specs.Cells.{held, StandsIn, RowsHold, HeldInRows}
use Rattle.nodes.specs.Nodes.{Nodes, alone, Kind, a_wait, a_move, other, size, named, in_nodes, in_node}
use Rattle.nodes.specs.Table.{cell_in, end_in, Celled, WeighedOn, Each, nothing, first, SomeNode}
use Rattle.nodes.specs.Collecting.{CellsAny}

wider : {t : List ℕ} {i j i' j' x : ℕ} → i' ≤ i → j ≤ j' → StandsIn t i j x → StandsIn t i' j' x
wider p q h = record { at = h.at; from = omega (arith, h.from); to = omega (arith, h.to); is = h.is }

-- a place from node i on is node i, or one of those under it, or one after them
by_place : (A : Type 0) (i n j : ℕ) → i ≤ j → (i ≡ j → A) → (i + 1 ≤ j → j < i + 1 + n → A) → (i + 1 + n ≤ j → A) → A
by_place A i n j p f g h = own (ℕ_discrete i j)
  where
    later : i < j → Dec (j < i + 1 + n) → A
    later l (yes y) = g (omega arith) y
    later l (no y) = h (omega arith)

    own : Dec (i ≡ j) → A
    own (yes e) = f e
    own (no e) = later (omega arith) (dec_lt j (i + 1 + n))

-- the row of the node itself
own_cell : (k : Kind) (i c x : ℕ) → Celled k i c → 1 ≤ x → (T (named k c x) → c ≡ x) × (c ≡ x → T (named k c x))
own_cell a_move i c x g p = (λ h. sym (eqb→eq x c h), λ e. holds_of (eq-eqb x c (sym e)))
own_cell a_wait i c x g p = (λ h. absurd h, λ e. absurd (omega arith))

module _ {b : Board} {t : List ℕ} where
  -- what is found in nodes is the cell of one of their rows, and the other way round
  nodes_rows : {k : Kind} {i : ℕ} {n : Nodes} → Each (WeighedOn b t) k i n → (x : ℕ) → 1 ≤ x → T (in_nodes k n x) → StandsIn t i (i + size n) x
  unfolding in_nodes size
  nodes_rows nothing x p h = absurd h
  nodes_rows {k = k} {i = i} (first {c = c} {u = u} {a = a} r below rest) x p h =
      ⊎_elim
      (λ q.
      ⊎_elim
      (λ o. record { at = i; from = omega arith; to = omega arith; is = r.weight.row.cell ∙ (own_cell k i c x r.celled p).0 o })
      (λ o. wider (omega arith) (omega arith) (nodes_rows below x p o))
      (cases (named k c x) (in_nodes (other k) u x) q))
      (λ o. wider (omega arith) (omega arith) (nodes_rows rest x p o))
      (cases (named k c x || in_nodes (other k) u x) (in_nodes k a x) h)

  rows_nodes : {k : Kind} {i : ℕ} {n : Nodes} → Each (WeighedOn b t) k i n → (x : ℕ) → 1 ≤ x → StandsIn t i (i + size n) x → T (in_nodes k n x)
  unfolding in_nodes size
  rows_nodes nothing x p h = absurd (omega (arith, h.from, h.to))
  rows_nodes {k = k} {i = i} (first {c = c} {u = u} {a = a} r below rest) x p h =
      by_place _ i (size u) h.at h.from
      (λ e.
      let same : c ≡ x = sym r.weight.row.cell ∙ subst⁻¹ (λ (j : ℕ). cell_in t j ≡ x) e h.is in
      left (named k c x || in_nodes (other k) u x) (in_nodes k a x) (left (named k c x) (in_nodes (other k) u x) ((own_cell k i c x r.celled p).1 same)))
      (λ l m.
      left (named k c x || in_nodes (other k) u x) (in_nodes k a x)
      (right (named k c x) (in_nodes (other k) u x) (rows_nodes below x p (record { at = h.at; from = l; to = m; is = h.is }))))
      (λ l. right (named k c x || in_nodes (other k) u x) (in_nodes k a x) (rows_nodes rest x p (record { at = h.at; from = l; to = omega (arith, h.to); is = h.is })))

  -- each of these rows is in the table, with a cell of the board or 0
  row_on : {k : Kind} {i : ℕ} {n : Nodes} → Each (WeighedOn b t) k i n → (j : ℕ) → i ≤ j → j < i + size n → (4 * j + 3 < length t) × (cell_in t j ≤ cells b)
  unfolding size
  row_on nothing j p q = absurd (omega arith)
  row_on {i = i} (first {c = c} {u = u} {a = a} r below rest) j p q =
      by_place _ i (size u) j p
      (λ e. subst (λ (m : ℕ). (4 * m + 3 < length t) × (cell_in t m ≤ cells b)) e (r.weight.row.room, omega (arith, r.weight.row.cell, r.on)))
      (λ l m. row_on below j l m)
      (λ l. row_on rest j l (omega arith))

-- the rows of a node are in the table, and their cells are the node's
module _ {b : Board} {t : List ℕ} {i : ℕ} where
  pub node_rows : {k : Kind} {end : ℕ} → SomeNode (WeighedOn b t) k i → end ≡ end_in t i → RowsHold b t i end
  unfolding size
  node_rows n e j p q =
      let h = n.at.here in
      row_on (first h n.at.below nothing) j p (omega (arith, e, h.weight.end))

  pub node_cells : {end : ℕ} {rows : List ℕ} → end ≡ end_in t i → HeldInRows b t i end rows → CellsAny b t i rows
  unfolding in_nodes size
  node_cells {rows = rows} e g k c u n x o =
      let here : Each (WeighedOn b t) k i (alone c u) = first n.here n.below nothing in
      let same = n.here.weight.end in
      same_test (held b rows x) (in_node k c u x)
      (λ h. ⊎_elim (λ y. y) (λ y. absurd y) (cases (in_node k c u x) false (rows_nodes here x o (wider (omega arith) (omega (arith, e, same)) (g.stands x o h)))))
      (λ h. g.is_held x o (wider (omega arith) (omega (arith, e, same)) (nodes_rows here x o (left (in_node k c u x) false h))))
