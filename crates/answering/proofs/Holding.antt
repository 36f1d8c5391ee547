-- The cells of the nodes from node i on are those of the waits, or of the moves, that stand there; and the search for one of them.
use mathlib.Core.Path.{◌≡◌, refl, sym, ap, ap₂, ◌∙◌}
use mathlib.Core.Bool.{Bool, true, false, ◌||◌}
use Prim.Native.Nat.{ℕ, zero, suc, ◌+◌, ◌-◌, ◌*◌, ◌<◌, ◌≤◌}
use native.Mathlib.Omega.{arith}
use mathlib.Core.List.{List, ◌∷◌, ◌++◌}
use lib.Dec.{eqb, eqb→eq, eqb_refl}
use lib.ListN.{length}
use Rattle.rules.specs.Words.{among}
use Rattle.rules.specs.Tree.{Waits, no_waits, wait, Moves, no_moves, move}
use Rattle.rules.specs.Fair.{in_waits, in_moves, in_move}
use Rattle.rules.specs.declared.Board.{Board}
use Rattle.rules.proofs.Lists.{among_append}
use Rattle.rules.proofs.Tests.{true_of, false_of}
use Rattle.nodes.specs.Nodes.{Kind, a_wait, a_move, Nodes, size, nodes_of_waits, nodes_of_moves}
use Rattle.nodes.specs.Table.{cell_in, end_in, Each, first, At}
use Rattle.nodes.proofs.Table.{node_end}
use Rattle.answering.specs.Rows.{Within, EndedOn}
use Rattle.answering.specs.Choosing.{cells_from, holds_at}
use Rattle.answering.proofs.Rows.{at_row}

-- nodes after nodes, and a node with those under it and those after it
cells_join : (t : List ℕ) (i m n : ℕ) → cells_from t i (m + n) ≡ cells_from t i m ++ cells_from t (i + m) n
unfolding cells_from
cells_join t i zero n =
    let e : i ≡ i + 0 = omega arith in
    let f : 0 + n ≡ n = omega arith in
    ap₂ (λ (j k : ℕ). cells_from t j k) e f
cells_join t i (suc m) n =
    let e : i + 1 + m ≡ i + suc m = omega arith in
    let f : suc m + n ≡ suc (m + n) = omega arith in
    ap (λ (k : ℕ). cells_from t i k) f
    ∙ ap (λ (l : List ℕ). cell_in t i ∷ l) (cells_join t (i + 1) m n ∙ ap (λ (j : ℕ). cells_from t (i + 1) m ++ cells_from t j n) e)

node_named : (t : List ℕ) (x i m n c : ℕ) (y z : Bool) → cell_in t i ≡ c → among (cells_from t (i + 1) m) x ≡ y → among (cells_from t (i + 1 + m) n) x ≡ z
    → among (cells_from t i (suc (m + n))) x ≡ ((eqb x c || y) || z)
unfolding cells_from among
node_named t x i m n c y z e f g =
    ap (λ (l : List ℕ). eqb x (cell_in t i) || among l x) (cells_join t (i + 1) m n)
    ∙ among_append x (cell_in t i ∷ cells_from t (i + 1) m) (cells_from t (i + 1 + m) n)
    ∙ cc (e, f, g)

-- a wait names no cell
no_cell : (x : ℕ) → 1 ≤ x → eqb x 0 ≡ false
no_cell x p = false_of (eqb x 0) (λ h. omega (arith, eqb→eq x 0 h))

module _ {b : Board} {t : List ℕ} (x : ℕ) (p : 1 ≤ x) where
  mutual
    unfolding nodes_of_waits size cells_from among in_waits

    waits_named : {i : ℕ} (ws : Waits) → Each (EndedOn b t) a_wait i (nodes_of_waits ws) → among (cells_from t i (size (nodes_of_waits ws))) x ≡ in_waits ws x
    waits_named no_waits e = refl
    waits_named {i} (wait line ms ws) (first r below rest) =
        node_named t x i (size (nodes_of_moves ms)) (size (nodes_of_waits ws)) 0 _ _ r.row.cell (moves_named ms below) (waits_named ws rest)
        ∙ ap (λ (y : Bool). (y || in_moves ms x) || in_waits ws x) (no_cell x p)

    moves_named : {i : ℕ} (ms : Moves) → Each (EndedOn b t) a_move i (nodes_of_moves ms) → among (cells_from t i (size (nodes_of_moves ms))) x ≡ in_moves ms x
    moves_named no_moves e = refl
    moves_named {i} (move line c ws ms) (first r below rest) =
        node_named t x i (size (nodes_of_waits ws)) (size (nodes_of_moves ms)) c _ _ r.row.cell (waits_named ws below) (moves_named ms rest)

  -- the same of one node
  own_held : {k : Kind} {i c : ℕ} {u : Nodes} → At (EndedOn b t) k i c u → holds_at t i x ≡ (eqb x c || among (cells_from t (i + 1) (size u)) x)
  unfolding holds_at cells_from among
  own_held {k} {i} {c} {u} n =
      let e : end_in t i - i ≡ suc (size u) = omega (arith, n.here.end) in
      ap (λ (m : ℕ). among (cells_from t i m) x) e ∙ ap (λ (y : ℕ). eqb x y || among (cells_from t (i + 1) (size u)) x) n.here.row.cell

  pub wait_held : {i : ℕ} (ms : Moves) → At (EndedOn b t) a_wait i 0 (nodes_of_moves ms) → holds_at t i x ≡ in_moves ms x
  wait_held ms n = own_held n ∙ ap₂ (λ (y z : Bool). y || z) (no_cell x p) (moves_named ms n.below)

  pub move_held : {i c : ℕ} (ws : Waits) → At (EndedOn b t) a_move i c (nodes_of_waits ws) → holds_at t i x ≡ in_move c ws x
  unfolding in_move
  move_held {i} {c} ws n = own_held n ∙ ap (λ (y : Bool). eqb x c || y) (waits_named ws n.below)

-- the nodes that a cell is looked for at stand in the table
pub named_room : {b : Board} {t : List ℕ} {k : Kind} {i c : ℕ} {u : Nodes} → At (EndedOn b t) k i c u → Within t i
named_room n = (n.here.row.room, omega (arith, n.here.end, node_end (at_row n)))

-- the search: x is named at node i or under it exactly if it is at one of the nodes left, which are from j up to the end
pub record Holding (t : List ℕ) (i x end j : ℕ) : Type 0 where
  pub end_is : end ≡ end_in t i
  pub same : holds_at t i x ≡ among (cells_from t j (end - j)) x

pub holding_starts : {t : List ℕ} {i x end : ℕ} → end ≡ end_in t i → Holding t i x end i
unfolding holds_at
holding_starts {t} {i} {x} e = record { end_is = e; same = ap (λ (n : ℕ). among (cells_from t i (n - i)) x) (sym e) }

module _ {t : List ℕ} {i x end j : ℕ} (l : Holding t i x end j) where
  pub holding_room : j < end → 4 * end_in t i ≤ length t → 4 * j + 3 < length t
  holding_room p h = omega (arith, l.end_is)

  -- whether x is the cell of node j, and then whether it is at one of those left after it
  next_held : (y : Bool) → j < end → eqb x (cell_in t j) ≡ y → holds_at t i x ≡ (y || among (cells_from t (j + 1) (end - (j + 1))) x)
  unfolding cells_from among
  next_held y p e =
      let f : end - j ≡ suc (end - (j + 1)) = omega arith in
      l.same
      ∙ ap (λ (n : ℕ). among (cells_from t j n) x) f
      ∙ ap (λ (z : Bool). z || among (cells_from t (j + 1) (end - (j + 1))) x) e

  pub holding_found : j < end → cell_in t j ≡ x → true ≡ holds_at t i x
  holding_found p e = sym (next_held true p (true_of (eqb x (cell_in t j)) (rw e (eqb_refl x))))

  pub holding_again : (next : ℕ) → j < end → (cell_in t j ≡ x → ⊥) → next ≡ j + 1 → Holding t i x end next
  holding_again next p n e =
      rw e
      (record {
        end_is = l.end_is;
        same = next_held false p (false_of (eqb x (cell_in t j)) (λ h. n (sym (eqb→eq x (cell_in t j) h))));
      })

  -- no node is left
  pub holding_done : end ≤ j → false ≡ holds_at t i x
  unfolding cells_from among
  holding_done p =
      let e : end - j ≡ 0 = omega arith in
      sym (l.same ∙ ap (λ (n : ℕ). among (cells_from t j n) x) e)
