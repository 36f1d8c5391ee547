-- Which kind of node stands at a node number: the first node is a move, and any other that has a cell.
use mathlib.Core.Path.{◌≡◌, refl, sym, subst, subst⁻¹, ◌∙◌}
use mathlib.Core.Logic.{◌≢◌, ⊎_elim}
use mathlib.Core.Bool.{Bool, true, false, ◌&&◌, ◌||◌, true≢false, false≢true}
use Prim.Native.Nat.{ℕ, ◌+◌, ◌*◌, ◌<◌, ◌≤◌}
use native.Mathlib.Nat.{eq-zero-or-pos}
use native.Mathlib.Omega.{arith}
use mathlib.Core.List.{List}
use lib.Dec.{T, eqb, eqb→eq}
use lib.ListN.{length}
use borrow.Author.Tests.{eq-eqb, ne_eqb}
use Rattle.rules.specs.declared.Board.{Board}
use Rattle.rules.specs.Tree.{Waits, no_waits, wait, no_moves, Wait, Move}
use Rattle.rules.specs.Words.{twice}
use Rattle.rules.specs.Board.{is_cell, smallest}
use Rattle.rules.specs.Fair.{in_waits, holding, not_apart, branches}
use Rattle.rules.proofs.Tests.{holds_of, both, fst, snd, cases}
use Rattle.rules.proofs.Smallest.{smallest_is, smallest_zero}
use Rattle.rules.proofs.Places.{cell_range}
use Rattle.cells.specs.Cells.{held}
use Rattle.cells.proofs.Smallest.{smallest_same}
use Rattle.nodes.specs.Nodes.{a_wait, a_move, nodes_of_waits, nodes_of_moves, many}
use Rattle.nodes.specs.Table.{cell_in, under_in, RowOn, WeighedOn, At, SomeNode, is_move_at}
use Rattle.nodes.specs.Order.{TreeNode, is_move, is_wait}
use Rattle.nodes.proofs.Table.{at_map, on_row}
use Rattle.fair.specs.Faults.{not_free, at_moves, at_waits, MoveAt, WaitAt, NodeAt, move_at, wait_at, SomeTreeNode, FoundAtMove, IsFault, FaultAt}
use Rattle.fair.specs.declared.Fault as answered
use Rattle.std.specs.Prelude as code
use Rattle.fair.specs.Twice.{ForkAt, SomeFork, twice_by}

-- what a set holds is a cell
pub held_cell : (b : Board) (rows : List ℕ) (x : ℕ) → held b rows x ≡ true → T (is_cell b x)
unfolding held
held_cell b rows x e = fst (is_cell b x) _ (holds_of e)

-- no cell is the smallest of none
pub none_smallest : (b : Board) → smallest b (λ x. false) ≡ 0
none_smallest b = smallest_zero b (λ x. false) (λ x i h. h)

-- no cell is faulty at a move with nothing under it
none_under : (ws : Waits) → many (nodes_of_waits ws) ≡ 0 → (m : Move) → m.waits ≡ ws → (x : ℕ) → T (not_apart m x) → ⊥
unfolding not_apart many nodes_of_waits in_waits holding
none_under no_waits e m q x h =
    let gone : not_apart m x ≡ ((eqb x m.cell && false) || false) = rw q refl in
    ⊎_elim (λ y. snd (eqb x m.cell) false y) (λ y. y) (cases (eqb x m.cell && false) false (subst T gone h))
none_under (wait line ms ws) e m q x h = absurd (omega arith)

module _ {b : Board} {t : List ℕ} {i : ℕ} where
  pub move_is : (m : Move) → At (WeighedOn b t) a_move i m.cell (nodes_of_waits m.waits) → (1 ≤ i → 1 ≤ m.cell) → is_move_at t i ≡ true
  move_is m a f =
      ⊎_elim (λ e. rw (eq-eqb i 0 e))
      (λ p. rw (ne_eqb i 0 (λ e. omega arith), ne_eqb (cell_in t i) 0 (λ e. omega (arith, a.here.weight.row.cell, f p))))
      (eq-zero-or-pos i)

  wait_is : (w : Wait) → At (WeighedOn b t) a_wait i 0 (nodes_of_moves w.moves) → 1 ≤ i → is_move_at t i ≡ false
  wait_is w a p = rw (ne_eqb i 0 (λ e. omega arith), eq-eqb (cell_in t i) 0 a.here.weight.row.cell)

  -- what is shown of a move where the test says so, and of a wait where it does not
  pub of_move : is_move_at t i ≡ true → (Q : TreeNode → Type 0) → ((m : Move) → MoveAt b t i m → Q (is_move m))
      → (n : TreeNode) → NodeAt b t i n → Q n
  of_move e Q f _ (move_at {m} a g) = f m (at_map on_row a)
  of_move e Q f _ (wait_at {w} a p g) = absurd (true≢false (sym e ∙ wait_is w a p))

  pub of_wait : is_move_at t i ≡ false → (Q : TreeNode → Type 0) → ((w : Wait) → WaitAt b t i w → w.moves ≢ no_moves → Q (is_wait w))
      → (n : TreeNode) → NodeAt b t i n → Q n
  of_wait e Q f _ (move_at {m} a g) = absurd (false≢true (sym e ∙ move_is m a g))
  of_wait e Q f _ (wait_at {w} a p g) = f w a g

  pub some_move : is_move_at t i ≡ true → SomeTreeNode b t i → SomeNode (RowOn b t) a_move i
  some_move e n = of_move e (λ _. SomeNode (RowOn b t) a_move i) (λ m a. record { cell = m.cell; under = nodes_of_waits m.waits; at = a }) n.node n.at

  pub some_wait : is_move_at t i ≡ false → SomeTreeNode b t i → SomeNode (WeighedOn b t) a_wait i
  some_wait e n =
      of_wait e (λ _. SomeNode (WeighedOn b t) a_wait i) (λ w a g. record { cell = 0; under = nodes_of_moves w.moves; at = a }) n.node n.at

  pub node_room : SomeTreeNode b t i → 4 * i + 3 < length t
  node_room n = go n.at
    where
      go : {k : TreeNode} → NodeAt b t i k → 4 * i + 3 < length t
      go (move_at a g) = a.here.weight.row.room
      go (wait_at a p g) = a.here.weight.row.room

  -- by what is asked of moves alone, or of waits alone: the smallest cell found where such a node stands, and none where none does
  pub least_move : (rows : List ℕ) (cell : ℕ) → cell ≡ smallest b (held b rows) → (faulty : Move → ℕ → Bool) → is_move_at t i ≡ true → FoundAtMove faulty b t i rows
      → (r : code.Option answered.Fault) → IsFault i cell r → FaultAt (at_moves faulty) b t i r
  least_move rows cell e faulty k f r is =
      of_move k (λ n. IsFault i (smallest b (at_moves faulty n)) r)
      (λ m a. subst (λ (c : ℕ). IsFault i c r) (e ∙ smallest_same b (held b rows) (faulty m) (λ x c. f m a x (cell_range b x c).0)) is)

  pub none_wait : (faulty : Move → ℕ → Bool) → is_move_at t i ≡ false → FaultAt (at_moves faulty) b t i code.None
  none_wait faulty k = of_wait k (λ n. smallest b (at_moves faulty n) ≡ 0) (λ w a g. none_smallest b)

  pub none_move : (faulty : Wait → ℕ → Bool) → is_move_at t i ≡ true → FaultAt (at_waits faulty) b t i code.None
  none_move faulty k = of_move k (λ n. smallest b (at_waits faulty n) ≡ 0) (λ m a. none_smallest b)

  -- a move with nothing under it is apart
  pub leaf_apart : under_in t i ≡ 0 → is_move_at t i ≡ true → FaultAt (at_moves not_apart) b t i code.None
  leaf_apart z k =
      of_move k (λ n. smallest b (at_moves not_apart n) ≡ 0)
      (λ m a. smallest_zero b (not_apart m) (λ x c h. none_under m.waits (sym a.here.row.under ∙ z) m refl x h))

  -- a move's own cell with a stone on it, and one without; a wait has no cell
  module _ (rows : List ℕ) (cell : ℕ) (is : cell ≡ cell_in t i) where
    pub stone_there : held b rows cell ≡ true → (r : code.Option answered.Fault) → IsFault i cell r → FaultAt (at_moves (not_free (held b rows))) b t i r
    stone_there e r f _ (move_at {m} a g) =
        let own : cell ≡ m.cell = is ∙ a.here.weight.row.cell in
        subst⁻¹ (λ (c : ℕ). IsFault i c r)
        (smallest_is b (not_free (held b rows) m) cell
        (record {
          is_cell_lem = held_cell b rows cell e;
          in_set = both (eqb cell m.cell) (held b rows cell) (holds_of (eq-eqb cell m.cell own)) (holds_of e);
          least = λ x k h. omega (arith, own, eqb→eq x m.cell (fst (eqb x m.cell) (held b rows x) h));
        })) f
    stone_there e r f _ (wait_at {w} a p g) = absurd (omega (arith, is, a.here.weight.row.cell, (cell_range b cell (held_cell b rows cell e)).0))

    pub stone_gone : held b rows cell ≡ false → FaultAt (at_moves (not_free (held b rows))) b t i code.None
    stone_gone e _ (move_at {m} a g) =
        smallest_zero b (not_free (held b rows) m)
        (λ x k h.
        let same : x ≡ cell = eqb→eq x m.cell (fst (eqb x m.cell) (held b rows x) h) ∙ sym (is ∙ a.here.weight.row.cell) in
        subst T e (subst (λ (y : ℕ). T (held b rows y)) same (snd (eqb x m.cell) (held b rows x) h)))
    stone_gone e _ (wait_at {w} a p g) = none_smallest b

  -- a move has no branch twice; a wait is looked through
  pub some_fork : is_move_at t i ≡ false → SomeTreeNode b t i → SomeFork t i
  some_fork e n = go n.at
    where
      go : {k : TreeNode} → NodeAt b t i k → SomeFork t i
      go (move_at {m} a g) = absurd (false≢true (sym e ∙ move_is m a g))
      go (wait_at {w} a p g) = record { its = w; at = at_map (λ k j c u r. r.weight) a }

  pub twice_move : is_move_at t i ≡ true → (n : TreeNode) → NodeAt b t i n → false ≡ twice_by n
  twice_move e = of_move e (λ n. false ≡ twice_by n) (λ m a. refl)

  pub twice_wait : is_move_at t i ≡ false → {r : Bool} → ((w : Wait) → ForkAt t i w → r ≡ twice (branches w.moves)) → (n : TreeNode) → NodeAt b t i n → r ≡ twice_by n
  twice_wait e h _ (move_at {m} a g) = absurd (false≢true (sym e ∙ move_is m a g))
  twice_wait e h _ (wait_at {w} a p g) = h w (at_map (λ k j c u r. r.weight) a)
