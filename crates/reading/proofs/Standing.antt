-- Storing and reading come to the same: where rules reads a node, the table holds it; where rules refuses, the code does.
use mathlib.Core.Path.{◌≡◌, refl, ap, ◌∙◌, subst, subst⁻¹}
use Prim.Native.Nat.{ℕ, zero, suc, ◌+◌, ◌*◌, ◌≤◌, ◌<◌}
use native.Mathlib.Omega.{arith}
use mathlib.Core.List.{List, [], ◌∷◌}
use lib.ListN.{length, set, length-set}
use Rattle.rules.specs.Sizes.{most_nodes, least_workspace}
use Rattle.rules.specs.Text.{Reader}
use Rattle.rules.specs.Lines.{Line, wait_line, move_line, reader_of, kind_under}
use Rattle.rules.specs.Tree.{Wait, Move, as_waits, as_moves}
use Rattle.rules.specs.Reading.{Result, refused, got, Spot, Reading, Node, go, give, cell_of, node_line, in_turn, read_move, read_wait}
use Rattle.rules.specs.declared.Board.{Board}
use Rattle.rules.proofs.Lines.{wait_says}
use Rattle.rules.proofs.Reading.{NodeRead, node_read}
use Rattle.nodes.specs.Nodes.{Nodes, no_nodes, node, many, size, nodes_of_waits, nodes_of_moves}
use Rattle.nodes.specs.Nodes as N
use Rattle.nodes.specs.Table.{with_node, Row, Each, nothing, first, At, Stand}
use Rattle.nodes.proofs.Table.{Agree, agree_within, agree_then, row_agree, stand_agree, stored_row, stored_before}
use Rattle.rules.specs.declared.LineKind.{LineKind}
use Rattle.rules.specs.declared.LineKind.TheVariants as K
use Rattle.reading.specs.Storing.{Stored, store_all, store_under, store_node}

-- there is room in the table for the nodes that the reading may still give
pub record Fine (s : Spot) (t : List ℕ) : Type 0 where
  pub few : s.nodes ≤ most_nodes
  pub long : length t ≡ least_workspace

agree_refl : (t : List ℕ) (from to : ℕ) → Agree t t from to
agree_refl t from to = record { long = refl; same = λ m lo hi. refl }

-- a node that was stored: it stands there with all under it, and what stood before it stays
pub record NodeStored (k : N.Kind) (t : List ℕ) (i c : ℕ) (u : Nodes) (after : Spot) (s : Stored) : Type 0 where
  pub reply_is : s.reply ≡ got after
  pub stands : At (Row s.table) k i c u
  pub next_is : after.nodes ≡ i + 1 + size u
  pub before : Agree t s.table 0 i
  pub fine : Fine after s.table

-- nodes side by side
record AllStored (k : N.Kind) (t : List ℕ) (i : ℕ) (n : Nodes) (after : Spot) (s : Stored) : Type 0 where
  reply_is : s.reply ≡ got after
  stand : Stand s.table k i n
  next_is : after.nodes ≡ i + size n
  before : Agree t s.table 0 i
  fine : Fine after s.table

module _ {X : Type 0} (k : N.Kind) (cell : X → ℕ) (under : X → Nodes) where
  nodes_of : List X → Nodes
  nodes_of [] = no_nodes
  nodes_of (x ∷ xs) = node (cell x) (under x) (nodes_of xs)

  many_of : (xs : List X) → many (nodes_of xs) ≡ length xs
  unfolding nodes_of many
  many_of [] = refl
  many_of (x ∷ xs) = ap suc (many_of xs)

  -- what storing comes to beside a reading of one, and of some
  unfoldable pub OneSame : List ℕ → ℕ → Result (X × Spot) → Stored → Type 0
  OneSame t i (refused v) s = s.reply ≡ refused v
  OneSame t i (got x) s = NodeStored k t i (cell x.0) (under x.0) x.1 s

  SomeSame : ℕ → List ℕ → ℕ → Result (List X × Spot) → Stored → Type 0
  SomeSame n t i (refused v) s = s.reply ≡ refused v
  SomeSame n t i (got x) s = AllStored k t i (nodes_of x.0) x.1 s × (length x.0 ≡ n)

  module _ (one : Reading X) (store : Spot → List ℕ → Stored) (same : (s : Spot) (t : List ℕ) → Fine s t → OneSame t s.nodes (one s) (store s t)) where
    -- the first was stored, and then the others
    more_same : (n : ℕ) (s : Spot) (t : List ℕ) (x : X) (u : Spot) → NodeStored k t s.nodes (cell x) (under x) u (store s t)
        → (r : Result (List X × Spot)) (st : Stored) → SomeSame n (store s t).table u.nodes r st
        → SomeSame (suc n) t s.nodes (go r (λ xs. give (x ∷ xs))) st
    unfolding SomeSame go give nodes_of
    more_same n s t x u a (refused v) st h = h
    more_same n s t x u a (got y) st h = (
      record {
        reply_is = h.0.reply_is;
        stand =
            let b : Agree (store s t).table st.table 0 u.nodes = h.0.before in
            first
            (row_agree b (omega arith) (omega (arith, a.next_is)) a.stands.here)
            (stand_agree (agree_within (omega arith) (omega (arith, a.next_is)) b) a.stands.below)
            (subst (λ (i : ℕ). Each (Row st.table) k i (nodes_of y.0)) a.next_is h.0.stand);
        next_is = unfold size in omega (arith, h.0.next_is, a.next_is);
        before = agree_then a.before (agree_within (omega arith) (omega (arith, a.next_is)) h.0.before);
        fine = h.0.fine;
      },
      ap suc h.1,
    )

    some_step : (n : ℕ) (s : Spot) (t : List ℕ) (r : Result (X × Spot)) → one s ≡ r → OneSame t s.nodes r (store s t)
        → ((u : Spot) → Fine u (store s t).table → SomeSame n (store s t).table u.nodes (in_turn n one u) (store_all n store u (store s t).table))
        → SomeSame (suc n) t s.nodes (in_turn (suc n) one s) (store_all (suc n) store s t)
    unfolding in_turn store_all OneSame SomeSame go
    some_step n s t (refused v) e h ih = rw (e, h, store_all)
    some_step n s t (got x) e h ih =
        rw (e, h.reply_is, store_all) (more_same n s t x.0 x.1 h (in_turn n one x.1) (store_all n store x.1 (store s t).table) (ih x.1 h.fine))

    some_same : (n : ℕ) (s : Spot) (t : List ℕ) → Fine s t → SomeSame n t s.nodes (in_turn n one s) (store_all n store s t)
    unfolding in_turn store_all SomeSame give nodes_of
    some_same zero s t f = (
      record { reply_is = refl; stand = nothing; next_is = unfold size in omega arith; before = agree_refl t 0 s.nodes; fine = f },
      refl,
    )
    some_same (suc n) s t f = some_step n s t (one s) refl (same s t f) (λ u g. some_same n u (store s t).table g)

-- a line that was stored, and the nodes under it
under_stored : (above : N.Kind) (t : List ℕ) (s : Spot) (c n : ℕ) (u : Nodes) (next after : Spot) (st : Stored) → Fine s t → s.nodes < most_nodes → next.nodes ≡ s.nodes + 1
    → many u ≡ n → AllStored (N.other above) (with_node t s.nodes c n) next.nodes u after st → NodeStored above t s.nodes c u after st
under_stored above t s c n u next after st f few e m a =
    let b : Agree (with_node t s.nodes c n) st.table 0 next.nodes = a.before in
    record {
      reply_is = a.reply_is;
      stands =
          record {
            here = row_agree b (omega arith) (omega (arith, e)) (stored_row t above s.nodes c n u (omega (arith, f.long)) m);
            below = subst (λ (i : ℕ). Each (Row st.table) (N.other above) i u) e a.stand;
          };
      next_is = omega (arith, a.next_is, e);
      before = agree_then (stored_before t s.nodes c n 0 s.nodes (omega arith)) (agree_within (omega arith) (omega (arith, e)) b);
      fine = a.fine;
    }

-- the nodes of waits, and of moves, read in turn
waits_of : (ws : List Wait) → nodes_of_waits (as_waits ws) ≡ nodes_of N.a_wait (λ w. 0) (λ w. nodes_of_moves w.moves) ws
unfolding nodes_of_waits as_waits nodes_of
waits_of [] = refl
waits_of (w ∷ ws) = ap (node 0 (nodes_of_moves w.moves)) (waits_of ws)

moves_of : (ms : List Move) → nodes_of_moves (as_moves ms) ≡ nodes_of N.a_move (λ m. m.cell) (λ m. nodes_of_waits m.waits) ms
unfolding nodes_of_moves as_moves nodes_of
moves_of [] = refl
moves_of (m ∷ ms) = ap (node m.cell (nodes_of_waits m.waits)) (moves_of ms)

-- a node that was read was not one too many
not_last : {b : Board} {r : Reader Line} {levels : ℕ} {s : Spot} {n : Node} {u : Spot} {t : List ℕ} → NodeRead b r levels s n u → Fine s t → s.nodes < most_nodes
not_last h f = omega (arith, h.not_full, f.few)

-- the table keeps its length
pub length_node : (t : List ℕ) (i c n : ℕ) → length (with_node t i c n) ≡ length t
length_node t i c n = length-set (set t (4 * i + 1) n) (4 * i) c ∙ length-set t (4 * i + 1) n

-- the spot after the line is fine, with the line stored
line_fine : {b : Board} {r : Reader Line} {levels : ℕ} {s : Spot} {n : Node} {u : Spot} {t : List ℕ} → NodeRead b r levels s n u → Fine s t
    → Fine u (with_node t s.nodes n.cell n.under)
line_fine {s = s} {n = n} {t = t} h f =
    record { few = omega (arith, h.nodes_after, not_last h f); long = length_node t s.nodes n.cell n.under ∙ f.long }

abbrev pub MoveSame : List ℕ → ℕ → Result (Move × Spot) → Stored → Type 0
MoveSame = OneSame N.a_move (λ m. m.cell) (λ m. nodes_of_waits m.waits)

abbrev WaitSame : List ℕ → ℕ → Result (Wait × Spot) → Stored → Type 0
WaitSame = OneSame N.a_wait (λ w. 0) (λ w. nodes_of_moves w.moves)

-- a wait's line names no cell
wait_cell : {b : Board} {levels : ℕ} {s : Spot} {n : Node} {u : Spot} → NodeRead b wait_line levels s n u → n.cell ≡ 0
unfolding cell_of
wait_cell {b} {s = s} r = r.its_cell ∙ ap (cell_of b) (wait_says s.text r.line_read r.by_reader).0

module _ (levels : ℕ) (b : Board) (s : Spot) (t : List ℕ) (f : Fine s t) where
  move_under : (j : LineKind) (n : Node) (u : Spot) → NodeRead b (reader_of j) (suc levels) s n u → (q : Result (List Wait × Spot)) (st : Stored)
      → SomeSame N.a_wait (λ w. 0) (λ w. nodes_of_moves w.moves) n.under (with_node t s.nodes n.cell n.under) u.nodes q st
      → MoveSame t s.nodes (go q (λ ws. give (record { line = n.line; cell = n.cell; waits = as_waits ws }))) st
  unfolding OneSame SomeSame go give
  move_under j n u r (refused v) st h = h
  move_under j n u r (got x) st h =
      subst⁻¹ (λ (z : Nodes). NodeStored N.a_move t s.nodes n.cell z x.1 st) (waits_of x.0)
      (under_stored N.a_move t s n.cell n.under _ u x.1 st f (not_last r f) r.nodes_after (many_of N.a_wait (λ w. 0) (λ w. nodes_of_moves w.moves) x.0 ∙ h.1) h.0)

  wait_under : (n : Node) (u : Spot) → NodeRead b wait_line (suc levels) s n u → (q : Result (List Move × Spot)) (st : Stored)
      → SomeSame N.a_move (λ m. m.cell) (λ m. nodes_of_waits m.waits) n.under (with_node t s.nodes n.cell n.under) u.nodes q st
      → WaitSame t s.nodes (go q (λ ms. give (record { line = n.line; moves = as_moves ms }))) st
  unfolding OneSame SomeSame go give
  wait_under n u r (refused v) st h = h
  wait_under n u r (got x) st h =
      subst (λ (c : ℕ). NodeStored N.a_wait t s.nodes c (nodes_of_moves (as_moves x.0)) x.1 st) (wait_cell r)
      (subst⁻¹ (λ (z : Nodes). NodeStored N.a_wait t s.nodes n.cell z x.1 st) (moves_of x.0)
      (under_stored N.a_wait t s n.cell n.under _ u x.1 st f (not_last r f) r.nodes_after (many_of N.a_move (λ m. m.cell) (λ m. nodes_of_waits m.waits) x.0 ∙ h.1) h.0))

mutual
  unfolding read_move store_node store_under OneSame go

  -- a move, the first one or another
  pub moves_same : (levels : ℕ) (j : LineKind) → kind_under j ≡ K.Wait → (b : Board) (s : Spot) (t : List ℕ) → Fine s t
      → MoveSame t s.nodes (read_move levels b (reader_of j) s) (store_node levels j b s t)
  moves_same zero j e b s t f = by_line (node_line b (reader_of j) zero s) refl
    where
      by_line : (r : Result (Node × Spot)) → node_line b (reader_of j) zero s ≡ r → MoveSame t s.nodes (read_move zero b (reader_of j) s) (store_node zero j b s t)
      by_line (refused v) q = rw q
      by_line (got x) q = absurd (omega (arith, (node_read b (reader_of j) zero s x q).level_left))
  moves_same (suc levels) j e b s t f = by_line (node_line b (reader_of j) (suc levels) s) refl (λ u v g. waits_same levels b u v g)
    where
      by_line : (r : Result (Node × Spot)) → node_line b (reader_of j) (suc levels) s ≡ r
          → ((u : Spot) (v : List ℕ) → Fine u v → WaitSame v u.nodes (read_wait levels b u) (store_node levels K.Wait b u v))
          → MoveSame t s.nodes (read_move (suc levels) b (reader_of j) s) (store_node (suc levels) j b s t)
      by_line (refused v) q ih = rw q
      by_line (got x) q ih =
          let n = node_read b (reader_of j) (suc levels) s x q in
          rw (q, e)
          (move_under levels b s t f j x.0 x.1 n (in_turn x.0.under (read_wait levels b) x.1) _
          (some_same N.a_wait (λ w. 0) (λ w. nodes_of_moves w.moves) (read_wait levels b) (store_node levels K.Wait b) ih x.0.under x.1
          (with_node t s.nodes x.0.cell x.0.under) (line_fine n f)))

  waits_same : (levels : ℕ) (b : Board) (s : Spot) (t : List ℕ) → Fine s t → WaitSame t s.nodes (read_wait levels b s) (store_node levels K.Wait b s t)
  waits_same zero b s t f = by_line (node_line b wait_line zero s) refl
    where
      by_line : (r : Result (Node × Spot)) → node_line b wait_line zero s ≡ r → WaitSame t s.nodes (read_wait zero b s) (store_node zero K.Wait b s t)
      by_line (refused v) q = rw q
      by_line (got x) q = absurd (omega (arith, (node_read b wait_line zero s x q).level_left))
  waits_same (suc levels) b s t f = by_line (node_line b wait_line (suc levels) s) refl (λ u v g. moves_same levels K.Move refl b u v g)
    where
      by_line : (r : Result (Node × Spot)) → node_line b wait_line (suc levels) s ≡ r
          → ((u : Spot) (v : List ℕ) → Fine u v → MoveSame v u.nodes (read_move levels b move_line u) (store_node levels K.Move b u v))
          → WaitSame t s.nodes (read_wait (suc levels) b s) (store_node (suc levels) K.Wait b s t)
      by_line (refused v) q ih = rw q
      by_line (got x) q ih =
          let n = node_read b wait_line (suc levels) s x q in
          rw q
          (wait_under levels b s t f x.0 x.1 n (in_turn x.0.under (read_move levels b move_line) x.1) _
          (some_same N.a_move (λ m. m.cell) (λ m. nodes_of_waits m.waits) (read_move levels b move_line) (store_node levels K.Move b) ih x.0.under x.1
          (with_node t s.nodes x.0.cell x.0.under) (line_fine n f)))
