-- Laws of the open waits: a walk over the nodes finds them in the order of their lines, and a choice closes one and opens those under its move.
use mathlib.Core.Path.{◌≡◌, refl, ◌∙◌, subst}
use mathlib.Core.Logic.{◌⊎◌, ◌≢◌, inl, inr}
use Prim.Native.Nat.{ℕ, ◌+◌, ◌-◌, ◌*◌, ◌<◌, ◌≤◌}
use native.Mathlib.Nat.{eq-zero-or-pos}
use native.Mathlib.Omega.{arith}
use mathlib.Core.List.{List}
use lib.ListN.{length}
use Rattle.rules.specs.Tree.{Waits, no_waits, wait, Moves, no_moves, move, and_then}
use Rattle.rules.specs.Choice.{the_first, one_later, PlaceIn, cell_there, waits_there, Choice, taken, opened}
use Rattle.rules.specs.declared.Board.{Board}
use Rattle.nodes.specs.Nodes.{a_wait, a_move, size, nodes_of_waits, nodes_of_moves}
use Rattle.nodes.specs.Table.{count_in, Property, Each, At}
use Rattle.nodes.proofs.Trees.{wait_first, move_first}
use Rattle.answering.specs.Rows.{EndedOn, SameRows, with_mark, Clear, marked, LinedWaits, LinedMoves}
use Rattle.answering.specs.Marks.{OpenWait, Open, none_open, open_at}
use Rattle.answering.specs.Choosing.{node_there, wait_node, move_node}
use Rattle.answering.proofs.Rows.{same_twice, mark_rows, mark_there, mark_elsewhere, each_same, at_same, clear_within, clear_same, clear_none, clear_join, marked_rows, marked_before, marked_after}

module _ (base : ℕ) where
  -- the walk: no node from i up to m is an open wait
  pub open_pass : {b : Board} {t : List ℕ} {n i : ℕ} {ws : Waits} (m : ℕ) → i ≤ m → m ≤ n → ((k : ℕ) → i ≤ k → k < m → count_in t k ≢ 1) → Open base b t n i ws
      → Open base b t n m ws
  open_pass {n = n} m p q f (none_open r c) = none_open {i = m} q (clear_within m n p (omega arith) c)
  open_pass {b} {t} {n} m p q f (open_at {line = line} {ms = ms} {ws = ws} j r c o w) = go (eq-zero-or-pos (m - j))
    where
      go : (m - j ≡ 0) ⊎ (0 < m - j) → Open base b t n m (wait line ms ws)
      go (inl e) = open_at {i = m} j (omega arith) (clear_within m j p (omega arith) c) o w
      go (inr l) = absurd (f j r (omega arith) o.mark)

  -- the node at i is one
  pub record First (b : Board) (t : List ℕ) (n i : ℕ) (ws : Waits) : Type 0 where
    pub line : ℕ
    pub moves : Moves
    pub others : Waits
    pub are : ws ≡ wait line moves others
    pub here : OpenWait base b t i line moves
    pub rest : Open base b t n (i + 1 + size (nodes_of_moves moves)) others

  pub open_first : {b : Board} {t : List ℕ} {n i : ℕ} {ws : Waits} → i < n → (count_in t i ≡ 0 → ⊥) → Open base b t n i ws → First b t n i ws
  open_first {i = i} p m (none_open q c) = absurd (m (c.clear i (omega arith) p))
  open_first {b} {t} {n} {i} p m (open_at {line = line} {ms = ms} {ws = ws} j q c o r) = go (eq-zero-or-pos (j - i))
    where
      go : (j - i ≡ 0) ⊎ (0 < j - i) → First b t n i (wait line ms ws)
      go (inl e) =
          let f : j ≡ i = omega arith in
          record {
            line = line;
            moves = ms;
            others = ws;
            are = refl;
            here = subst (λ (z : ℕ). OpenWait base b t z line ms) f o;
            rest = subst (λ (z : ℕ). Open base b t n (z + 1 + size (nodes_of_moves ms)) ws) f r;
          }
      go (inr l) = absurd (m (c.clear i (omega arith) (omega arith)))

  -- the open waits end before n
  pub open_end : {b : Board} {t : List ℕ} {n i : ℕ} {ws : Waits} → Open base b t n i ws → i ≤ n
  open_end (none_open q c) = q
  open_end (open_at j q c o r) = omega (arith, open_end r)

  -- they depend on the rows and on the marks from i on
  pub wait_same : {b : Board} {t v : List ℕ} {j line : ℕ} {ms : Moves} → SameRows t v
      → ((m : ℕ) → j ≤ m → m < j + 1 + size (nodes_of_moves ms) → count_in v m ≡ count_in t m) → OpenWait base b t j line ms → OpenWait base b v j line ms
  wait_same {j = j} s f o =
      record {
        mark = f j (omega arith) (omega arith) ∙ o.mark;
        at = at_same s o.at;
        clear = clear_same (λ m lo hi. f m (omega arith) hi) o.clear;
        line_is = o.line_is;
        lined = o.lined;
      }

  open_same : {b : Board} {t v : List ℕ} {n i : ℕ} {ws : Waits} → SameRows t v → ((m : ℕ) → i ≤ m → count_in v m ≡ count_in t m) → Open base b t n i ws → Open base b v n i ws
  open_same s f (none_open q c) = none_open q (clear_same (λ m lo hi. f m lo) c)
  open_same s f (open_at j q c o r) =
      open_at j q (clear_same (λ m lo hi. f m lo) c) (wait_same s (λ m lo hi. f m (omega arith)) o) (open_same s (λ m lo. f m (omega arith)) r)

  -- unmarked nodes before them, and open waits before them
  open_earlier : {b : Board} {t : List ℕ} {n from : ℕ} {ws : Waits} (i : ℕ) → i ≤ from → Clear t i from → Open base b t n from ws → Open base b t n i ws
  open_earlier i p d (none_open q c) = none_open {i = i} (omega arith) (clear_join d c)
  open_earlier i p d (open_at j q c o r) = open_at {i = i} j (omega arith) (clear_join d c) o r

  open_then : {b : Board} {t : List ℕ} {n mid i : ℕ} {vs ws : Waits} → Open base b t mid i vs → Open base b t n mid ws → Open base b t n i (and_then vs ws)
  open_then {i = i} (none_open q c) r = open_earlier i q c r
  open_then (open_at j q c o s) r = open_at j q c o (open_then s r)

  -- waits side by side, all marked
  pub marked_open : {b : Board} {t : List ℕ} {i : ℕ} (ws : Waits) → Each (EndedOn b t) a_wait i (nodes_of_waits ws) → LinedWaits base i ws
      → Clear t i (i + size (nodes_of_waits ws)) → Open base b (marked (nodes_of_waits ws) i t) (i + size (nodes_of_waits ws)) i ws
  unfolding marked nodes_of_waits size LinedWaits
  marked_open {i = i} no_waits e l c = none_open {i = i} (omega arith) c
  marked_open {b} {t} {i} (wait line ms ws) e l c =
      let f = wait_first line ms ws e in
      let to = i + 1 + size (nodes_of_moves ms) in
      let one = with_mark t i 1 in
      let rows = same_twice (mark_rows t i 1) (marked_rows (nodes_of_waits ws) to one) in
      let ends : to + size (nodes_of_waits ws) ≡ i + size (nodes_of_waits (wait line ms ws)) = omega arith in
      let other : (m : ℕ) → i < m → count_in one m ≡ count_in t m = λ m p. mark_elsewhere t i 1 m (λ q. omega arith) in
      let later = marked_open {t = one} {i = to} ws (each_same (mark_rows t i 1) f.1) l.2
      (clear_same (λ m lo hi. other m (omega arith)) (clear_within to (to + size (nodes_of_waits ws)) (omega arith) (omega arith) c)) in
      open_at {i = i}
      i
      (omega arith)
      (clear_none _ i)
      (record {
        mark = marked_before (nodes_of_waits ws) to one i (omega arith) ∙ mark_there t i 1 f.0.here.row.room;
        at = at_same rows f.0;
        clear =
            clear_same {from = i + 1} {to = to} (λ m lo hi. marked_before (nodes_of_waits ws) to one m (omega arith) ∙ other m (omega arith))
            (clear_within (i + 1) to (omega arith) (omega arith) c);
        line_is = l.0;
        lined = l.1;
      })
      (subst (λ (z : ℕ). Open base b (marked (nodes_of_waits ws) to one) z to ws) ends later)

  -- a move at a place: its node, what is under it, and where
  module _ {P : Property} where
    pub place_at : {i : ℕ} (ms : Moves) (p : PlaceIn ms) → Each P a_move i (nodes_of_moves ms)
        → At P a_move (node_there i ms p) (cell_there ms p) (nodes_of_waits (waits_there ms p))
    unfolding node_there
    place_at no_moves p e = absurd p
    place_at (move line c ws ms) (the_first u) e = (move_first line c ws ms e).0
    place_at {i} (move line c ws ms) (one_later p) e = place_at {i = i + 1 + size (nodes_of_waits ws)} ms p (move_first line c ws ms e).1

  place_within : (i : ℕ) (ms : Moves) (p : PlaceIn ms)
      → (i ≤ node_there i ms p) × (node_there i ms p + 1 + size (nodes_of_waits (waits_there ms p)) ≤ i + size (nodes_of_moves ms))
  unfolding node_there nodes_of_waits size
  place_within i no_moves p = absurd p
  place_within i (move line c ws ms) (the_first u) = (omega arith, omega arith)
  place_within i (move line c ws ms) (one_later p) =
      let h = place_within (i + 1 + size (nodes_of_waits ws)) ms p in
      (omega (arith, h.0), omega (arith, h.1))

  place_lined : (i : ℕ) (ms : Moves) (p : PlaceIn ms) → LinedMoves base i ms → LinedWaits base (node_there i ms p + 1) (waits_there ms p)
  unfolding node_there LinedWaits
  place_lined i no_moves p l = absurd p
  place_lined i (move line c ws ms) (the_first u) l = l.1
  place_lined i (move line c ws ms) (one_later p) l = place_lined (i + 1 + size (nodes_of_waits ws)) ms p l.2

  -- the waits under the chosen move
  unfoldable pub under_chosen : (ws : Waits) → Choice ws → Waits
  under_chosen no_waits k = absurd k
  under_chosen (wait line ms ws) (the_first p) = waits_there ms p
  under_chosen (wait line ms ws) (one_later k) = under_chosen ws k

  -- the table after the chosen wait is closed and the waits under the chosen move are opened
  abbrev pub after : List ℕ → (ws : Waits) → Choice ws → List ℕ
  after t ws k = marked (nodes_of_waits (under_chosen ws k)) (move_node base ws k + 1) (with_mark t (wait_node base ws k) 0)

  pub after_rows : (t : List ℕ) (ws : Waits) (k : Choice ws) → SameRows t (after t ws k)
  after_rows t ws k = same_twice (mark_rows t (wait_node base ws k) 0) (marked_rows (nodes_of_waits (under_chosen ws k)) (move_node base ws k + 1) (with_mark t (wait_node base ws k) 0))

  -- where the chosen wait and the chosen move stand
  pub record Nodes-of (b : Board) (t : List ℕ) (n i : ℕ) (ws : Waits) (k : Choice ws) : Type 0 where
    pub from : i ≤ wait_node base ws k
    pub below : wait_node base ws k < move_node base ws k
    pub within : move_node base ws k + 1 + size (nodes_of_waits (under_chosen ws k)) ≤ n
    pub room : 4 * wait_node base ws k + 3 < length t
    pub move_at : At (EndedOn b t) a_move (move_node base ws k) (taken ws k) (nodes_of_waits (under_chosen ws k))

  pub choice_nodes : {b : Board} {t : List ℕ} {n i : ℕ} (ws : Waits) (k : Choice ws) → Open base b t n i ws → Nodes-of b t n i ws k
  unfolding wait_node move_node under_chosen
  choice_nodes no_waits k o = absurd k
  choice_nodes {b} {t} (wait line ms ws) (the_first p) (open_at j q c o r) =
      let e : line - base ≡ j = omega (arith, o.line_is) in
      let w = place_within (j + 1) ms p in
      record {
        from = omega arith;
        below = rw e (omega (arith, w.0));
        within = rw e (omega (arith, w.1, open_end r));
        room = rw e o.at.here.row.room;
        move_at = rw e (place_at ms p o.at.below);
      }
  choice_nodes {i = i} (wait line ms ws) (one_later k) (open_at j q c o r) =
      let h = choice_nodes {i = j + 1 + size (nodes_of_moves ms)} ws k r in
      record { from = omega (arith, h.from); below = h.below; within = h.within; room = h.room; move_at = h.move_at }

  -- the open waits after a choice: under the wait at node j, or under a later one
  open_here : {b : Board} {t : List ℕ} {n i j line : ℕ} (ms : Moves) (ws : Waits) (p : PlaceIn ms) → i ≤ j → Clear t i j → OpenWait base b t j line ms
      → Open base b t n (j + 1 + size (nodes_of_moves ms)) ws
      → Open base b (marked (nodes_of_waits (waits_there ms p)) (node_there (j + 1) ms p + 1) (with_mark t j 0)) n i (and_then (waits_there ms p) ws)
  open_here {b} {t} {n} {i} {j} ms ws p q c o r =
      let us = waits_there ms p in
      let m = node_there (j + 1) ms p in
      let to = m + 1 + size (nodes_of_waits us) in
      let one = with_mark t j 0 in
      let v = marked (nodes_of_waits us) (m + 1) one in
      let w = place_within (j + 1) ms p in
      let other : (x : ℕ) → j < x → count_in one x ≡ count_in t x = λ x h. mark_elsewhere t j 0 x (λ e. omega arith) in
      let under : Clear one (j + 1) (j + 1 + size (nodes_of_moves ms)) = clear_same (λ x lo hi. other x (omega arith)) o.clear in
      let past : (x : ℕ) → to ≤ x → count_in v x ≡ count_in t x = λ x h. marked_after (nodes_of_waits us) (m + 1) one x h ∙ other x (omega (arith, w.0)) in
      let opens = marked_open us (each_same (mark_rows t j 0) (place_at ms p o.at.below).below) (place_lined (j + 1) ms p o.lined)
      (clear_within (m + 1) to (omega (arith, w.0)) w.1 under) in
      let rest = open_same (same_twice (mark_rows t j 0) (marked_rows (nodes_of_waits us) (m + 1) one)) (λ x lo. past x (omega (arith, w.1))) r in
      let between : Clear v to (j + 1 + size (nodes_of_moves ms)) = clear_same (λ x lo hi. marked_after (nodes_of_waits us) (m + 1) one x lo)
      (clear_within to (j + 1 + size (nodes_of_moves ms)) (omega (arith, w.0)) (omega arith) under) in
      let closed : Clear one j (j + 1) = record { clear = λ x lo hi. let e : x ≡ j = omega arith in rw e (mark_there t j 0 o.at.here.row.room) } in
      let first : Clear one i j = clear_same (λ x lo hi. mark_elsewhere t j 0 x (λ e. omega arith)) c in
      let before : Clear v i (m + 1) = clear_same (λ x lo hi. marked_before (nodes_of_waits us) (m + 1) one x hi)
      (clear_join first (clear_join closed (clear_within (j + 1) (m + 1) (omega arith) (omega (arith, w.1)) under))) in
      open_earlier i (omega (arith, w.0)) before (open_then opens (open_earlier to (omega (arith, w.1)) between rest))

  pub opened_open : {b : Board} {t : List ℕ} {n i : ℕ} (ws : Waits) (k : Choice ws) → Open base b t n i ws → Open base b (after t ws k) n i (opened ws k)
  unfolding wait_node move_node under_chosen
  opened_open no_waits k o = absurd k
  opened_open (wait line ms ws) (the_first p) (open_at j q c o r) =
      let e : line - base ≡ j = omega (arith, o.line_is) in
      rw e (open_here ms ws p q c o r)
  opened_open {b} {t} {n} {i} (wait line ms ws) (one_later k) (open_at j q c o r) =
      let h = choice_nodes ws k r in
      let before : (m : ℕ) → m < wait_node base ws k → count_in (after t ws k) m ≡ count_in t m
      = λ m l. marked_before (nodes_of_waits (under_chosen ws k)) (move_node base ws k + 1) (with_mark t (wait_node base ws k) 0) m (omega (arith, h.below))
      ∙ mark_elsewhere t (wait_node base ws k) 0 m (λ e. omega arith) in
      open_at j q
      (clear_same (λ m lo hi. before m (omega (arith, h.from))) c)
      (wait_same (after_rows t ws k) (λ m lo hi. before m (omega (arith, h.from))) o)
      (opened_open {i = j + 1 + size (nodes_of_moves ms)} ws k r)
