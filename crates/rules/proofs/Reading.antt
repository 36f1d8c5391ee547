-- What reading gives, node by node: the text that is written of them, and what `WellRead` asks of them.
use mathlib.Core.Path.{◌≡◌, refl, sym, ap, subst, subst⁻¹, ◌∙◌}
use mathlib.Core.Logic.{◌≢◌, ◌⊎◌, inl, inr, ⊎_elim}
use Prim.Native.Nat.{ℕ, zero, suc, ◌+◌, ◌-◌, ◌≤◌}
use mathlib.Core.Bool.{Bool, true, false}
use mathlib.Core.List.{List, [], ◌∷◌, ◌++◌, append_assoc}
use mathlib.Core.Option.{Option, none, some, IsSome}
use lib.Dec.{T, leb, leb→le}
use lib.ListN.{length}
use borrow.Author.Tests.{leb-false}
use native.Mathlib.Nat.{eq-zero-or-pos}
use native.Mathlib.Omega.{arith}
use Rattle.rules.specs.Sizes.{most_nodes}
use Rattle.rules.specs.Board.{is_cell}
use Rattle.rules.specs.Text.{Bytes, Reader}
use Rattle.rules.specs.Lines.{Place, Line, move_line, wait_line}
use Rattle.rules.specs.Tree.{Waits, no_waits, wait, Moves, no_moves, move, Wait, Move, as_waits, as_moves}
use Rattle.rules.specs.Written.{place_of, how_many_waits, how_many_moves, written_move, written_wait, written_waits, written_moves}
use Rattle.rules.specs.Reading.{Result, got, Spot, Reading, give, within, cell_of, Node, node_here, node_line, in_turn, read_move, read_wait}
use Rattle.rules.specs.declared.Board.{Board}
use Rattle.rules.proofs.Joining.{cell_on_lem}
use Rattle.rules.proofs.Steps.{not_refused, got_inj, go_got}
use Rattle.rules.proofs.NodeLine.{LineSeen, sees_end, sees_many, sees_bad, sees_deep, sees_off, sees_line, line_seen_lem}
use Rattle.rules.proofs.Lines.{move_is, wait_says, place_again}

-- A node line that was read: what its reader gave, on the board, with a level left, and the spot after it
pub record NodeRead (b : Board) (r : Reader Line) (levels : ℕ) (s : Spot) (n : Node) (after : Spot) : Type 0 where
  pub line_read : Line × Bytes
  pub by_reader : r s.text ≡ some line_read
  pub inside : T (within b line_read.0.place)
  pub its_line : n.line ≡ s.line
  pub its_cell : n.cell ≡ cell_of b line_read.0.place
  pub its_under : n.under ≡ line_read.0.under
  pub level_left : 1 ≤ levels
  pub text_after : after.text ≡ line_read.1
  pub line_after : after.line ≡ s.line + 1
  pub nodes_after : after.nodes ≡ s.nodes + 1
  pub not_full : s.nodes ≢ most_nodes

seen_read : (b : Board) (r : Reader Line) (levels : ℕ) (s : Spot) (q : Result (Node × Spot)) (y : Node × Spot) → LineSeen b r levels s q → q ≡ got y
    → NodeRead b r levels s y.0 y.1
unfolding node_here
seen_read b r levels s _ y (sees_end h) e = absurd (not_refused e)
seen_read b r levels s _ y (sees_many t h) e = absurd (not_refused e)
seen_read b r levels s _ y (sees_bad l h) e = absurd (not_refused e)
seen_read b r levels s _ y (sees_deep l x h z) e = absurd (not_refused e)
seen_read b r levels s _ y (sees_off l x h z w) e = absurd (not_refused e)
seen_read b r levels s _ y (sees_line l x h z w) e =
    subst (λ (n : Node × Spot). NodeRead b r levels s n.0 n.1) (got_inj e)
    (record {
      line_read = x;
      by_reader = h;
      inside = w;
      its_line = refl;
      its_cell = refl;
      its_under = refl;
      level_left = ⊎_elim (λ k. absurd (z k)) (λ k. k) (eq-zero-or-pos levels);
      text_after = refl;
      line_after = refl;
      nodes_after = refl;
      not_full = l.not_full;
    })

pub node_read : (b : Board) (r : Reader Line) (levels : ℕ) (s : Spot) (y : Node × Spot) → node_line b r levels s ≡ got y → NodeRead b r levels s y.0 y.1
node_read b r levels s y h = seen_read b r levels s _ y (line_seen_lem b r levels s) h

-- the cell of a node that was read: none, or one of the board; a move's line names one
pub cell_read : (b : Board) (o : Option Place) → T (within b o) → (cell_of b o ≡ 0) ⊎ T (is_cell b (cell_of b o))
unfolding within cell_of
cell_read b none h = inl refl
cell_read b (some p) h = inr (cell_on_lem b p.column p.row h)

cell_named : (b : Board) (o : Option Place) → IsSome o → T (within b o) → T (is_cell b (cell_of b o))
unfolding within cell_of
cell_named b none i h = absurd i
cell_named b (some p) i h = cell_on_lem b p.column p.row h

-- how many nodes there are
unfoldable mutual
  pub nodes_in_waits : Waits → ℕ
  nodes_in_waits no_waits = 0
  nodes_in_waits (wait line ms ws) = 1 + nodes_in_moves ms + nodes_in_waits ws

  pub nodes_in_moves : Moves → ℕ
  nodes_in_moves no_moves = 0
  nodes_in_moves (move line c ws ms) = 1 + nodes_in_waits ws + nodes_in_moves ms

-- A tree as the reading gives it, from a line on and with so many levels left
unfoldable mutual
  pub ReadWaits : Waits → Board → (levels from : ℕ) → Type 0
  ReadWaits no_waits b levels from = Unit {0}
  ReadWaits (wait line ms ws) b levels from =
      ((line ≡ from) × (1 ≤ levels) × (ms ≢ no_moves) × ReadMoves ms b (levels - 1) (from + 1)) × ReadWaits ws b levels (from + 1 + nodes_in_moves ms)

  pub ReadMoves : Moves → Board → (levels from : ℕ) → Type 0
  ReadMoves no_moves b levels from = Unit {0}
  ReadMoves (move line c ws ms) b levels from =
      ((line ≡ from) × (1 ≤ levels) × T (is_cell b c) × ReadWaits ws b (levels - 1) (from + 1)) × ReadMoves ms b levels (from + 1 + nodes_in_waits ws)

-- the spot after n nodes more, which are not too many, and after their text
pub record Went (s after : Spot) (text : Bytes) (n : ℕ) : Type 0 where
  pub text_went : s.text ≡ text ++ after.text
  pub line_went : after.line ≡ s.line + n
  pub nodes_went : after.nodes ≡ s.nodes + n
  pub still_few : s.nodes ≤ most_nodes → after.nodes ≤ most_nodes

went_none : (s : Spot) → Went s s [] 0
went_none s = record { text_went = refl; line_went = omega arith; nodes_went = omega arith; still_few = λ h. h }

went_both : {s u v : Spot} {p q : Bytes} {m n : ℕ} → Went s u p m → Went u v q n → Went s v (p ++ q) (m + n)
went_both {s} {u} {v} {p} {q} a b =
    record {
      text_went = a.text_went ∙ ap (λ (t : Bytes). p ++ t) b.text_went ∙ sym (append_assoc p q v.text);
      line_went = omega (arith, a.line_went, b.line_went);
      nodes_went = omega (arith, a.nodes_went, b.nodes_went);
      still_few = λ h. b.still_few (a.still_few h);
    }

went_node : (b : Board) (r : Reader Line) (levels : ℕ) (s : Spot) (n : Node) (after : Spot) (text : Bytes) (h : NodeRead b r levels s n after)
    → s.text ≡ text ++ h.line_read.1 → Went s after text 1
went_node b r levels s n after text h e =
    record {
      text_went = e ∙ ap (λ (t : Bytes). text ++ t) (sym h.text_after);
      line_went = h.line_after;
      nodes_went = h.nodes_after;
      still_few = λ l. few s.nodes l h.nodes_after h.not_full;
    }
  where
    few : (k : ℕ) → k ≤ most_nodes → after.nodes ≡ k + 1 → k ≢ most_nodes → after.nodes ≤ most_nodes
    few k l e ne = go (leb (suc k) most_nodes) refl
      where
        go : (t : Bool) → leb (suc k) most_nodes ≡ t → after.nodes ≤ most_nodes
        go true q = omega (arith, e, leb→le (suc k) most_nodes (subst⁻¹ T q tt))
        go false q = absurd (ne (omega (arith, leb-false (suc k) most_nodes q)))

-- one after another
data Turns {X : Type 0} (one : Reading X) : Spot → List X → Spot → Type 0 where
  last : {s : Spot} → Turns one s [] s
  more : {s u v : Spot} {x : X} {xs : List X} → one s ≡ got (x, u) → Turns one u xs v → Turns one s (x ∷ xs) v

turns : {X : Type 0} (n : ℕ) (one : Reading X) (s : Spot) (y : List X × Spot) → in_turn n one s ≡ got y → Turns one s y.0 y.1 × (length y.0 ≡ n)
unfolding in_turn give
turns {X} zero one s y e = subst (λ (z : List X × Spot). Turns one s z.0 z.1 × (length z.0 ≡ 0)) (got_inj e) (last, refl)
turns {X} (suc n) one s y e =
    let p = go_got (one s) _ y e in
    let q = go_got (in_turn n one p.0.1) _ y p.2 in
    let t = turns n one p.0.1 q.0 q.1 in
    subst (λ (z : List X × Spot). Turns one s z.0 z.1 × (length z.0 ≡ suc n)) (got_inj q.2) (more p.1 t.0, ap suc t.1)

-- a reader of a move's line, which reads what is written
pub record Writes (r : Reader Line) : Type 0 where
  pub of : (t : Bytes) (y : Line × Bytes) → r t ≡ some y → t ≡ written_move y.0.place y.0.under ++ y.1

-- what reading one wait, and one move, promises
pub record WaitRead (b : Board) (levels : ℕ) (s : Spot) (w : Wait) (after : Spot) : Type 0 where
  pub line_of : w.line ≡ s.line
  pub level_of : 1 ≤ levels
  pub some_of : w.moves ≢ no_moves
  pub moves_of : ReadMoves w.moves b (levels - 1) (s.line + 1)
  pub went_of : Went s after (written_wait (how_many_moves w.moves) ++ written_moves b w.moves) (1 + nodes_in_moves w.moves)

pub record MoveRead (b : Board) (r : Reader Line) (levels : ℕ) (s : Spot) (m : Move) (after : Spot) : Type 0 where
  pub line_of : m.line ≡ s.line
  pub level_of : 1 ≤ levels
  pub node_of : (n : Node) × (u : Spot) × NodeRead b r levels s n u × (m.cell ≡ n.cell)
  pub waits_of : ReadWaits m.waits b (levels - 1) (s.line + 1)
  pub went_of : Went s after (written_move (place_of b m.cell) (how_many_waits m.waits) ++ written_waits b m.waits) (1 + nodes_in_waits m.waits)

waits_turned : (b : Board) (levels : ℕ) (one : Reading Wait) → ((s : Spot) (w : Wait) (u : Spot) → one s ≡ got (w, u) → WaitRead b levels s w u)
    → {s v : Spot} {ws : List Wait} → Turns one s ws v → ReadWaits (as_waits ws) b levels s.line × Went s v (written_waits b (as_waits ws)) (nodes_in_waits (as_waits ws))
unfolding ReadWaits as_waits nodes_in_waits written_waits
waits_turned b levels one h {s = s} last = (tt, went_none s)
waits_turned b levels one h {s = s} {v = v} (more {u = u} {x = w} {xs = ws} e t) =
    let a = h s w u e in
    let g = waits_turned b levels one h t in
    let at : u.line ≡ s.line + 1 + nodes_in_moves w.moves = omega (arith, a.went_of.line_went) in (
      ((a.line_of, a.level_of, a.some_of, a.moves_of), subst (ReadWaits (as_waits ws) b levels) at g.0),
      went_both a.went_of g.1,
    )

-- a move's line names its cell
move_cell : (b : Board) (levels : ℕ) (s : Spot) (m : Move) (u : Spot) → MoveRead b move_line levels s m u → T (is_cell b m.cell)
move_cell b levels s m u h =
    let r = h.node_of.2 in
    subst⁻¹ (λ c. T (is_cell b c)) (h.node_of.3 ∙ r.its_cell)
    (cell_named b r.line_read.0.place (move_is s.text r.line_read r.by_reader).1 r.inside)

moves_turned : (b : Board) (levels : ℕ) (one : Reading Move) → ((s : Spot) (m : Move) (u : Spot) → one s ≡ got (m, u) → MoveRead b move_line levels s m u)
    → {s v : Spot} {ms : List Move} → Turns one s ms v → ReadMoves (as_moves ms) b levels s.line × Went s v (written_moves b (as_moves ms)) (nodes_in_moves (as_moves ms))
unfolding ReadMoves as_moves nodes_in_moves written_moves
moves_turned b levels one h {s = s} last = (tt, went_none s)
moves_turned b levels one h {s = s} {v = v} (more {u = u} {x = m} {xs = ms} e t) =
    let a = h s m u e in
    let g = moves_turned b levels one h t in
    let at : u.line ≡ s.line + 1 + nodes_in_waits m.waits = omega (arith, a.went_of.line_went) in (
      ((a.line_of, a.level_of, move_cell b levels s m u a, a.waits_of), subst (ReadMoves (as_moves ms) b levels) at g.0),
      went_both a.went_of g.1,
    )

many_waits : (ws : List Wait) → length ws ≡ how_many_waits (as_waits ws)
unfolding as_waits how_many_waits
many_waits [] = refl
many_waits (w ∷ ws) = ap suc (many_waits ws)

many_moves : (ms : List Move) → length ms ≡ how_many_moves (as_moves ms)
unfolding as_moves how_many_moves
many_moves [] = refl
many_moves (m ∷ ms) = ap suc (many_moves ms)

some_moves : (ms : List Move) → 1 ≤ length ms → as_moves ms ≢ no_moves
unfolding as_moves
some_moves [] h e = omega arith
some_moves (m ∷ ms) h e = let z : ◌≡◌ {A = ℕ} 0 1 = cc in omega arith

mutual
  unfolding read_move give

  pub move_read : (levels : ℕ) (b : Board) (r : Reader Line) → Writes r → (s : Spot) (m : Move) (v : Spot) → read_move levels b r s ≡ got (m, v)
      → MoveRead b r levels s m v
  move_read zero b r law s m v e =
      let p = go_got (node_line b r zero s) _ (m, v) e in
      absurd (omega (arith, (node_read b r zero s p.0 p.1).level_left))
  move_read (suc levels) b r law s m v e =
      let p = go_got (node_line b r (suc levels) s) _ (m, v) e in
      let n = node_read b r (suc levels) s p.0 p.1 in
      let q = go_got (in_turn p.0.0.under (read_wait levels b) p.0.1) _ (m, v) p.2 in
      let t = turns p.0.0.under (read_wait levels b) p.0.1 q.0 q.1 in
      let g = waits_turned b levels (read_wait levels b) (λ s' w u e'. wait_read levels b s' w u e') t.0 in
      let line = went_node b r (suc levels) s p.0.0 p.0.1 (written_move (place_of b p.0.0.cell) (how_many_waits (as_waits q.0.0))) n
      (cc (law.of s.text n.line_read n.by_reader, place_again b n.line_read.0.place n.inside, n.its_cell, n.its_under, t.1, many_waits q.0.0)) in
      let drop-one : suc levels - 1 ≡ levels = omega arith in
      subst (λ (z : Move × Spot). MoveRead b r (suc levels) s z.0 z.1) (got_inj q.2)
      (record {
        line_of = n.its_line;
        level_of = omega arith;
        node_of = (p.0.0, p.0.1, n, refl);
        waits_of = rw drop-one (subst (ReadWaits (as_waits q.0.0) b levels) n.line_after g.0);
        went_of = went_both line g.1;
      })

  wait_read : (levels : ℕ) (b : Board) (s : Spot) (w : Wait) (v : Spot) → read_wait levels b s ≡ got (w, v) → WaitRead b levels s w v
  wait_read zero b s w v e =
      let p = go_got (node_line b wait_line zero s) _ (w, v) e in
      absurd (omega (arith, (node_read b wait_line zero s p.0 p.1).level_left))
  wait_read (suc levels) b s w v e =
      let p = go_got (node_line b wait_line (suc levels) s) _ (w, v) e in
      let n = node_read b wait_line (suc levels) s p.0 p.1 in
      let q = go_got (in_turn _ (read_move levels b move_line) p.0.1) _ (w, v) p.2 in
      let t = turns _ (read_move levels b move_line) p.0.1 q.0 q.1 in
      let g = moves_turned b levels (read_move levels b move_line) (λ s' m u e'. move_read levels b move_line (record { of = λ t y h. (move_is t y h).0 }) s' m u e') t.0 in
      let drop-one : suc levels - 1 ≡ levels = omega arith in
      let says = wait_says s.text n.line_read n.by_reader in
      let under : 1 ≤ length q.0.0 = omega (arith, t.1, n.its_under, says.1) in
      let line = went_node b wait_line (suc levels) s p.0.0 p.0.1 (written_wait (how_many_moves (as_moves q.0.0))) n
      (cc (says.2, n.its_under, t.1, many_moves q.0.0)) in
      subst (λ (z : Wait × Spot). WaitRead b (suc levels) s z.0 z.1) (got_inj q.2)
      (record {
        line_of = n.its_line;
        level_of = omega arith;
        some_of = some_moves q.0.0 under;
        moves_of = rw drop-one (subst (ReadMoves (as_moves q.0.0) b levels) n.line_after g.0);
        went_of = went_both line g.1;
      })
