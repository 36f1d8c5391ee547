-- What stands from a node up to the end: the next wait, the waits under a move before the others, and how many outcomes there are.
use mathlib.Core.Path.{◌≡◌, refl, subst}
use Prim.Native.Nat.{ℕ, ◌+◌, ◌*◌, ◌<◌, ◌≤◌}
use native.Mathlib.Nat.{mul-pos}
use native.Mathlib.Omega.{arith}
use mathlib.Core.List.{List}
use lib.ListN.{length}
use Rattle.rules.specs.declared.Board.{Board}
use Rattle.rules.specs.Tree.{Waits, no_waits, wait, Moves, no_moves, move, and_then}
use Rattle.rules.specs.Outcomes.{count_of_waits}
use Rattle.rules.proofs.Places.{cell_range}
use Rattle.nodes.specs.Nodes.{a_wait, a_move, size, nodes_of_waits, nodes_of_moves}
use Rattle.nodes.specs.Table.{cell_in, end_in, Each, At}
use Rattle.nodes.proofs.Trees.{moves_count, wait_first, move_first}
use Rattle.outcomes.specs.Searching.{Seated, Ahead, no_more, wait_ahead, move_past, SomeAhead}

-- the node at hand is one of the table, and it is a wait, or it is passed over
pub record Stood (b : Board) (t : List ℕ) (end i : ℕ) (ws : Waits) : Type 0 where
  pub room : 4 * i + 3 < length t
  pub on : i < end_in t i
  pub past : 1 ≤ cell_in t i → Ahead b t end (end_in t i) ws

-- the wait at hand, and the others
pub record FirstAhead (b : Board) (t : List ℕ) (end i : ℕ) (ws : Waits) : Type 0 where
  pub line : ℕ
  pub moves : Moves
  pub others : Waits
  pub are : ws ≡ wait line moves others
  pub at : At (Seated b t) a_wait i 0 (nodes_of_moves moves)
  pub later : Ahead b t end (end_in t i) others

module _ {b : Board} {t : List ℕ} {end : ℕ} where
  pub ahead_most : {i : ℕ} {ws : Waits} → Ahead b t end i ws → i ≤ end
  ahead_most (no_more e) = omega arith
  ahead_most (wait_ahead n a) = omega (arith, ahead_most a)
  ahead_most (move_past us n a) = omega (arith, ahead_most a)

  -- they have at least one outcome
  pub ahead_some : {i : ℕ} {ws : Waits} → Ahead b t end i ws → 1 ≤ count_of_waits ws
  unfolding count_of_waits
  ahead_some (no_more e) = omega arith
  ahead_some (wait_ahead {ms = ms} n a) = mul-pos (omega (arith, n.here.some, moves_count ms)) (ahead_some a)
  ahead_some (move_past us n a) = ahead_some a

  pub stood : {i : ℕ} {ws : Waits} → i < end → Ahead b t end i ws → Stood b t end i ws
  stood h (no_more e) = absurd (omega arith)
  stood h (wait_ahead n a) =
      record {
        room = n.here.weight.row.room;
        on = omega (arith, n.here.weight.end);
        past = λ p. absurd (omega (arith, n.here.weight.row.cell));
      }
  stood h (move_past us n a) =
      record {
        room = n.here.weight.row.room;
        on = omega (arith, n.here.weight.end);
        past = λ p. rw n.here.weight.end a;
      }

  pub first_ahead : {i : ℕ} {ws : Waits} → i < end → cell_in t i ≡ 0 → Ahead b t end i ws → FirstAhead b t end i ws
  first_ahead h z (no_more e) = absurd (omega arith)
  first_ahead h z (wait_ahead {line = line} {ms = ms} {ws = ws} n a) =
      record { line = line; moves = ms; others = ws; are = refl; at = n; later = rw n.here.weight.end a }
  first_ahead h z (move_past {c = c} us n a) = absurd (omega (arith, n.here.weight.row.cell, (cell_range b c n.here.on).0))

  -- none is left at the end
  pub none_ahead : {ws : Waits} (i : ℕ) → i ≡ end → Ahead b t end i ws → ws ≡ no_waits
  none_ahead i h (no_more e) = refl
  none_ahead i h (wait_ahead n a) = absurd (omega (arith, ahead_most a))
  none_ahead i h (move_past us n a) = absurd (omega (arith, ahead_most a))

  -- waits that stand before those ahead come first, and moves that stand before them are passed over
  pub waits_before : {i : ℕ} {ws : Waits} (us : Waits) → Each (Seated b t) a_wait i (nodes_of_waits us) → Ahead b t end (i + size (nodes_of_waits us)) ws → Ahead b t end i (and_then us ws)
  unfolding nodes_of_waits size
  waits_before {i} {ws} no_waits e a = let z : i + 0 ≡ i = omega arith in subst (λ (k : ℕ). Ahead b t end k ws) z a
  waits_before {i} {ws} (wait line ms us) e a =
      let f = wait_first line ms us e in
      let z : i + size (nodes_of_waits (wait line ms us)) ≡ i + 1 + size (nodes_of_moves ms) + size (nodes_of_waits us) = omega arith in
      wait_ahead f.0 (waits_before {i = i + 1 + size (nodes_of_moves ms)} us f.1 (subst (λ (k : ℕ). Ahead b t end k ws) z a))

  pub moves_before : {i : ℕ} {ws : Waits} (ms : Moves) → Each (Seated b t) a_move i (nodes_of_moves ms) → Ahead b t end (i + size (nodes_of_moves ms)) ws → Ahead b t end i ws
  unfolding nodes_of_moves size
  moves_before {i} {ws} no_moves e a = let z : i + 0 ≡ i = omega arith in subst (λ (k : ℕ). Ahead b t end k ws) z a
  moves_before {i} {ws} (move line c us ms) e a =
      let f = move_first line c us ms e in
      let z : i + size (nodes_of_moves (move line c us ms)) ≡ i + 1 + size (nodes_of_waits us) + size (nodes_of_moves ms) = omega arith in
      move_past us f.0 (moves_before {i = i + 1 + size (nodes_of_waits us)} ms f.1 (subst (λ (k : ℕ). Ahead b t end k ws) z a))

-- the loop's invariant: what is ahead stays ahead
pub record Passing (t : List ℕ) (end i next : ℕ) : Type 0 where
  pub on : i ≤ next
  pub still : (b : Board) (ws : Waits) → Ahead b t end i ws → Ahead b t end next ws

module _ {t : List ℕ} {end i next : ℕ} (w : Passing t end i next) where
  pub passing_stood : next < end → (s : SomeAhead t end i) → Stood s.0 t end next s.1
  passing_stood h s = stood h (w.still _ _ s.2)

  pub passing_again : next < end → SomeAhead t end i → (to : ℕ) → to ≡ end_in t next → 1 ≤ cell_in t next → Passing t end i to
  passing_again h s to e p =
      record { on = omega (arith, w.on, (passing_stood h s).on); still = λ b ws a. rw e ((stood h (w.still b ws a)).past p) }
