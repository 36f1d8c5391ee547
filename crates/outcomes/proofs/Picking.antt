-- The loops of picking: the waits of a move that are left, with the number of their outcome, and the moves of a wait that are left.
use mathlib.Core.Path.{◌≡◌, refl, sym, ap, subst, ◌∙◌}
use mathlib.Core.Bool.{Bool, ◌||◌, or_assoc, or-false}
use Prim.Native.Nat.{ℕ, zero, suc, ◌+◌, ◌*◌, ◌-◌, ◌/◌, ◌%◌, ◌<◌, ◌≤◌}
use native.Mathlib.Nat.{mul-div_cancel_left, div-lt_iff_lt-mul, mod-lt, zero-mul, mul-zero, le-mul_of_pos_right, mul_comm}
use native.Mathlib.Omega.{arith}
use mathlib.Core.List.{List, [], ◌++◌}
use lib.ListN.{length, get_or}
use Rattle.rules.specs.declared.Board.{Board}
use Rattle.rules.specs.Words.{among}
use Rattle.rules.specs.Tree.{Waits, no_waits, wait, Moves, no_moves, move, stone}
use Rattle.rules.specs.Outcomes.{count_of_waits, count_of_moves, outcomes_of_waits, outcomes_of_moves}
use Rattle.rules.proofs.Lists.{among_append}
use Rattle.rules.proofs.Outcomes.{nth_waits, nth_first, nth_later}
use Rattle.cells.specs.Cells.{held}
use Rattle.nodes.specs.Nodes.{a_wait, a_move, nodes_of_waits, nodes_of_moves, many, size}
use Rattle.nodes.specs.Table.{under_in, end_in, count_in, Each, WeighedRow, WeighedOn}
use Rattle.nodes.proofs.Trees.{waits_count, moves_count, wait_first, move_first}
use Rattle.outcomes.specs.Picking.{Number, MovePick, WaitPick, SomeMovePick, SomeWaitPick, Adds, MovePicked, WaitPicked}

-- the count in the table is the count, where this is not too large
pub wait_weight : {t : List ℕ} {i c : ℕ} (ms : Moves) → WeighedRow t a_wait i c (nodes_of_moves ms) → count_of_moves ms ≤ 65536 → count_in t i ≡ count_of_moves ms
wait_weight ms w p = omega (arith, w.count, moves_count ms)

pub move_weight : {t : List ℕ} {i c : ℕ} (ws : Waits) → WeighedRow t a_move i c (nodes_of_waits ws) → count_of_waits ws ≤ 65536 → count_in t i ≡ count_of_waits ws
move_weight ws w p = omega (arith, w.count, waits_count ws)

-- a number below a product: both factors are above 0
pos_left : (a b k : ℕ) → k < a * b → 0 < a
pos_left zero b k h = absurd (omega (arith, zero-mul b))
pos_left (suc a) b k h = omega arith

pos_right : (a b k : ℕ) → k < a * b → 0 < b
pos_right a zero k h = absurd (omega (arith, mul-zero a))
pos_right a (suc b) k h = omega arith

-- of a move's waits ws the last n are left, from node next on; they have `left` outcomes, and that with the number k is to be added
pub record WaitsLeft (b : Board) (t start rows : List ℕ) (next n left k number : ℕ) (ws : Waits) : Type 0 where
  pub rest : Waits
  pub each : Each (WeighedOn b t) a_wait next (nodes_of_waits rest)
  pub many_left : many (nodes_of_waits rest) ≡ n
  pub left_is : left ≡ count_of_waits rest
  pub numbered : Number k left
  pub same : (x : ℕ) → (held b rows x || among (get_or (outcomes_of_waits rest) k []) x) ≡ (held b start x || among (get_or (outcomes_of_waits ws) number []) x)

-- the first of them, and the others
pub record WaitStep (b : Board) (t start rows : List ℕ) (next n left k number : ℕ) (ws : Waits) : Type 0 where
  pub first : Moves
  pub others : Waits
  pub room : 4 * next + 3 < length t
  pub on : next < end_in t next
  pub own : 0 < count_in t next
  pub some : 0 < left / count_in t next
  pub pick : WaitPick b t next (k / (left / count_in t next)) first
  pub then : (out : List ℕ) → Adds b rows out (get_or (outcomes_of_moves first) (k / (left / count_in t next)) [])
      → WaitsLeft b t start out (end_in t next) (n - 1) (left / count_in t next) (k % (left / count_in t next)) number ws

pub wait_step : {b : Board} {t start rows : List ℕ} {next n left k number : ℕ} {ws : Waits} → ¬ (n ≡ 0) → WaitsLeft b t start rows next n left k number ws
    → WaitStep b t start rows next n left k number ws
unfolding nodes_of_waits many count_of_waits
wait_step {b} {t} {start} {rows} {next} {n} {left} {k} {number} {ws} nz l = go l.rest l.each l.many_left l.left_is l.numbered l.same
  where
    go : (us : Waits) → Each (WeighedOn b t) a_wait next (nodes_of_waits us) → many (nodes_of_waits us) ≡ n → left ≡ count_of_waits us → Number k left
        → ((x : ℕ) → (held b rows x || among (get_or (outcomes_of_waits us) k []) x) ≡ (held b start x || among (get_or (outcomes_of_waits ws) number []) x))
        → WaitStep b t start rows next n left k number ws
    go no_waits e h z m s = absurd (nz (sym h))
    go (wait line ms us) e h z m s =
        let f = wait_first line ms us e in
        let below : k < count_of_moves ms * count_of_waits us = omega (arith, m.below) in
        let p : 0 < count_of_moves ms = pos_left (count_of_moves ms) (count_of_waits us) k below in
        let q : 0 < count_of_waits us = pos_right (count_of_moves ms) (count_of_waits us) k below in
        let few : count_of_moves ms ≤ 65536 = omega (arith, le-mul_of_pos_right (count_of_moves ms) q, m.few) in
        let own : count_in t next ≡ count_of_moves ms = wait_weight ms f.0.here.weight few in
        let later : left / count_in t next ≡ count_of_waits us = rw (own, z) (mul-div_cancel_left (count_of_waits us) p) in
        let end : end_in t next ≡ next + 1 + size (nodes_of_moves ms) = f.0.here.weight.end in
        record {
          first = ms;
          others = us;
          room = f.0.here.weight.row.room;
          on = omega arith;
          own = omega arith;
          some = omega arith;
          pick = record { at = f.0; numbered = record { below = rw later ((div-lt_iff_lt-mul q).1 below); few = few } };
          then = λ out a. record {
            rest = us;
            each = rw end f.1;
            many_left = omega (arith, h);
            left_is = later;
            numbered = record { below = mod-lt k (omega arith); few = omega (arith, le-mul_of_pos_right (count_of_waits us) p, mul_comm (count_of_moves ms) (count_of_waits us), m.few) };
            same = λ x.
                let nth = nth_waits line ms us k q below in
                let first-cells = get_or (outcomes_of_moves ms) (k / count_of_waits us) [] in
                let other-cells = get_or (outcomes_of_waits us) (k % count_of_waits us) [] in
                ap (λ (y : Bool). y || among (get_or (outcomes_of_waits us) (k % (left / count_in t next)) []) x) (a.held_are x)
                ∙ ap (λ (d : ℕ). (held b rows x || among (get_or (outcomes_of_moves ms) (k / d) []) x) || among (get_or (outcomes_of_waits us) (k % d) []) x) later
                ∙ or_assoc (held b rows x) (among first-cells x) (among other-cells x)
                ∙ ap (λ (y : Bool). held b rows x || y) (sym (among_append x first-cells other-cells) ∙ ap (λ (o : List ℕ). among o x) (sym nth))
                ∙ s x;
          };
        }

-- all of them are left at the start
pub waits_start : {b : Board} {t : List ℕ} {i number c n left : ℕ} {ws : Waits} (rows : List ℕ) → n ≡ under_in t i → left ≡ count_in t i → MovePick b t i number c ws
    → WaitsLeft b t rows rows (i + 1) n left number number ws
waits_start {ws = ws} rows d e p =
    let own = move_weight ws p.at.here.weight p.numbered.few in
    record {
      rest = ws;
      each = p.at.below;
      many_left = omega (arith, p.at.here.weight.row.under);
      left_is = e ∙ own;
      numbered = record { below = omega (arith, p.numbered.below); few = omega (arith, p.numbered.few) };
      same = λ x. refl;
    }

-- none is left at the end
pub waits_end : {b : Board} {t start rows : List ℕ} {next n left k number : ℕ} {ws : Waits} → n ≡ 0 → WaitsLeft b t start rows next n left k number ws
    → (x : ℕ) → held b rows x ≡ (held b start x || among (get_or (outcomes_of_waits ws) number []) x)
unfolding nodes_of_waits many count_of_waits outcomes_of_waits among
waits_end {b} {t} {start} {rows} {next} {n} {left} {k} {number} {ws} z l x = go l.rest l.many_left l.left_is (l.same x)
  where
    go : (us : Waits) → many (nodes_of_waits us) ≡ n → left ≡ count_of_waits us
        → (held b rows x || among (get_or (outcomes_of_waits us) k []) x) ≡ (held b start x || among (get_or (outcomes_of_waits ws) number []) x)
        → held b rows x ≡ (held b start x || among (get_or (outcomes_of_waits ws) number []) x)
    go no_waits h e s =
        let first : k ≡ 0 = omega (arith, l.numbered.below) in
        sym (or-false (held b rows x)) ∙ (rw first at s)
    go (wait line ms us) h e s = absurd (omega arith)

-- the move's stone was added at the start
pub move_picked : {b : Board} {t before start rows : List ℕ} {next n left k number : ℕ} {ws : Waits} (c : ℕ) → n ≡ 0 → WaitsLeft b t start rows next n left k number ws
    → ((x : ℕ) → held b start x ≡ (held b before x || among (stone c) x)) → Adds b before rows (stone c ++ get_or (outcomes_of_waits ws) number [])
move_picked {b} {t} {before} {number = number} {ws = ws} c z l f =
    record {
      held_are = λ x.
          waits_end z l x
          ∙ ap (λ (y : Bool). y || among (get_or (outcomes_of_waits ws) number []) x) (f x)
          ∙ or_assoc (held b before x) (among (stone c) x) (among (get_or (outcomes_of_waits ws) number []) x)
          ∙ ap (λ (y : Bool). held b before x || y) (sym (among_append x (stone c) (get_or (outcomes_of_waits ws) number [])));
    }

-- of a wait's moves ms the last are left, from node next on, and their outcome with the number k is to be added
pub record MovesLeft (b : Board) (t : List ℕ) (next k number : ℕ) (ms : Moves) : Type 0 where
  pub rest : Moves
  pub each : Each (WeighedOn b t) a_move next (nodes_of_moves rest)
  pub numbered : Number k (count_of_moves rest)
  pub same : get_or (outcomes_of_moves rest) k [] ≡ get_or (outcomes_of_moves ms) number []

-- the first of them: it is picked, or the others are left
pub record MoveStep (b : Board) (t : List ℕ) (next k number : ℕ) (ms : Moves) : Type 0 where
  pub cell : ℕ
  pub first : Waits
  pub room : 4 * next + 3 < length t
  pub on : next < end_in t next
  pub here : k < count_in t next → MovePick b t next k cell first × (stone cell ++ get_or (outcomes_of_waits first) k [] ≡ get_or (outcomes_of_moves ms) number [])
  pub later : count_in t next ≤ k → MovesLeft b t (end_in t next) (k - count_in t next) number ms

pub move_step : {b : Board} {t : List ℕ} {next k number : ℕ} {ms : Moves} → MovesLeft b t next k number ms → MoveStep b t next k number ms
unfolding nodes_of_waits count_of_waits
move_step {b} {t} {next} {k} {number} {ms} l = go l.rest l.each l.numbered l.same
  where
    go : (us : Moves) → Each (WeighedOn b t) a_move next (nodes_of_moves us) → Number k (count_of_moves us)
        → get_or (outcomes_of_moves us) k [] ≡ get_or (outcomes_of_moves ms) number [] → MoveStep b t next k number ms
    go no_moves e m s = absurd (omega (arith, m.below))
    go (move line c ws us) e m s =
        let f = move_first line c ws us e in
        let own : count_in t next ≡ count_of_waits ws = move_weight ws f.0.here.weight (omega (arith, m.few)) in
        let end : end_in t next ≡ next + 1 + size (nodes_of_waits ws) = f.0.here.weight.end in
        record {
          cell = c;
          first = ws;
          room = f.0.here.weight.row.room;
          on = omega arith;
          here = λ p. (
            record { at = f.0; numbered = record { below = omega arith; few = omega (arith, m.few) } },
            sym (nth_first line c ws us k (omega arith)) ∙ s,
          );
          later = λ p. record {
            rest = us;
            each = rw end f.1;
            numbered = record { below = omega (arith, m.below); few = omega (arith, m.few) };
            same = ap (λ (q : ℕ). get_or (outcomes_of_moves us) (k - q) []) own ∙ sym (nth_later line c ws us k (omega arith)) ∙ s;
          };
        }

pub moves_start : {b : Board} {t : List ℕ} {i number : ℕ} {ms : Moves} → WaitPick b t i number ms → MovesLeft b t (i + 1) number number ms
moves_start {ms = ms} p = record { rest = ms; each = p.at.below; numbered = p.numbered; same = refl }

-- the loops' invariants: at the move at node i, and at the wait at node i
pub record PickingMove (b : Board) (t start rows : List ℕ) (i number under next left k j : ℕ) : Type 0 where
  pub turns : j ≤ under
  pub on : i < next
  pub waits : (c : ℕ) (ws : Waits) → MovePick b t i number c ws → WaitsLeft b t start rows next (under - j) left k number ws

pub record PickingWait (b : Board) (t : List ℕ) (i number next k own : ℕ) : Type 0 where
  pub on : i < next
  pub own_is : own ≡ count_in t next
  pub moves : (ms : Moves) → WaitPick b t i number ms → MovesLeft b t next k number ms

pub picking_move_starts : {b : Board} {t rows : List ℕ} {i number under left : ℕ} → under ≡ under_in t i → left ≡ count_in t i → PickingMove b t rows rows i number under (i + 1) left number 0
picking_move_starts {rows = rows} d e =
    record { turns = omega arith; on = omega arith; waits = λ c ws p. waits_start rows (omega arith) e p }

module _ {b : Board} {t start rows : List ℕ} {i number under next left k j : ℕ} (w : PickingMove b t start rows i number under next left k j) where
  -- while some waits are left, the next of them is picked from
  pub picking_move_step : j < under → (n : SomeMovePick b t i number) → WaitStep b t start rows next (under - j) left k number n.1
  picking_move_step p n = wait_step (omega arith) (w.waits _ _ n.2)

  pub picking_move_again : j < under → SomeMovePick b t i number → (own to : ℕ) (out : List ℕ) → own ≡ count_in t next → to ≡ end_in t next
      → WaitPicked b t next (k / (left / own)) rows out → PickingMove b t start out i number under to (left / own) (k % (left / own)) (j + 1)
  picking_move_again p n own to out e f h =
      record {
        turns = omega arith;
        on = omega (arith, w.on, (picking_move_step p n).on);
        waits = λ c ws m.
            let s = wait_step (omega arith) (w.waits c ws m) in
            let less : under - (j + 1) ≡ under - j - 1 = omega arith in
            let g : WaitPicked b t next (k / (left / count_in t next)) rows out = subst (λ (o : ℕ). WaitPicked b t next (k / (left / o)) rows out) e h in
            rw (less, e, f) (s.then out (g s.first s.pick));
      }

module _ {b : Board} {t : List ℕ} {i number next k own : ℕ} (w : PickingWait b t i number next k own) where
  -- the next move, and the others where it is not the one
  pub picking_wait_step : (n : SomeWaitPick b t i number) → MoveStep b t next k number n.0
  picking_wait_step n = move_step (w.moves _ n.1)

  pub picking_wait_room : own ≤ k → SomeWaitPick b t i number → 4 * end_in t next + 3 < length t
  picking_wait_room p n = (move_step ((picking_wait_step n).later (omega (arith, w.own_is)))).room

  pub picking_wait_again : own ≤ k → SomeWaitPick b t i number → (to own' : ℕ) → to ≡ end_in t next → own' ≡ count_in t to → PickingWait b t i number to (k - own) own'
  picking_wait_again p n to own' e f =
      record {
        on = omega (arith, w.on, (picking_wait_step n).on);
        own_is = f;
        moves = λ ms m. rw (e, w.own_is) ((move_step (w.moves ms m)).later (omega (arith, w.own_is)));
      }

  -- the move is found
  pub picking_wait_done : k < own → (before after : List ℕ) → MovePicked b t next k before after → WaitPicked b t i number before after
  picking_wait_done p before after h ms m =
      let s = move_step (w.moves ms m) in
      let f = s.here (omega (arith, w.own_is)) in
      subst (λ (o : List ℕ). Adds b before after o) f.1 (h s.cell s.first f.0)
