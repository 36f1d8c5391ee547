-- The loops that look for the open wait that holds a cell, and for the first move that does not hold one.
use mathlib.Core.Path.{◌≡◌, refl, sym, ap, ◌∙◌, subst}
use Prim.Native.Nat.{ℕ, ◌-◌, ◌<◌, ◌≤◌}
use native.Mathlib.Omega.{arith}
use mathlib.Core.Bool.{true, false}
use mathlib.Core.Option.{some}
use mathlib.Core.Logic.{◌≢◌}
use Rattle.std.specs.Prelude.{Option, Some, None}
use mathlib.Core.List.{List}
use Rattle.rules.specs.Tree.{Waits, no_waits, wait, Moves, no_moves, move}
use Rattle.rules.specs.Fair.{in_move}
use Rattle.rules.specs.Choice.{the_first, one_later, PlaceIn, first_move}
use Rattle.rules.specs.declared.Board.{Board}
use Rattle.nodes.specs.Nodes.{a_move, nodes_of_waits, nodes_of_moves}
use Rattle.nodes.specs.Table.{count_in, end_in, Each, At}
use Rattle.nodes.proofs.Trees.{move_first}
use Rattle.answering.specs.Rows.{Within, EndedOn}
use Rattle.answering.specs.Marks.{Open, none_open, open_at, Opens, SomeOpen, FirstOpen}
use Rattle.answering.specs.Choosing.{holds_at, touched_in, node_there, without, Dodge, SomeDodge}
use Rattle.answering.specs.declared.Found.TheVariants as found
use Rattle.answering.proofs.Holding.{wait_held, move_held, named_room}
use Rattle.answering.proofs.Marks.{First, open_pass, open_first, open_end}
use Rattle.answering.proofs.Choosing.{Mapped, mapped, touched_here, touched_later, touched_none}

-- where no node is marked, no wait is open
none_left : {n₁ : ℕ} {b : Board} {t : List ℕ} {n i : ℕ} {ws : Waits} → Open n₁ b t n i ws → ((k : ℕ) → i ≤ k → k < n → count_in t k ≢ 1) → ws ≡ no_waits
none_left (none_open q c) h = refl
none_left (open_at j q c o r) h = absurd (h j q (omega (arith, open_end _ r)) o.mark)

-- the first of the waits ws that holds x is the first of those left, from node i on
pub record WaitsLeft (n₁ : ℕ) (b : Board) (t : List ℕ) (x i : ℕ) (ws : Waits) : Type 0 where
  pub rest : Waits
  pub marks : Open n₁ b t (end_in t 0) i rest
  pub same : touched_in n₁ x ws ≡ touched_in n₁ x rest

-- the loop's invariant
pub record Looking (t : List ℕ) (x i : ℕ) : Type 0 where
  pub left : (n₁ : ℕ) (b : Board) (ws : Waits) → Opens n₁ b t ws → WaitsLeft n₁ b t x i ws

pub looking_starts : {t : List ℕ} {x : ℕ} → Looking t x 1
looking_starts = record { left = λ n₁ b ws o. record { rest = ws; marks = o.marks; same = refl } }

module _ {t : List ℕ} {x i : ℕ} (l : Looking t x i) where
  -- the first open wait from node i on is at node w
  module _ {w : ℕ} (p : FirstOpen t i (Some w)) where
    first_left : (n₁ : ℕ) (b : Board) (ws : Waits) (o : Opens n₁ b t ws) → First n₁ b t (end_in t 0) w (l.left n₁ b ws o).rest
    first_left n₁ b ws o = open_first _ p.1 (λ z. omega (arith, p.2)) (open_pass _ w p.0 (omega (arith, p.1)) p.3 (l.left n₁ b ws o).marks)

    -- it is within the table
    pub looking_wait : SomeOpen t → Within t w
    looking_wait s = named_room (first_left s.first s.board s.waits s.are_open).here.at

    pub looking_on : SomeOpen t → w < end_in t w
    looking_on s = omega (arith, (first_left s.first s.board s.waits s.are_open).here.at.here.end)

    -- it holds x
    pub looking_found : 1 ≤ x → true ≡ holds_at t w x → (n₁ : ℕ) (b : Board) (ws : Waits) → Opens n₁ b t ws → found.At w ≡ touched_in n₁ x ws
    looking_found q f n₁ b ws o =
        let d = first_left n₁ b ws o in
        let e : w ≡ d.line - n₁ = omega (arith, d.here.line_is) in
        sym
        ((l.left n₁ b ws o).same
        ∙ ap (touched_in n₁ x) d.are
        ∙ touched_here n₁ x d.line d.moves d.others (sym (f ∙ wait_held x q d.moves d.here.at))
        ∙ ap found.At (sym e))

    -- it does not
    pub looking_again : 1 ≤ x → false ≡ holds_at t w x → Looking t x (end_in t w)
    looking_again q f =
        record {
          left = λ n₁ b ws o.
              let d = first_left n₁ b ws o in
              record {
                rest = d.others;
                marks = rw d.here.at.here.end d.rest;
                same =
                    (l.left n₁ b ws o).same
                    ∙ ap (touched_in n₁ x) d.are
                    ∙ touched_later n₁ x d.line d.moves d.others (sym (f ∙ wait_held x q d.moves d.here.at));
              };
        }

  -- there is none
  pub looking_done : FirstOpen t i None → (n₁ : ℕ) (b : Board) (ws : Waits) → Opens n₁ b t ws → found.Nothing ≡ touched_in n₁ x ws
  looking_done p n₁ b ws o =
      let d = l.left n₁ b ws o in
      sym (d.same ∙ ap (touched_in n₁ x) (none_left d.marks p) ∙ touched_none n₁ x)

-- where waits are open, the first of them is the first node that is marked
pub waiting_first : {n₁ : ℕ} {b : Board} {t : List ℕ} {line : ℕ} {ms : Moves} {ws : Waits} (r : Option ℕ) → FirstOpen t 1 r → Opens n₁ b t (wait line ms ws)
    → r ≡ Some (line - n₁)
waiting_first None p o = let z : ◌≡◌ {A = ℕ} 0 1 = cc (none_left o.marks p) in absurd (omega arith)
waiting_first {n₁} {line = line} (Some w) p o =
    let d = open_first _ p.1 (λ z. omega (arith, p.2)) (open_pass _ w p.0 (omega (arith, p.1)) p.3 o.marks) in
    let e : d.line ≡ line = cc d.are in
    let f : w ≡ line - n₁ = omega (arith, d.here.line_is) in
    ap Some f

-- of a wait's moves those are left that are from node next on, and the first that does not hold x is among them
pub record MovesLeft (b : Board) (t : List ℕ) (x next place : ℕ) : Type 0 where
  pub rest : Moves
  pub spot : PlaceIn rest
  pub each : Each (EndedOn b t) a_move next (nodes_of_moves rest)
  pub is_first : first_move (without x) rest ≡ some spot
  pub same : node_there next rest spot ≡ place

-- the first of those left
pub record MoveStep (b : Board) (t : List ℕ) (x next place : ℕ) : Type 0 where
  pub cell : ℕ
  pub waits : Waits
  pub at : At (EndedOn b t) a_move next cell (nodes_of_waits waits)
  pub here : in_move cell waits x ≡ false → next ≡ place
  pub later : in_move cell waits x ≡ true → MovesLeft b t x (end_in t next) place

-- of moves whose first holds x, or does not: the place of the first that does not
module _ (x line c : ℕ) (ws : Waits) (ms : Moves) (p : PlaceIn (move line c ws ms)) (f : first_move (without x) (move line c ws ms) ≡ some p) where
  place_here : (next : ℕ) → in_move c ws x ≡ false → node_there next (move line c ws ms) p ≡ next
  unfolding node_there
  place_here next e =
      let q : the_first tt ≡ p = cc (rw e at f) in
      subst (λ (y : PlaceIn (move line c ws ms)). node_there next (move line c ws ms) y ≡ next) q refl

  place_later : in_move c ws x ≡ true → Mapped one_later (first_move (without x) ms) p
  place_later e = mapped one_later (first_move (without x) ms) p (rw e at f)

move_step : {b : Board} {t : List ℕ} {x next place : ℕ} → MovesLeft b t x next place → MoveStep b t x next place
unfolding node_there
move_step {b} {t} {x} {next} {place} l = go l.rest l.spot l.each l.is_first l.same
  where
    go : (ms : Moves) (p : PlaceIn ms) → Each (EndedOn b t) a_move next (nodes_of_moves ms) → first_move (without x) ms ≡ some p → node_there next ms p ≡ place
        → MoveStep b t x next place
    go no_moves p e f s = absurd p
    go (move line c ws ms) p e f s =
        let m = move_first line c ws ms e in
        record {
          cell = c;
          waits = ws;
          at = m.0;
          here = λ h. sym (place_here x line c ws ms p f next h) ∙ s;
          later = λ h.
              let q = place_later x line c ws ms p f h in
              record {
                rest = ms;
                spot = q.from;
                each = rw m.0.here.end m.1;
                is_first = q.was;
                same =
                    ap (λ (z : ℕ). node_there z ms q.from) m.0.here.end
                    ∙ ap (λ (y : PlaceIn (move line c ws ms)). node_there next (move line c ws ms) y) q.is
                    ∙ s;
              };
        }

-- the loop's invariant, for the moves from node i on
pub record Dodging (t : List ℕ) (i x next : ℕ) : Type 0 where
  pub left : (b : Board) (ms : Moves) (p : PlaceIn ms) → Dodge b t i x ms p → MovesLeft b t x next (node_there i ms p)

module _ {t : List ℕ} {i x next : ℕ} (l : Dodging t i x next) where
  dodging_step : (s : SomeDodge t i x) → MoveStep s.0 t x next (node_there i s.1 s.2)
  dodging_step s = move_step (l.left s.0 s.1 s.2 s.3)

  pub dodging_room : SomeDodge t i x → Within t next
  dodging_room s = named_room (dodging_step s).at

  pub dodging_on : SomeDodge t i x → next < end_in t next
  dodging_on s = omega (arith, (dodging_step s).at.here.end)

  pub dodging_again : 1 ≤ x → true ≡ holds_at t next x → Dodging t i x (end_in t next)
  dodging_again q f =
      record {
        left = λ b ms p d.
            let m = move_step (l.left b ms p d) in
            m.later (sym (f ∙ move_held x q m.waits m.at));
      }

  pub dodging_done : 1 ≤ x → false ≡ holds_at t next x → (b : Board) (ms : Moves) (p : PlaceIn ms) → Dodge b t i x ms p → next ≡ node_there i ms p
  dodging_done q f b ms p d =
      let m = move_step (l.left b ms p d) in
      m.here (sym (f ∙ move_held x q m.waits m.at))
