-- The rule's answer in the table: under the open wait that holds the cell, or under the first open wait.
use mathlib.Core.Path.{◌≡◌, refl, sym, ap, ◌∙◌, subst}
use mathlib.Core.Logic.{⊎_elim}
use mathlib.Core.Bool.{Bool, true, false, not}
use mathlib.Core.Option.{Option, none, some, map}
use Prim.Native.Nat.{ℕ, ◌+◌, ◌-◌, ◌*◌, ◌<◌, ◌≤◌, min}
use native.Mathlib.Omega.{arith}
use mathlib.Core.List.{List}
use lib.Dec.{T, eqb, eqb_refl}
use lib.ListN.{length}
use Rattle.nodes.specs.Nodes.{size, nodes_of_moves}
use Rattle.rules.specs.Tree.{Waits, no_waits, wait, Moves, no_moves, move}
use Rattle.rules.specs.Fair.{in_waits, in_moves}
use Rattle.rules.specs.Choice.{the_first, one_later, PlaceIn, Choice, first_move, first_under}
use Rattle.rules.specs.Answering.{smallest_line, first_line, touched_answer, free_answer, answer}
use Rattle.rules.specs.declared.Board.{Board}
use Rattle.rules.proofs.Tests.{decide, cases, nor_left, nor_right, cond_yes, cond_no, true_of}
use Rattle.answering.specs.Marks.{Open, open_at, Opens}
use Rattle.answering.specs.Choosing.{touched_in, node_there, wait_node, move_node, without, Dodge, Asked}
use Rattle.answering.specs.declared.Found.TheVariants as found

-- an answer that was found by way of another
pub record Mapped {A B : Type 0} (f : A → B) (o : Option A) (y : B) : Type 0 where
  pub from : A
  pub was : o ≡ some from
  pub is : f from ≡ y

pub mapped : {A B : Type 0} (f : A → B) (o : Option A) (y : B) → map f o ≡ some y → Mapped f o y
mapped f none y e = let z : ◌≡◌ {A = ℕ} 0 1 = cc in absurd (omega arith)
mapped f (some x) y e = record { from = x; was = refl; is = cc }

-- the line of the first node is base
module _ (base : ℕ) where
  -- the walk over the open waits for the one that holds x
  pub touched_here : (x line : ℕ) (ms : Moves) (ws : Waits) → in_moves ms x ≡ true → touched_in base x (wait line ms ws) ≡ found.At (line - base)
  unfolding touched_in
  touched_here x line ms ws e = rw (e, touched_in)

  pub touched_later : (x line : ℕ) (ms : Moves) (ws : Waits) → in_moves ms x ≡ false → touched_in base x (wait line ms ws) ≡ touched_in base x ws
  unfolding touched_in
  touched_later x line ms ws e = rw (e, touched_in)

  pub touched_none : (x : ℕ) → touched_in base x no_waits ≡ found.Nothing
  unfolding touched_in
  touched_none x = refl

  false_test : (b : Bool) → T (not b) → b ≡ false
  false_test true h = absurd h
  false_test false h = refl

  untouched : (x : ℕ) (ws : Waits) → T (not (in_waits ws x)) → touched_in base x ws ≡ found.Nothing
  unfolding touched_in in_waits
  untouched x no_waits n = refl
  untouched x (wait line ms ws) n =
      touched_later x line ms ws (false_test (in_moves ms x) (nor_left (in_moves ms x) (in_waits ws x) n))
      ∙ untouched x ws (nor_right (in_moves ms x) (in_waits ws x) n)

  -- the wait at node w holds x, and the choice is its first move that does not
  pub record Touched (b : Board) (t : List ℕ) (x : ℕ) (ws : Waits) (k : Choice ws) (w : ℕ) : Type 0 where
    pub moves : Moves
    pub place : PlaceIn moves
    pub room : 4 * w + 3 < length t
    pub dodge : Dodge b t (w + 1) x moves place
    pub wait_is : wait_node base ws k ≡ w
    pub move_is : move_node base ws k ≡ node_there (w + 1) moves place

  record TouchedAt (b : Board) (t : List ℕ) (x : ℕ) (ws : Waits) (k : Choice ws) : Type 0 where
    node : ℕ
    is_found : touched_in base x ws ≡ found.At node
    touched : Touched b t x ws k node

  -- under the first wait
  touch_here : {b : Board} {t : List ℕ} {n i : ℕ} (x line : ℕ) (ms : Moves) (ws : Waits) (k : Choice (wait line ms ws)) → Open base b t n i (wait line ms ws)
      → T (in_moves ms x) → map the_first (first_move (without x) ms) ≡ some k → TouchedAt b t x (wait line ms ws) k
  unfolding wait_node move_node
  touch_here {b} {t} x line ms ws k (open_at j q c o r) h e =
      let m = mapped the_first (first_move (without x) ms) k e in
      let s : line - base ≡ j = omega (arith, o.line_is) in
      record {
        node = line - base;
        is_found = touched_here x line ms ws (true_of (in_moves ms x) h);
        touched = record {
          moves = ms;
          place = m.from;
          room = rw s o.at.here.row.room;
          dodge = record { each = rw s o.at.below; is_first = m.was };
          wait_is = subst (λ (y : Choice (wait line ms ws)). wait_node base (wait line ms ws) y ≡ line - base) m.is refl;
          move_is = subst (λ (y : Choice (wait line ms ws)). move_node base (wait line ms ws) y ≡ node_there (line - base + 1) ms m.from) m.is refl;
        };
      }

  -- under a later one
  touch_later : {b : Board} {t : List ℕ} (x line : ℕ) (ms : Moves) (ws : Waits) (k : Choice (wait line ms ws)) (l : Choice ws) → T (not (in_moves ms x))
      → one_later l ≡ k → TouchedAt b t x ws l → TouchedAt b t x (wait line ms ws) k
  unfolding wait_node move_node
  touch_later x line ms ws k l n e h =
      record {
        node = h.node;
        is_found = touched_later x line ms ws (false_test (in_moves ms x) n) ∙ h.is_found;
        touched = record {
          moves = h.touched.moves;
          place = h.touched.place;
          room = h.touched.room;
          dodge = h.touched.dodge;
          wait_is = subst (λ (y : Choice (wait line ms ws)). wait_node base (wait line ms ws) y ≡ h.node) e h.touched.wait_is;
          move_is = subst (λ (y : Choice (wait line ms ws)). move_node base (wait line ms ws) y ≡ node_there (h.node + 1) h.touched.moves h.touched.place) e h.touched.move_is;
        };
      }

  abbrev holds : ℕ → ℕ → Moves → Bool
  holds x line ms = in_moves ms x

  touch : {b : Board} {t : List ℕ} {n i : ℕ} (x : ℕ) (ws : Waits) (k : Choice ws) → Open base b t n i ws → T (in_waits ws x)
      → first_under (holds x) (without x) ws ≡ some k → TouchedAt b t x ws k
  unfolding in_waits
  touch x no_waits k o h e = absurd k
  touch {b} {t} {n} {i} x (wait line ms ws) k (open_at j q c o r) h e =
      ⊎_elim
      (λ y. touch_here {i = i} x line ms ws k (open_at j q c o r) y (sym (cond_yes (in_moves ms x) _ _ y) ∙ e))
      (λ y.
      let m = mapped one_later (first_under (holds x) (without x) ws) k (sym (cond_no (in_moves ms x) _ _ y) ∙ e) in
      touch_later x line ms ws k m.from y m.is
      (touch {i = j + 1 + size (nodes_of_moves ms)} x ws m.from r (⊎_elim (λ z. absurd (out y z)) (λ z. z) (cases (in_moves ms x) (in_waits ws x) h)) m.was))
      (decide (in_moves ms x))
    where
      out : T (not (in_moves ms x)) → T (in_moves ms x) → ⊥
      out y z = subst T (false_test (in_moves ms x) y) z

  -- the first open wait has the smallest line number
  smallest_first : {b : Board} {t : List ℕ} {n i : ℕ} (line : ℕ) (ws : Waits) → Open base b t n i ws → line ≤ i + base → smallest_line line ws ≡ line
  unfolding smallest_line
  smallest_first line no_waits o p = refl
  smallest_first {i = i} line (wait l ms ws) (open_at j q c o r) p =
      let e : min line l ≡ line = omega (arith, o.line_is) in
      ap (λ (z : ℕ). smallest_line z ws) e ∙ smallest_first {i = j + 1 + size (nodes_of_moves ms)} line ws r (omega arith)

  -- the choice is the first move of the first open wait
  pub record Free (ws : Waits) (k : Choice ws) : Type 0 where
    pub line : ℕ
    pub moves : Moves
    pub others : Waits
    pub are : ws ≡ wait line moves others
    pub wait_is : wait_node base ws k ≡ line - base
    pub move_is : move_node base ws k ≡ line - base + 1

  abbrev any_move : ℕ → Waits → Bool
  any_move c us = true

  free_here : (line : ℕ) (ms : Moves) (ws : Waits) (k : Choice (wait line ms ws)) → map the_first (first_move any_move ms) ≡ some k → Free (wait line ms ws) k
  unfolding wait_node move_node node_there
  free_here line no_moves ws k e = let z : ◌≡◌ {A = ℕ} 0 1 = cc in absurd (omega arith)
  free_here line (move l c us ms) ws k e =
      let m = mapped the_first (first_move any_move (move l c us ms)) k e in
      let f : the_first tt ≡ m.from = cc in
      record {
        line = line;
        moves = move l c us ms;
        others = ws;
        are = refl;
        wait_is = subst (λ (y : Choice (wait line (move l c us ms) ws)). wait_node base (wait line (move l c us ms) ws) y ≡ line - base) (ap the_first f ∙ m.is) refl;
        move_is = subst (λ (y : Choice (wait line (move l c us ms) ws)). move_node base (wait line (move l c us ms) ws) y ≡ line - base + 1) (ap the_first f ∙ m.is) refl;
      }

  free : {b : Board} {t : List ℕ} {n i : ℕ} (ws : Waits) (k : Choice ws) → Open base b t n i ws → free_answer ws ≡ some k → Free ws k
  unfolding free_answer first_line
  free no_waits k o e = absurd k
  free (wait line ms ws) k (open_at j q c o r) e =
      let s : smallest_line line ws ≡ line = smallest_first line ws r (omega (arith, o.line_is)) in
      free_here line ms ws k (sym (cond_yes (eqb line (smallest_line line ws)) _ _ (rw s (eqb_refl line))) ∙ e)

  -- the answer, by what the search for the wait says
  module _ {b : Board} {t : List ℕ} {x : ℕ} {ws : Waits} {k : Choice ws} (a : Asked base b t x ws k) where
    touched_at : T (in_waits ws x) → TouchedAt b t x ws k
    unfolding answer touched_answer
    touched_at h = touch x ws k a.are_open.marks h (sym (cond_yes (in_waits ws x) _ _ h) ∙ a.is_answer)

    pub answer_touched : (w : ℕ) → found.At w ≡ touched_in base x ws → Touched b t x ws k w
    answer_touched w e =
        ⊎_elim
        (λ h.
        let d = touched_at h in
        let s : d.node ≡ w = cc d.is_found in
        subst (λ (z : ℕ). Touched b t x ws k z) s d.touched)
        (λ n. let z : ◌≡◌ {A = ℕ} 0 1 = cc (untouched x ws n) in absurd (omega arith))
        (decide (in_waits ws x))

    pub answer_free : found.Nothing ≡ touched_in base x ws → Free ws k
    unfolding answer
    answer_free e =
        ⊎_elim
        (λ h. let z : ◌≡◌ {A = ℕ} 0 1 = cc (touched_at h).is_found in absurd (omega arith))
        (λ n. free ws k a.are_open.marks (sym (cond_no (in_waits ws x) _ _ n) ∙ a.is_answer))
        (decide (in_waits ws x))

  -- then a wait is open
  pub free_waiting : {b : Board} {t : List ℕ} {x : ℕ} {ws : Waits} {k : Choice ws} → Asked base b t x ws k → (f : Free ws k) → Opens base b t (wait f.line f.moves f.others)
  free_waiting {b} {t} a f = subst (λ (us : Waits). Opens base b t us) f.are a.are_open
