-- The set-up lines: what is read of them is what is written, and what is written is read.
use mathlib.Core.Path.{◌≡◌, refl, sym, ap, subst, subst⁻¹, ◌∙◌}
use Prim.Native.Nat.{ℕ, zero, suc, ◌+◌, ◌≤◌}
use mathlib.Core.Bool.{Bool, true, false, not, ◌||◌, or_assoc}
use mathlib.Core.List.{List, [], ◌∷◌, ◌++◌, append_assoc, append-nil}
use mathlib.Core.Option.{Option, none, some}
use lib.Dec.{T, eqb, not_T, T_not}
use lib.ListN.{length, length-append}
use native.Mathlib.Omega.{arith}
use Rattle.rules.specs.Words.{◌∈◌, at_head, in_tail, among}
use Rattle.rules.specs.Board.{is_cell, on_board}
use Rattle.rules.specs.Text.{Bytes}
use Rattle.rules.specs.Lines.{Place, Side, own, opp, is_side, SetUpLine, set_up_line}
use Rattle.rules.specs.Tree.{Stone, set_up_cells, cells_of, own_cells, opp_cells}
use Rattle.rules.specs.Written.{place_of, written_set_up, written_stones}
use Rattle.rules.specs.Reading.{Result, refused, got, within, cell_of, set_down, read_set_up}
use Rattle.rules.specs.Unread.{BoardSize, cell_on}
use Rattle.rules.specs.declared.Board.{Board}
use Rattle.rules.specs.declared.Verdict.{Verdict}
use Rattle.rules.specs.declared.Verdict.TheVariants.{OffBoard, SetUpTwice}
use Rattle.rules.proofs.Tests.{holds_of, true_of, false_of}
use Rattle.rules.proofs.Lists.{nothing_in}
use Rattle.rules.proofs.Joining.{cell_on_lem}
use Rattle.rules.proofs.Steps.{not_refused, got_inj}
use Rattle.rules.proofs.Lines.{set_up_is, set_up_back, set_up_starts, place_again, place_names}

-- a stone is the player's own or the opponent's
in_turn_lem : (a b c : Bool) → (a || (b || c)) ≡ (b || (a || c))
in_turn_lem true true c = refl
in_turn_lem true false c = refl
in_turn_lem false b c = refl

pub either_side : (cs : List Stone) (x : ℕ) → among (set_up_cells cs) x ≡ (among (own_cells cs) x || among (opp_cells cs) x)
unfolding set_up_cells cells_of among is_side
either_side [] x = refl
either_side (c ∷ cs) x = by_side c.side refl (either_side cs x)
  where
    by_side : (o : Side) → c.side ≡ o → among (set_up_cells cs) x ≡ (among (own_cells cs) x || among (opp_cells cs) x)
        → among (set_up_cells (c ∷ cs)) x ≡ (among (own_cells (c ∷ cs)) x || among (opp_cells (c ∷ cs)) x)
    by_side own e ih = rw (e, cells_of, ih) (sym (or_assoc (eqb x c.cell) (among (own_cells cs) x) (among (opp_cells cs) x)))
    by_side opp e ih = rw (e, cells_of, ih) (in_turn_lem (eqb x c.cell) (among (own_cells cs) x) (among (opp_cells cs) x))

-- the stone that a line sets down
abbrev pub stone_of : Board → Side → Place → Stone
stone_of b o p = record { side = o; cell = cell_on b p }

-- a line's stone is set down, or refused with 5 or 19
module _ (b : Board) (before : List ℕ) (line : ℕ) (l : SetUpLine) where
  pub down : T (on_board b l.place.column l.place.row) → T (not (among before (cell_on b l.place))) → set_down b before line l ≡ got (stone_of b l.side l.place)
  unfolding set_down
  down on new = rw (true_of (on_board b l.place.column l.place.row) on, false_of (among before (cell_on b l.place)) (T_not (among before (cell_on b l.place)) new))

  pub down_off : (T (on_board b l.place.column l.place.row) → ⊥) → set_down b before line l ≡ refused (OffBoard line)
  unfolding set_down
  down_off off = rw (false_of (on_board b l.place.column l.place.row) off)

  pub down_twice : T (on_board b l.place.column l.place.row) → T (among before (cell_on b l.place))
      → set_down b before line l ≡ refused (SetUpTwice line (cell_on b l.place))
  unfolding set_down
  down_twice on old = rw (true_of (on_board b l.place.column l.place.row) on, true_of (among before (cell_on b l.place)) old)

  -- one of the three
  pub data Downed : Result Stone → Type 0 where
    is_down : T (on_board b l.place.column l.place.row) → T (not (among before (cell_on b l.place))) → Downed (got (stone_of b l.side l.place))
    is_off : (T (on_board b l.place.column l.place.row) → ⊥) → Downed (refused (OffBoard line))
    is_twice : T (on_board b l.place.column l.place.row) → T (among before (cell_on b l.place)) → Downed (refused (SetUpTwice line (cell_on b l.place)))

  pub downed : Downed (set_down b before line l)
  downed = by_board (on_board b l.place.column l.place.row) refl
    where
      by_cell : T (on_board b l.place.column l.place.row) → (a : Bool) → among before (cell_on b l.place) ≡ a → Downed (set_down b before line l)
      by_cell on true e = rw (down_twice on (holds_of e)) (is_twice on (holds_of e))
      by_cell on false e =
          let new = not_T (among before (cell_on b l.place)) (λ h. subst T e h) in
          rw (down on new) (is_down on new)

      by_board : (w : Bool) → on_board b l.place.column l.place.row ≡ w → Downed (set_down b before line l)
      by_board true e = by_cell (holds_of e) (among before (cell_on b l.place)) refl
      by_board false e = rw (down_off (λ h. subst T e h)) (is_off (λ h. subst T e h))

-- the reading, a line at a time
module _ (most : ℕ) (b : Board) (before : List Stone) (t : Bytes) (x : SetUpLine × Bytes) (e : set_up_line t ≡ some x) where
  pub set_up_refused : (v : Verdict) → set_down b (set_up_cells before) (length before + 2) x.0 ≡ refused v → read_set_up (suc most) b before t ≡ refused v
  unfolding read_set_up
  set_up_refused v g = rw (e, read_set_up, g)

  pub set_up_got : (c : Stone) → set_down b (set_up_cells before) (length before + 2) x.0 ≡ got c → read_set_up (suc most) b before t ≡ read_set_up most b (before ++ c ∷ []) x.1
  unfolding read_set_up
  set_up_got c g = rw (e, read_set_up, g)

pub set_up_none : (most : ℕ) (b : Board) (before : List Stone) (t : Bytes) → set_up_line t ≡ none → read_set_up most b before t ≡ got (before, t)
unfolding read_set_up
set_up_none zero b before t e = refl
set_up_none (suc most) b before t e = rw (e, read_set_up)

-- stones on the board, none on the cell of one before it
pub data Good (b : Board) : (before stones : List Stone) → Type 0 where
  no_stone : {before : List Stone} → Good b before []
  one_stone : {before : List Stone} (c : Stone) (cs : List Stone) → T (is_cell b c.cell) → T (not (among (set_up_cells before) c.cell))
      → Good b (before ++ c ∷ []) cs → Good b before (c ∷ cs)

-- a line as it is written of its stone
pub stone_text : (b : Board) (o : Side) (p : Place) → T (on_board b p.column p.row) → written_set_up o (some p) ≡ written_set_up o (place_of b (cell_on b p))
unfolding within cell_of
stone_text b o p on = ap (written_set_up o) (sym (place_again b (some p) on))

-- What was read is what is written
pub record StonesRead (b : Board) (before : List Stone) (t : Bytes) (all : List Stone) (left : Bytes) : Type 0 where
  pub stones : List Stone
  pub after : all ≡ before ++ stones
  pub text : t ≡ written_stones b stones ++ left
  pub good : Good b before stones

none_read : (b : Board) (before : List Stone) (t : Bytes) (y : List Stone × Bytes) → ◌≡◌ {A = Result (List Stone × Bytes)} (got (before, t)) (got y) → StonesRead b before t y.0 y.1
unfolding written_stones
none_read b before t y e =
    subst (λ (z : List Stone × Bytes). StonesRead b before t z.0 z.1) (got_inj e)
    (record { stones = []; after = sym (append-nil before); text = refl; good = no_stone })

one_read : (b : Board) (before : List Stone) (t u left : Bytes) (all : List Stone) (o : Side) (p : Place) → t ≡ written_set_up o (some p) ++ u
    → T (on_board b p.column p.row) → T (not (among (set_up_cells before) (cell_on b p))) → StonesRead b (before ++ stone_of b o p ∷ []) u all left → StonesRead b before t all left
unfolding written_stones
one_read b before t u left all o p e on new r =
    record {
      stones = stone_of b o p ∷ r.stones;
      after = r.after ∙ append_assoc before (stone_of b o p ∷ []) r.stones;
      text = e ∙ rw (stone_text b o p on, r.text) (simp append_assoc);
      good = one_stone (stone_of b o p) r.stones (cell_on_lem b p.column p.row on) new r.good;
    }

pub stones_read : (most : ℕ) (b : Board) (before : List Stone) (t : Bytes) (y : List Stone × Bytes) → read_set_up most b before t ≡ got y → StonesRead b before t y.0 y.1
stones_read zero b before t y e = none_read b before t y (unfold read_set_up in e)
stones_read (suc most) b before t y e = by_line (set_up_line t) refl (λ cs u f. stones_read most b cs u y f)
  where
    by_down : (x : SetUpLine × Bytes) → set_up_line t ≡ some x → (r : Result Stone) → set_down b (set_up_cells before) (length before + 2) x.0 ≡ r
        → Downed b (set_up_cells before) (length before + 2) x.0 r
        → ((cs : List Stone) (u : Bytes) → read_set_up most b cs u ≡ got y → StonesRead b cs u y.0 y.1) → StonesRead b before t y.0 y.1
    by_down x f _ g (is_down on new) ih =
        one_read b before t x.1 y.1 y.0 x.0.side x.0.place (set_up_is t x f).0 on new (ih _ x.1 (sym (set_up_got most b before t x f _ g) ∙ e))
    by_down x f _ g (is_off off) ih = absurd (not_refused (sym (set_up_refused most b before t x f _ g) ∙ e))
    by_down x f _ g (is_twice on old) ih = absurd (not_refused (sym (set_up_refused most b before t x f _ g) ∙ e))

    by_line : (o : Option (SetUpLine × Bytes)) → set_up_line t ≡ o → ((cs : List Stone) (u : Bytes) → read_set_up most b cs u ≡ got y → StonesRead b cs u y.0 y.1)
        → StonesRead b before t y.0 y.1
    by_line none f ih = none_read b before t y (sym (set_up_none (suc most) b before t f) ∙ e)
    by_line (some x) f ih = by_down x f (set_down b (set_up_cells before) (length before + 2) x.0) refl (downed b (set_up_cells before) (length before + 2) x.0) ih

-- What is written is read
pub longer_set_up : (o : Side) (p : Option Place) (u : Bytes) → suc (length u) ≤ length (written_set_up o p ++ u)
longer_set_up o p u = let e = length-append (written_set_up o p) u in omega (arith, e, longer)
  where
    longer : 1 ≤ length (written_set_up o p)
    longer =
        let s = set_up_starts o p [] in
        let e : length (written_set_up o p) ≡ suc (length s.0) = ap length (sym (append-nil (written_set_up o p)) ∙ s.1) in
        omega arith

module _ (b : Board) (size : BoardSize b) where
  pub stones_back : (most : ℕ) (before cs : List Stone) (u : Bytes) → Good b before cs → set_up_line u ≡ none → length (written_stones b cs ++ u) ≤ most
      → read_set_up most b before (written_stones b cs ++ u) ≡ got (before ++ cs, u)
  unfolding written_stones
  stones_back most before _ u no_stone e few = set_up_none most b before u e ∙ ap (λ (l : List Stone). got (l, u)) (sym (append-nil before))
  stones_back zero before _ u (one_stone c cs on new g) e few =
      absurd (omega (arith, few, ap length (append_assoc (written_set_up c.side (place_of b c.cell)) (written_stones b cs) u), longer_set_up c.side (place_of b c.cell) (written_stones b cs ++ u)))
  stones_back (suc most) before _ u (one_stone c cs on new g) e few =
      let n = place_names b c.cell size on in
      let line : SetUpLine = record { side = c.side; place = n.place } in
      let text : written_stones b (c ∷ cs) ++ u ≡ written_set_up c.side (some n.place) ++ (written_stones b cs ++ u) = rw n.its_place (simp append_assoc) in
      let read = set_up_back c.side n.place (written_stones b cs ++ u) n.nameable in
      let is_c : stone_of b c.side n.place ≡ c = ap (λ (x : ℕ). record { side = c.side; cell = x }) n.its_cell in
      let set_down_lem = down b (set_up_cells before) (length before + 2) line n.inside (subst⁻¹ (λ (x : ℕ). T (not (among (set_up_cells before) x))) n.its_cell new) in
      ap (read_set_up (suc most) b before) text
      ∙ set_up_got most b before _ (line, written_stones b cs ++ u) read (stone_of b c.side n.place) set_down_lem
      ∙ ap (λ (d : Stone). read_set_up most b (before ++ d ∷ []) (written_stones b cs ++ u)) is_c
      ∙ stones_back most (before ++ c ∷ []) cs u g e (omega (arith, few, ap length text, longer_set_up c.side (some n.place) (written_stones b cs ++ u)))
      ∙ ap (λ (l : List Stone). got (l, u)) (append_assoc before (c ∷ []) cs)

-- Good stones in plain words
pub good_on : {b : Board} {before cs : List Stone} → Good b before cs → (c : Stone) → c ∈ cs → T (is_cell b c.cell)
good_on no_stone c i = absurd (nothing_in i)
good_on (one_stone d cs on new g) _ at_head = on
good_on (one_stone d cs on new g) c (in_tail i) = good_on g c i

pub good_once : {b : Board} {before cs : List Stone} → Good b before cs → (xs ys : List Stone) (c : Stone) → cs ≡ xs ++ c ∷ ys
    → T (not (among (set_up_cells (before ++ xs)) c.cell))
good_once no_stone [] ys c e = let z : ◌≡◌ {A = ℕ} 0 1 = cc in absurd (omega arith)
good_once no_stone (x ∷ xs) ys c e = let z : ◌≡◌ {A = ℕ} 0 1 = cc in absurd (omega arith)
good_once {before = before} (one_stone d cs on new g) [] ys c e =
    let same : d ≡ c = cc e in
    rw (append-nil before) (subst (λ (z : Stone). T (not (among (set_up_cells before) z.cell))) same new)
good_once {before = before} (one_stone d cs on new g) (x ∷ xs) ys c e =
    let same : d ≡ x = cc e in
    let rest : cs ≡ xs ++ c ∷ ys = cc e in
    subst (λ (l : List Stone). T (not (among (set_up_cells l) c.cell))) (append_assoc before (d ∷ []) xs ∙ ap (λ (z : Stone). before ++ z ∷ xs) same) (good_once g xs ys c rest)

pub good_of : (b : Board) (before cs : List Stone) → ((c : Stone) → c ∈ cs → T (is_cell b c.cell))
    → ((xs ys : List Stone) (c : Stone) → before ++ cs ≡ xs ++ c ∷ ys → T (not (among (set_up_cells xs) c.cell))) → Good b before cs
good_of b before [] on once = no_stone
good_of b before (c ∷ cs) on once =
    one_stone c cs (on c at_head) (once before cs c refl)
    (good_of b (before ++ c ∷ []) cs (λ d i. on d (in_tail i)) (λ xs ys d e. once xs ys d (sym (append_assoc before (c ∷ []) cs) ∙ e)))
