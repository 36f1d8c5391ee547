-- The loop over the moves: the game so far, and what is left of the rounds.
use mathlib.Core.Path.{◌≡◌, refl, sym, ap, ap₂, ◌∙◌, subst}
use mathlib.Core.Bool.{Bool, not, ◌||◌, or_comm, or-false}
use Prim.Native.Nat.{ℕ, suc, ◌+◌, ◌<◌}
use native.Mathlib.Numerals.{add-one}
use native.Mathlib.Omega.{arith}
use mathlib.Core.List.{List, [], ◌∷◌, ◌++◌, append_assoc, append-nil}
use lib.Dec.{T, eqb}
use lib.ListN.{length, get_or, set, drop, length-append, length-set, drop_of_length-le}
use lib.Seq.{drop-cons, set-append_seam}
use Rattle.rules.specs.Sizes.{most_nodes}
use Rattle.rules.specs.Words.{among}
use Rattle.rules.specs.Board.{is_cell}
use Rattle.rules.specs.Tree.{Waits, Sheet, stone, own_cells, opp_cells, at_start}
use Rattle.rules.specs.Joining.{joined}
use Rattle.rules.specs.Plain.{WellRead}
use Rattle.rules.specs.Reading.{Result, refused, got}
use Rattle.rules.specs.Choice.{Choice, taken}
use Rattle.rules.specs.Answering.{Game, start, mine, is_over, is_empty, is_taken, next, answered}
use Rattle.rules.specs.Entries.{rounds, room_after}
use Rattle.rules.specs.Promise.{Ruled, no_move, HasAnswer}
use Rattle.rules.specs.declared.Board.{Board}
use Rattle.rules.specs.declared.Player.{Player}
use Rattle.rules.specs.declared.Verdict.{Verdict}
use Rattle.rules.proofs.Tests.{fst}
use Rattle.rules.proofs.Lists.{among_append}
use Rattle.rules.proofs.Joining.{joined_same}
use Rattle.rules.proofs.Given.{accepted_exactly}
use Rattle.rules.proofs.Cover.{mine_next, demand_3}
use Rattle.cells.specs.Cells.{held}
use Rattle.nodes.specs.Nodes.{a_move, size, nodes_of_waits}
use Rattle.nodes.specs.Table.{end_in, SomeNode}
use Rattle.cells.specs.declared.Cells.{Cells}
use Rattle.nodes.specs.Sheets.{HeldStones}
use Rattle.answering.specs.Rows.{Ended, SameRows, Remarked, Started}
use Rattle.answering.specs.Marks.{Opens}
use Rattle.answering.specs.Choosing.{Asked, SomeAsked, Answered}
use Rattle.answering.specs.Playing.{Playable, checked, reached, shown, PlaysMoves}
use Rattle.std.specs.Prelude.{Ok, Err}
use Rattle.answering.proofs.Rows.{same_twice, at_same, at_ended, each_same, clear_within, marked_rows, marked_before, marked_after}
use Rattle.answering.proofs.Marks.{marked_open}
use Rattle.answering.proofs.Marking.{root_room}
use Rattle.answering.proofs.Lined.{lined_root}
use Rattle.answering.proofs.Rounds.{checked_same, fine_over, fine_empty, rounds_stop, reached_stop, rounds_on, reached_on, answered_next, rounds_end, reached_end, ruled_more}

-- a table that differs in its counts alone holds the sheet too
pub playable_same : {t v : List ℕ} {b : Board} {p : Player} {s : Sheet} → SameRows t v → Playable t b p s → Playable v b p s
playable_same r h = record { on = h.on; player_is = h.player_is; is_accepted = h.is_accepted; root = at_same r h.root }

module _ {t : List ℕ} {b : Board} {p : Player} {s : Sheet} (h : Playable t b p s) where
  sheet_read : WellRead s
  sheet_read =
      let a = h.is_accepted in
      ((accepted_exactly a.0 a.1 s).0 a.2).fair.read.spells.well

  pub root_ended : SomeNode (Ended t) a_move 0
  root_ended = record { cell = _; under = _; at = at_ended h.root }

  -- the root's waits are open at the start
  pub started_open : {v : List ℕ} → Started t (nodes_of_waits s.root.waits) v → Remarked t v × Opens s.root.line b v s.root.waits
  started_open {v} st =
      let ws = s.root.waits in
      let z = st.table in
      let rows : SameRows t v = rw st.opened (same_twice st.cleared.rows (marked_rows (nodes_of_waits ws) 1 z)) in
      let room = root_room root_ended in
      let n : end_in t 0 ≡ 1 + size (nodes_of_waits ws) = h.root.here.end in
      let marks = marked_open s.root.line ws (each_same st.cleared.rows h.root.below) (lined_root s sheet_read)
      (clear_within 1 (1 + size (nodes_of_waits ws)) (omega arith) (omega arith) st.cleared.clear) in (
        record { rows = rows; later = λ i q. rw st.opened (marked_after (nodes_of_waits ws) 1 z i (omega arith) ∙ st.cleared.later i q) },
        record {
          root = rw st.opened (marked_before (nodes_of_waits ws) 1 z 0 (omega arith) ∙ st.cleared.clear.clear 0 (omega arith) (omega arith));
          room = omega (arith, room.0, rows.long);
          within = omega (arith, room.1, rows.long, rows.end 0);
          marks = rw (rows.end 0, n, st.opened) marks;
        },
      )

-- the sets are those of the stones at the start
pub record StartAt (b : Board) (s : Sheet) (ours theirs : List ℕ) : Type 0 where
  pub ours_held : (x : ℕ) → held b ours x ≡ among (at_start s) x
  pub theirs_held : (x : ℕ) → held b theirs x ≡ among (opp_cells s.set_up) x

pub start_at : (b : Board) (s : Sheet) (own opp : Cells) (ours : List ℕ) (root : ℕ) → HeldStones b s.set_up own opp → root ≡ s.root.cell
    → ((x : ℕ) → held b ours x ≡ (held b own.rows x || among (stone root) x)) → StartAt b s ours opp.rows
unfolding at_start
start_at b s own opp ours root st e f =
    record {
      ours_held =
          λ x. f x ∙ ap (λ (y : Bool). y || among (stone root) x) (st.own_held.same x)
          ∙ ap (λ (y : ℕ). among (own_cells s.set_up) x || among (stone y) x) e
          ∙ sym (among_append x (own_cells s.set_up) (stone s.root.cell));
      theirs_held = st.opp_held.same;
    }

-- the game after i moves, by the table and the two sets of stones
pub record Playing (b : Board) (s : Sheet) (moves room₀ t room ours theirs : List ℕ) (i : ℕ) : Type 0 where
  pub game : Game
  pub so_far : List ℕ
  pub ruled : Ruled s (start s) so_far game
  pub are_open : Opens s.root.line b t game.open_waits
  pub ours_are : (x : ℕ) → held b ours x ≡ among (mine s game) x
  pub theirs_are : (x : ℕ) → held b theirs x ≡ among game.theirs x
  pub many : length game.answers ≡ i
  pub rounds_are : rounds s (start s) 1 moves ≡ rounds s game (i + 1) (drop i moves)
  pub reached_is : reached s (start s) moves ≡ reached s game (drop i moves)
  pub so_many : length so_far ≡ i
  pub room_is : room ≡ room_after game.answers room₀

-- nothing is written yet
no_answers : (room : List ℕ) → room ≡ room_after [] room
unfolding room_after
no_answers room = refl

pub playing_starts : {b : Board} {s : Sheet} {t room ours theirs : List ℕ} (moves : List ℕ) → Opens s.root.line b t s.root.waits
    → StartAt b s ours theirs → Playing b s moves room t room ours theirs 0
unfolding start mine
playing_starts {b} {s} {t} {room} {ours} moves o st =
    record {
      game = start s;
      so_far = [];
      ruled = no_move;
      are_open = o;
      ours_are = λ x. st.ours_held x ∙ ap (λ (l : List ℕ). among l x) (sym (append-nil (at_start s)));
      theirs_are = st.theirs_held;
      many = refl;
      rounds_are = refl;
      reached_is = refl;
      so_many = refl;
      room_is = no_answers room;
    }

-- one stone more
one_more : (y c : ℕ) (xs : List ℕ) (before after : Bool) → after ≡ (eqb y c || before) → before ≡ among xs y → after ≡ among (xs ++ c ∷ []) y
unfolding among
one_more y c xs before after e f =
    e
    ∙ ap (λ (z : Bool). eqb y c || z) f
    ∙ or_comm (eqb y c) (among xs y)
    ∙ ap (λ (z : Bool). among xs y || z) (sym (or-false (eqb y c)))
    ∙ sym (among_append y xs (c ∷ []))

-- one answer more in the room
pub record Wrote (room later : List ℕ) (i c : ℕ) : Type 0 where
  pub there : i < length room
  pub stored : later ≡ set room i c

one_answer : (xs room₀ : List ℕ) (c : ℕ) → length xs < length room₀ → set (room_after xs room₀) (length xs) c ≡ room_after (xs ++ c ∷ []) room₀
unfolding room_after
one_answer xs room₀ c h =
    let e : length (xs ++ c ∷ []) ≡ suc (length xs) = omega (arith, length-append xs (c ∷ [])) in
    rw (e, drop-cons room₀ (length xs) 0 h, set-append_seam xs (get_or room₀ (length xs) 0) (drop (suc (length xs)) room₀) c)
    (sym (append_assoc xs (c ∷ []) (drop (suc (length xs)) room₀)))

room_more : (xs room₀ room later : List ℕ) (i c : ℕ) → length xs ≡ i → length room ≡ length room₀ → room ≡ room_after xs room₀ → Wrote room later i c
    → later ≡ room_after (xs ++ c ∷ []) room₀
room_more xs room₀ room later i c n l e w =
    rw (w.stored, sym n)
    (ap (λ (z : List ℕ). set z (length xs) c) e ∙ one_answer xs room₀ c (omega (arith, w.there)))

empty_cell : (s : Sheet) (g : Game) (x : ℕ) → T (is_empty s g x) → T (is_cell s.board x)
unfolding is_empty
empty_cell s g x e = fst (is_cell s.board x) (not (is_taken s g x)) e

module _ {t₀ : List ℕ} {b : Board} {p : Player} {s : Sheet} (h : Playable t₀ b p s) {moves room₀ t room ours theirs : List ℕ} {i : ℕ}
    (l : Playing b s moves room₀ t room ours theirs i) where
  -- what is said of a move to the cell
  abbrev checked_now : ℕ → Result (Unit {0})
  checked_now x = checked b p (held b ours) (held b theirs) x

  asked_same : (x : ℕ) → checked s.board s.player (among (mine s l.game)) (among l.game.theirs) x ≡ checked_now x
  asked_same x =
      ap₂ (λ (z : Board) (q : Player). checked z q (among (mine s l.game)) (among l.game.theirs) x) h.on h.player_is
      ∙ checked_same b p (among (mine s l.game)) (held b ours) (among l.game.theirs) (held b theirs) x (λ y. sym (l.ours_are y)) (λ y. sym (l.theirs_are y))

  next_move : i < length moves → drop i moves ≡ get_or moves i 0 ∷ drop (i + 1) moves
  next_move q = rw add-one (drop-cons moves i 0 q)

  opens_now : reached s (start s) moves ≡ l.game → Opens s.root.line s.board t (reached s (start s) moves).open_waits
  opens_now z = rw (z, h.on) l.are_open

  -- the move is refused
  pub playing_stopped : i < length moves → (v : Verdict) → refused v ≡ checked_now (get_or moves i 0) → {t₁ : List ℕ} → Remarked t₁ t
      → PlaysMoves s t₁ moves room₀ (Err (record { verdict = v; place = i + 1 })) t room
  unfolding shown
  playing_stopped q v e r =
      let x = get_or moves i 0 in
      let here = asked_same x ∙ sym e in
      let a = l.rounds_are ∙ ap (rounds s l.game (i + 1)) (next_move q) ∙ rounds_stop s l.game x v (i + 1) (drop (i + 1) moves) here in
      let z = l.reached_is ∙ ap (reached s l.game) (next_move q) ∙ reached_stop s l.game x v (drop (i + 1) moves) here in
      record { reply = sym (ap (shown s) a); rows = r; open_waits = opens_now z; answers = rw z l.room_is }

  -- no move is left
  pub playing_done : i ≡ length moves → {t₁ : List ℕ} → Remarked t₁ t → {over : Bool} → over ≡ joined b p (held b ours)
      → PlaysMoves s t₁ moves room₀ (Ok (record { answers = length moves; over = over })) t room
  unfolding shown is_over
  playing_done q r {over} e =
      let none = drop_of_length-le moves {i = i} (omega arith) in
      let a = l.rounds_are ∙ ap (rounds s l.game (i + 1)) none ∙ rounds_end s l.game (i + 1) in
      let z = l.reached_is ∙ ap (reached s l.game) none ∙ reached_end s l.game in
      let o : over ≡ is_over s l.game
      = e
      ∙ joined_same b p (held b ours) (among (mine s l.game)) (λ y on. l.ours_are y)
      ∙ sym (ap₂ (λ (z : Board) (k : Player). joined z k (among (mine s l.game))) h.on h.player_is) in
      record { reply = ap₂ (λ (n : ℕ) (z : Bool). Ok (record { answers = n; over = z })) (sym (l.many ∙ q)) o ∙ sym (ap (shown s) a); rows = r; open_waits = opens_now z; answers = rw z l.room_is }

  -- the move is answered
  module _ (x : ℕ) (e : got tt ≡ checked_now x) where
    fine_here : checked s.board s.player (among (mine s l.game)) (among l.game.theirs) x ≡ got tt
    fine_here = asked_same x ∙ sym e

    has_answer : HasAnswer s l.game x
    has_answer =
        let a = h.is_accepted in
        (demand_3 a.0 a.1 s a.2).has_answer l.so_far l.game l.ruled (fine_over s l.game x fine_here) x (fine_empty s l.game x fine_here)

    -- there is a wait left for it, so that the answers are fewer than the nodes
    pub playing_few : i < most_nodes
    playing_few =
        let a = h.is_accepted in
        let fewer = (demand_3 a.0 a.1 s a.2).not_yet l.so_far l.game l.ruled (fine_over s l.game x fine_here) in
        omega (arith, fewer, l.so_many, (sheet_read h).few_nodes)

    pub playing_cell : T (is_cell b x)
    playing_cell = subst (λ (z : Board). T (is_cell z x)) h.on (empty_cell s l.game x (fine_empty s l.game x fine_here))

    asked_here : Asked s.root.line b t x l.game.open_waits has_answer.choice
    asked_here = record { are_open = l.are_open; is_answer = has_answer.is_answer }

    pub playing_asked : SomeAsked t x
    playing_asked = (s.root.line, b, l.game.open_waits, has_answer.choice, asked_here)

    module _ {r : ℕ} {t' : List ℕ} (found : (first : ℕ) (on : Board) (ws : Waits) (k : Choice ws) → Asked first on t x ws k → Answered first on t ws k r t') where
      answer_here : Answered s.root.line b t l.game.open_waits has_answer.choice r t'
      answer_here = found s.root.line b l.game.open_waits has_answer.choice asked_here

      pub playing_rows : Remarked t t'
      playing_rows = answer_here.rows

      pub playing_answer : T (is_cell b r)
      playing_answer =
          rw answer_here.cell_is
          (subst (λ (z : Board). T (is_cell z (taken l.game.open_waits has_answer.choice))) h.on
          (empty_cell s l.game (taken l.game.open_waits has_answer.choice) has_answer.was_empty))

      pub playing_again : i < length moves → x ≡ get_or moves i 0 → length room ≡ length room₀ → {room' ours' theirs' : List ℕ}
          → ((y : ℕ) → held b ours' y ≡ (eqb y r || held b ours y)) → ((y : ℕ) → held b theirs' y ≡ (eqb y x || held b theirs y))
          → Wrote room room' i r → Playing b s moves room₀ t' room' ours' theirs' (i + 1)
      unfolding next
      playing_again q w n {room'} {ours'} {theirs'} us them put =
          let g = l.game in
          let f = answer_here in
          let k = has_answer.choice in
          let same : answered g x ≡ next g x k = answered_next s g x k has_answer.is_answer in
          let now : checked s.board s.player (among (mine s g)) (among g.theirs) (get_or moves i 0) ≡ got tt = rw w at fine_here in
          record {
            game = next g x k;
            so_far = l.so_far ++ x ∷ [];
            ruled = subst (λ (z : Game). Ruled s (start s) (l.so_far ++ x ∷ []) z) same (ruled_more x l.ruled (fine_over s g x fine_here) (fine_empty s g x fine_here));
            are_open = f.are_open;
            ours_are = λ y.
                one_more y (taken g.open_waits k) (mine s g) (held b ours y) (held b ours' y)
                (us y ∙ ap (λ (z : ℕ). eqb y z || held b ours y) f.cell_is) (l.ours_are y)
                ∙ ap (λ (z : List ℕ). among z y) (sym (mine_next s g x k));
            theirs_are = λ y. one_more y x g.theirs (held b theirs y) (held b theirs' y) (them y) (l.theirs_are y);
            many = omega (arith, length-append g.answers (taken g.open_waits k ∷ []), l.many);
            rounds_are =
                l.rounds_are
                ∙ ap (rounds s g (i + 1)) (next_move q)
                ∙ rounds_on s g (get_or moves i 0) (i + 1) (drop (i + 1) moves) now
                ∙ ap (λ (z : Game). rounds s z (i + 1 + 1) (drop (i + 1) moves)) (ap (answered g) (sym w) ∙ same);
            reached_is =
                l.reached_is
                ∙ ap (reached s g) (next_move q)
                ∙ reached_on s g (get_or moves i 0) (drop (i + 1) moves) now
                ∙ ap (λ (z : Game). reached s z (drop (i + 1) moves)) (ap (answered g) (sym w) ∙ same);
            so_many = omega (arith, length-append l.so_far (x ∷ []), l.so_many);
            room_is =
                room_more g.answers room₀ room room' i (taken g.open_waits k) l.many n l.room_is
                (subst (λ (z : ℕ). Wrote room room' i z) f.cell_is put);
          }

pub wrote_long : {room later : List ℕ} {i c : ℕ} → Wrote room later i c → length later ≡ length room
wrote_long {room = room} {i = i} {c = c} w = ap length w.stored ∙ length-set room i c

-- the loop's invariant; the table and the room were t₀ and room₀, and these are the set-up stones
pub record Going (b : Board) (p : Player) (moves t₀ room₀ : List ℕ) (own opp : Cells) (t room ours theirs : List ℕ) (i : ℕ) : Type 0 where
  pub rows : Remarked t₀ t
  pub long : length room ≡ length room₀
  pub plays : (s : Sheet) → Playable t₀ b p s → HeldStones b s.set_up own opp → Playing b s moves room₀ t room ours theirs i
