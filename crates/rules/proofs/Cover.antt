-- Demand 3: the invariant of every game that an accepted sheet leads to, and the cover's sentence from it.
use mathlib.Core.Path.{◌≡◌, refl, sym, ap, ◌∙◌, subst, subst⁻¹}
use mathlib.Core.Bool.{false, not, ◌||◌}
use mathlib.Core.List.{List, [], ◌∷◌, ◌++◌, append-nil, append_assoc}
use mathlib.Core.Logic.{◌≢◌, ◌⊎◌, inl, inr, ⊎_elim}
use mathlib.Core.Option.{some}
use Prim.Native.Nat.{ℕ, zero, suc, ◌+◌, ◌<◌, ◌≤◌}
use native.Mathlib.Omega.{arith}
use native.Mathlib.Nat.{add-zero}
use borrow.Author.Tests.{le-ltb}
use lib.Dec.{T, eqb, eqb→eq, eqb_refl, not_T, T_not}
use lib.ListN.{length, take, get_or, length-append}
use lib.Seq.{get_or-append_seam}
use Rattle.rules.specs.Words.{◌∈◌, at_head, in_tail, among}
use Rattle.rules.specs.Board.{is_cell, smallest}
use Rattle.rules.specs.Text.{Bytes}
use Rattle.rules.specs.Joining.{joined}
use Rattle.rules.specs.Tree.{Waits, no_waits, wait, Moves, no_moves, move, Wait, Move, Sheet, stone, set_up_cells, own_cells, opp_cells, at_start, moves_of_waits, moves_of_moves, waits_of_waits, waits_of_moves, every_move, every_wait, wait_count}
use Rattle.rules.specs.Reading.{got}
use Rattle.rules.specs.Fair.{in_waits, in_moves, in_move, holding, in_every}
use Rattle.rules.specs.Live.{living}
use Rattle.rules.specs.Outcomes.{outcomes, outcomes_of_waits}
use Rattle.rules.specs.Choice.{Choice, taken, opened}
use Rattle.rules.specs.Answering.{answer, Game, start, mine, is_over, is_taken, is_empty, next, answered_by, answered}
use Rattle.rules.specs.Entries.{◌>>=◌, refuse_if, accepted, step, played, rounds, played_out, play_on, play}
use Rattle.rules.specs.Plain.{IsApart, IsElusive, IsSheet}
use Rattle.rules.specs.Promise.{Ruled, no_move, one_move_lem, Against, no_turn, turn, MovesToEmpty, JoinedAgainst, AnsweredAt, PlaysOut, Demand3}
use Rattle.rules.specs.Holder.{allowed, Chosen, no_round, round, Covered, HasChoice, Demand3Chosen}
use Rattle.rules.specs.declared.Board.{Board}
use Rattle.rules.proofs.SetUp.{either_side}
use Rattle.rules.proofs.Tests.{true_of, false_of, decide, both, fst, snd, left, right, cases, nor}
use Rattle.rules.proofs.Lists.{in_append, in_first, in_second, append_left, append_right}
use Rattle.rules.proofs.Joining.{joined_more, joins→joined}
use Rattle.rules.proofs.Smallest.{smallest_some, smallest_none}
use Rattle.rules.proofs.Given.{accepted_exactly}
use Rattle.rules.proofs.EachOutcome.{Each, Inside, each_in, each_unmap, each_opened}
use Rattle.rules.proofs.Opening.{Apart, Elusive, FairWaits, FairMoves, waits_in, waits_counted, hold_in, out_hold, fair_opened, count_opened, hold_opened, taken_hold, taken_opened, dodged, taken_not}
use Rattle.rules.proofs.Answering.{answers, is_live_lem, not_held, right_wait}

-- What the tree of an accepted sheet has, for every number
abbrev OnBoard : Board → Waits → Type 0
OnBoard b ws = (x : ℕ) → T (in_waits ws x) → T (is_cell b x)

-- what holds of each move's cell holds of each cell in the waits, and in the moves
mutual
  unfolding in_waits moves_of_waits

  cells_waits : (P : ℕ → Type 0) (ws : Waits) → ((m : Move) → m ∈ moves_of_waits ws → P m.cell) → (x : ℕ) → T (in_waits ws x) → P x
  cells_waits P no_waits h x i = absurd i
  cells_waits P (wait line ms ws) h x i =
      elim (cases (in_moves ms x) (in_waits ws x) i) [
        | inl k ↦ cells_moves P ms (λ m j. h m (in_first (moves_of_waits ws) j)) x k
        | inr k ↦ cells_waits P ws (λ m j. h m (in_second (moves_of_moves ms) j)) x k
      ]

  cells_moves : (P : ℕ → Type 0) (ms : Moves) → ((m : Move) → m ∈ moves_of_moves ms → P m.cell) → (x : ℕ) → T (in_moves ms x) → P x
  cells_moves P no_moves h x i = absurd i
  cells_moves P (move line c ws ms) h x i =
      elim (cases (eqb x c || in_waits ws x) (in_moves ms x) i) [
        | inl k ↦
            elim (cases (eqb x c) (in_waits ws x) k) [
              | inl e ↦ subst⁻¹ P (eqb→eq x c e) (h (record { line = line; cell = c; waits = ws }) at_head)
              | inr j ↦ cells_waits P ws (λ m l. h m (in_tail (in_first (moves_of_moves ms) l))) x j
            ]
        | inr k ↦ cells_moves P ms (λ m j. h m (in_tail (in_second (moves_of_waits ws) j))) x k
      ]

board_waits : (b : Board) (ws : Waits) → ((m : Move) → m ∈ moves_of_waits ws → T (is_cell b m.cell)) → OnBoard b ws
board_waits b ws h = cells_waits (λ c. T (is_cell b c)) ws h

board_moves : (b : Board) (ms : Moves) → ((m : Move) → m ∈ moves_of_moves ms → T (is_cell b m.cell)) → (x : ℕ) → T (in_moves ms x) → T (is_cell b x)
board_moves b ms h = cells_moves (λ c. T (is_cell b c)) ms h

apart_all : (b : Board) (m : Move) → OnBoard b m.waits → IsApart b m → Apart m.cell m.waits
apart_all b m on a =
    record {
      own = not_T (in_waits m.waits m.cell) (λ i. a.own_not_under (on m.cell i) i);
      once = λ x. ⊎_elim (λ i. a.in_one_wait x (on x i)) (λ n. omega (arith, out_hold x m.waits n)) (decide (in_waits m.waits x));
    }

elusive_all : (b : Board) (ms : Moves) → ((x : ℕ) → T (in_moves ms x) → T (is_cell b x)) → ms ≢ no_moves → ((x : ℕ) → T (is_cell b x) → T (in_every ms x) → ⊥) → Elusive ms
unfolding in_every in_moves in_move
elusive_all b no_moves on full e x = absurd (full refl)
elusive_all b (move line c ws ms) on full e x =
    not_T (in_every (move line c ws ms) x)
    (λ h. e x (on x (left (eqb x c || in_waits ws x) (in_moves ms x) (fst (eqb x c || in_waits ws x) (in_every ms x) h))) h)

module _ (b : Board) where
  abbrev GoodMove : Move → Type 0
  GoodMove m = T (is_cell b m.cell) × IsApart b m

  abbrev GoodWait : Wait → Type 0
  GoodWait w = (w.moves ≢ no_moves) × IsElusive b w

  mutual
    unfolding FairWaits moves_of_waits waits_of_waits

    pub fair_waits : (ws : Waits) → ((m : Move) → m ∈ moves_of_waits ws → GoodMove m) → ((w : Wait) → w ∈ waits_of_waits ws → GoodWait w) → FairWaits ws
    fair_waits no_waits f g = tt
    fair_waits (wait line ms ws) f g =
        let here = g (record { line = line; moves = ms }) at_head in
        let under : (m : Move) → m ∈ moves_of_moves ms → GoodMove m = λ m i. f m (in_first (moves_of_waits ws) i) in (
          elusive_all b ms (board_moves b ms (λ m i. (under m i).0)) here.0 here.1.no_cell_in_all,
          fair_moves ms under (λ w i. g w (in_tail (in_first (waits_of_waits ws) i))),
          fair_waits ws (λ m i. f m (in_second (moves_of_moves ms) i)) (λ w i. g w (in_tail (in_second (waits_of_moves ms) i))),
        )

    fair_moves : (ms : Moves) → ((m : Move) → m ∈ moves_of_moves ms → GoodMove m) → ((w : Wait) → w ∈ waits_of_moves ms → GoodWait w) → FairMoves ms
    fair_moves no_moves f g = tt
    fair_moves (move line c ws ms) f g =
        let under : (m : Move) → m ∈ moves_of_waits ws → GoodMove m = λ m i. f m (in_tail (in_first (moves_of_moves ms) i)) in (
          apart_all b (record { line = line; cell = c; waits = ws }) (board_waits b ws (λ m i. (under m i).0)) (f (record { line = line; cell = c; waits = ws }) at_head).1,
          fair_waits ws under (λ w i. g w (in_first (waits_of_moves ms) i)),
          fair_moves ms (λ m i. f m (in_tail (in_second (moves_of_waits ws) i))) (λ w i. g w (in_second (waits_of_waits ws) i)),
        )

-- The invariant. A cell is in at most one open wait, and then it is on the board and bears no stone; each outcome of the open
-- waits joins with the holder's stones
record Safe (s : Sheet) (g : Game) : Type 0 where
  fair : FairWaits g.open_waits
  once : (y : ℕ) → holding g.open_waits y ≤ 1
  board : (y : ℕ) → 1 ≤ holding g.open_waits y → T (is_cell s.board y)
  off_mine : (y : ℕ) → T (among (mine s g) y) → holding g.open_waits y ≡ 0
  off_theirs : (y : ℕ) → T (among g.theirs y) → holding g.open_waits y ≡ 0
  joins : Each (λ o. T (joined s.board s.player (among (mine s g ++ o)))) (outcomes_of_waits (living g.open_waits))

-- the start
begin : (w : ℕ) (t : Bytes) (s : Sheet) → IsSheet w t s → Safe s (start s)
unfolding start mine at_start every_move every_wait outcomes among stone
begin w t s a =
    let r = a.fair.read.spells.well in
    let b = s.board in
    let ws = s.root.waits in
    let on = board_waits b ws r.on_board_lem in
    let top = apart_all b s.root on (a.fair.apart s.root at_head) in
    let off = set_up_off (λ m i. (a.fair.free m (in_tail i)).no_stone (r.on_board_lem m i)) in
    record {
      fair = fair_waits b ws (λ m i. (r.on_board_lem m i, a.fair.apart m (in_tail i))) (λ v i. (r.some_moves v i, a.fair.elusive v i));
      once = top.once;
      board = λ y h. on y (hold_in y ws h);
      off_mine =
          λ y h.
          ⊎_elim
          (λ i.
          ⊎_elim (λ k. off y (left (among (own_cells s.set_up) y) (among (opp_cells s.set_up) y) k)) (λ k. own_off s.root.cell y top.own k)
          (in_append y (own_cells s.set_up) (stone s.root.cell) i))
          (λ i. absurd i) (in_append y (own_cells s.set_up ++ stone s.root.cell) [] h);
      off_theirs = λ y h. off y (right (among (own_cells s.set_up) y) (among (opp_cells s.set_up) y) h);
      joins =
          each_map_nil
          (each_unmap (λ o. T (joined b s.player (among o))) (λ o. at_start s ++ o) (outcomes_of_waits (living ws))
          (each_in (λ o. T (joined b s.player (among o))) (outcomes s) (λ o i. joins→joined b s.player (among o) (a.satisfying o i))));
    }
  where
    set_up_off : ((m : Move) → m ∈ moves_of_waits s.root.waits → T (among (set_up_cells s.set_up) m.cell) → ⊥)
        → (y : ℕ) → T (among (own_cells s.set_up) y || among (opp_cells s.set_up) y) → holding s.root.waits y ≡ 0
    set_up_off free y h =
        ⊎_elim
        (λ i. absurd (cells_waits (λ c. T (among (set_up_cells s.set_up) c) → ⊥) s.root.waits free y i (subst⁻¹ T (either_side s.set_up y) h)))
        (λ n. out_hold y s.root.waits n)
        (decide (in_waits s.root.waits y))

    own_off : (c y : ℕ) → T (not (in_waits s.root.waits c)) → T (among (stone c) y) → holding s.root.waits y ≡ 0
    own_off zero y n h = absurd h
    own_off (suc c) y n h =
        ⊎_elim
        (λ e. subst⁻¹ (λ (z : ℕ). holding s.root.waits z ≡ 0) (eqb→eq y (suc c) e) (out_hold (suc c) s.root.waits n))
        (λ e. absurd e)
        (cases (eqb y (suc c)) false h)

    each_map_nil : Each (λ o. T (joined s.board s.player (among (at_start s ++ o)))) (outcomes_of_waits (living s.root.waits))
        → Each (λ o. T (joined s.board s.player (among ((at_start s ++ []) ++ o)))) (outcomes_of_waits (living s.root.waits))
    each_map_nil h = rw (append-nil (at_start s)) h

-- a stone more
snoc_in : (xs : List ℕ) (c y : ℕ) → T (among (xs ++ c ∷ []) y) → T (eqb y c) ⊎ T (among xs y)
unfolding among
snoc_in xs c y h = elim (in_append y xs (c ∷ []) h) [ inl i ↦ inr i | inr i ↦ elim (cases (eqb y c) false i) [ inl e ↦ inl e | inr e ↦ absurd e ] ]

pub mine_next : (s : Sheet) (g : Game) (x : ℕ) (k : Choice g.open_waits) → mine s (next g x k) ≡ mine s g ++ taken g.open_waits k ∷ []
unfolding mine next
mine_next s g x k = sym (append_assoc (at_start s) g.answers (taken g.open_waits k ∷ []))

-- a new stone, which no open wait holds any more, and the older stones
cleared : (c : ℕ) (old : List ℕ) (ws us : Waits) → ((y : ℕ) → holding us y ≤ holding ws y) → holding us c ≡ 0
    → ((y : ℕ) → T (among old y) → holding ws y ≡ 0) → (y : ℕ) → T (among (old ++ c ∷ []) y) → holding us y ≡ 0
cleared c old ws us le z off y h =
    ⊎_elim
    (λ e. subst⁻¹ (λ (m : ℕ). holding us m ≡ 0) (eqb→eq y c e) z)
    (λ m. omega (arith, le y, off y m))
    (snoc_in old c y h)

-- after an allowed choice no open wait holds x
gone : (x : ℕ) (ws : Waits) → FairWaits ws → holding ws x ≤ 1 → (k : Choice ws) → T (allowed x ws k) → holding (opened ws k) x ≡ 0
gone x ws f a k h = ⊎_elim (λ t. dodged x ws k a (not_held x ws k h) t) (λ n. omega (arith, hold_opened x ws f k, out_hold x ws n)) (right_wait x ws k h)

stones_inside : (xs : List ℕ) (c : ℕ) (o r : List ℕ) → Inside o (c ∷ r) → Inside (xs ++ o) ((xs ++ c ∷ []) ++ r)
unfolding among
stones_inside xs c o r f y h =
    elim (in_append y xs o h) [
      | inl i ↦ append_left y (xs ++ c ∷ []) r (append_left y xs (c ∷ []) i)
      | inr i ↦
          elim (cases (eqb y c) (among r y) (f y i)) [
            | inl e ↦ append_left y (xs ++ c ∷ []) r (append_right y xs (c ∷ []) (left (eqb y c) false e))
            | inr e ↦ append_right y (xs ++ c ∷ []) r e
          ]
    ]

-- a round keeps the invariant
safe_next : (s : Sheet) (g : Game) → Safe s g → (x : ℕ) (k : Choice g.open_waits) → T (allowed x g.open_waits k) → Safe s (next g x k)
unfolding next
safe_next s g i x k h =
    let ws = g.open_waits in
    let c = taken ws k in
    let same = mine_next s g x k in
    record {
      fair = fair_opened ws i.fair k;
      once = λ y. omega (arith, hold_opened y ws i.fair k, i.once y);
      board = λ y p. i.board y (omega (arith, hold_opened y ws i.fair k, p));
      off_mine =
          λ y m.
          cleared c (mine s g) ws (opened ws k) (λ y. hold_opened y ws i.fair k) (taken_opened ws i.fair k (i.once c)) i.off_mine y
          (subst (λ (l : List ℕ). T (among l y)) same m);
      off_theirs = cleared x g.theirs ws (opened ws k) (λ y. hold_opened y ws i.fair k) (gone x ws i.fair (i.once x) k h) i.off_theirs;
      joins =
          subst⁻¹ (λ (l : List ℕ). Each (λ o. T (joined s.board s.player (among (l ++ o)))) (outcomes_of_waits (living (opened ws k)))) same
          (each_opened ws k (is_live_lem x ws k h)
          (λ o. T (joined s.board s.player (among (mine s g ++ o))))
          (λ r. T (joined s.board s.player (among ((mine s g ++ c ∷ []) ++ r))))
          (λ o r inside. joined_more s.board s.player (among (mine s g ++ o)) (among ((mine s g ++ c ∷ []) ++ r)) (λ y on. stones_inside (mine s g) c o r inside y))
          i.joins);
    }

-- what the invariant gives
cell_empty : (s : Sheet) (g : Game) → Safe s g → (y : ℕ) → 1 ≤ holding g.open_waits y → T (is_empty s g y)
unfolding is_empty is_taken
cell_empty s g i y h =
    both (is_cell s.board y) (not (among (mine s g) y || among g.theirs y)) (i.board y h)
    (nor (among (mine s g) y) (among g.theirs y)
    (not_T (among (mine s g) y) (λ m. omega (arith, h, i.off_mine y m)))
    (not_T (among g.theirs y) (λ m. omega (arith, h, i.off_theirs y m))))

choice_empty : (s : Sheet) (g : Game) → Safe s g → (x : ℕ) (k : Choice g.open_waits) → T (allowed x g.open_waits k)
    → T (is_empty s g (taken g.open_waits k)) × (taken g.open_waits k ≢ x)
choice_empty s g i x k h = (
  cell_empty s g i (taken g.open_waits k) (taken_hold g.open_waits k),
  λ e. T_not (eqb x (taken g.open_waits k)) (taken_not x g.open_waits k (not_held x g.open_waits k h)) (subst⁻¹ (λ (z : ℕ). T (eqb x z)) e (eqb_refl x)),
)

-- until the sides are joined a wait is open
waiting : (s : Sheet) (g : Game) → Safe s g → T (not (is_over s g)) → 1 ≤ waits_in g.open_waits
unfolding is_over waits_in living outcomes_of_waits
waiting s g i u = go g.open_waits i.joins
  where
    go : (ws : Waits) → Each (λ o. T (joined s.board s.player (among (mine s g ++ o)))) (outcomes_of_waits (living ws)) → 1 ≤ waits_in ws
    go no_waits h =
        absurd
        (T_not (joined s.board s.player (among (mine s g))) u
        (subst (λ (l : List ℕ). T (joined s.board s.player (among l))) (append-nil (mine s g)) h.0))
    go (wait line ms ws) h = omega arith

covered : (s : Sheet) (n : ℕ) (g : Game) → Safe s g → n + waits_in g.open_waits ≤ wait_count s → Covered s n g
covered s n g i c =
    record {
      within = omega (arith, c);
      not_yet = λ u. omega (arith, c, waiting s g i u);
      has_cell = λ u.
          let a = answers 0 g.open_waits i.fair (waiting s g i u) in
          (taken g.open_waits a.0, cell_empty s g i (taken g.open_waits a.0) (taken_hold g.open_waits a.0));
      one_wait = i.once;
    }

-- any allowed choices
chosen_safe : (s : Sheet) (g : Game) (n : ℕ) (h : Game) → Chosen s g n h → Safe s g → Safe s h × (n + waits_in h.open_waits ≤ waits_in g.open_waits)
unfolding next
chosen_safe s g _ _ no_round i = (i, omega arith)
chosen_safe s g _ h (round {n = n} x k u e a r) i =
    let t = chosen_safe s (next g x k) n h r (safe_next s g i x k a) in
    (t.0, omega (arith, t.1, count_opened g.open_waits k))

-- the sheet's waits
all_waits : (s : Sheet) → waits_in (start s).open_waits ≡ wait_count s
unfolding start wait_count every_wait
all_waits s = sym (waits_counted s.root.waits)

-- every game that allowed choices lead to
begun : (w : ℕ) (t : Bytes) (s : Sheet) → accepted w t ≡ got s → Safe s (start s)
begun w t s e = begin w t s ((accepted_exactly w t s).0 e)

-- Demand 3, whatever allowed moves the holder takes
pub demand_3_chosen : Demand3Chosen
demand_3_chosen w t s e n g r =
    let (i, fewer) = chosen_safe s (start s) n g r (begun w t s e) in (
      covered s n g i (omega (arith, fewer, all_waits s)),
      record { offered = λ u x m. answers x g.open_waits i.fair (waiting s g i u); to_empty = choice_empty s g i },
    )

-- the answering rule makes allowed choices
rule_next : (g : Game) (x : ℕ) (k : Choice g.open_waits) → answer x g.open_waits ≡ some k → answered g x ≡ next g x k
unfolding answered answered_by
rule_next g x k e = rw e

-- the game after the rule's answer is safe, and has a wait fewer
rule_safe : (s : Sheet) (g : Game) → Safe s g → T (not (is_over s g)) → (x : ℕ) → Safe s (answered g x) × (waits_in (answered g x).open_waits < waits_in g.open_waits)
unfolding next
rule_safe s g i u x =
    let a = answers x g.open_waits i.fair (waiting s g i u) in
    rw (rule_next g x a.0 a.1) (safe_next s g i x a.0 a.2, omega (arith, count_opened g.open_waits a.0))

ruled_chosen : (s : Sheet) (g : Game) (xs : List ℕ) (h : Game) → Ruled s g xs h → Safe s g → Chosen s g (length xs) h
ruled_chosen s g _ _ no_move i = no_round
ruled_chosen s g _ h (one_move_lem {x = x} {xs = xs} u e r) i =
    let a = answers x g.open_waits i.fair (waiting s g i u) in
    let same = rule_next g x a.0 a.1 in
    round x a.0 u e a.2 (subst (λ (z : Game). Chosen s z (length xs) h) same (ruled_chosen s (answered g x) xs h r (rule_safe s g i u x).0))

-- a game against an opponent goes on where it ended
against_more : (s : Sheet) (opponent : Game → ℕ) (g h k : Game) (xs ys : List ℕ) → Against s opponent g xs h → Against s opponent h ys k → Against s opponent g (xs ++ ys) k
against_more s opponent g h k _ ys no_turn r = r
against_more s opponent g h k _ ys (turn u q) r = turn u (against_more s opponent _ h k _ ys q r)

-- a game against an opponent, to the end: `fuel` is at least the number of waits left
to_the_end : (s : Sheet) (opponent : Game → ℕ) → MovesToEmpty s opponent
    → (fuel : ℕ) (before : List ℕ) (g : Game) → Against s opponent (start s) before g → Safe s g → waits_in g.open_waits ≤ fuel
    → (xs : List ℕ) × (h : Game) × Against s opponent g xs h × Ruled s g xs h × T (is_over s h) × (length xs ≤ fuel)
to_the_end s opponent moves zero before g q i c =
    ⊎_elim (λ o. ([], g, no_turn, no_move, o, omega arith)) (λ u. absurd (omega (arith, c, waiting s g i u))) (decide (is_over s g))
to_the_end s opponent moves (suc fuel) before g q i c =
    ⊎_elim
    (λ o. ([], g, no_turn, no_move, o, omega arith))
    (λ u.
    let x = opponent g in
    let after = rule_safe s g i u x in
    let so_far = against_more s opponent (start s) g (answered g x) before (x ∷ []) q (turn u no_turn) in
    let r = to_the_end s opponent moves fuel (before ++ x ∷ []) (answered g x) so_far after.0 (omega (arith, c, after.1)) in
    (x ∷ r.0, r.1, turn u r.2, one_move_lem u (moves before g q u) r.3, r.4, omega (arith, r.5)))
    (decide (is_over s g))

joined_against : (s : Sheet) → Safe s (start s) → (opponent : Game → ℕ) → MovesToEmpty s opponent → JoinedAgainst s opponent
joined_against s i opponent moves =
    let r = to_the_end s opponent moves (wait_count s) [] (start s) no_turn i (omega (arith, all_waits s)) in
    record { moves = r.0; game = r.1; his = r.2; ruled = r.3; joined = r.4; within = r.5 }

-- there is such an opponent
against_safe : (s : Sheet) (opponent : Game → ℕ) (g : Game) (xs : List ℕ) (h : Game) → Against s opponent g xs h → Safe s g → Safe s h
against_safe s opponent g _ _ no_turn i = i
against_safe s opponent g _ h (turn {xs = xs} u q) i =
    against_safe s opponent (answered g (opponent g)) xs h q (rule_safe s g i u (opponent g)).0

some_opponent : (s : Sheet) → Safe s (start s) → MovesToEmpty s (λ g. smallest s.board (is_empty s g))
unfolding is_empty
some_opponent s safe xs g q u =
    let i = against_safe s (λ g. smallest s.board (is_empty s g)) (start s) xs g q safe in
    let a = answers 0 g.open_waits i.fair (waiting s g i u) in
    let y = taken g.open_waits a.0 in
    let y-empty = cell_empty s g i y (taken_hold g.open_waits a.0) in
    go y y-empty (smallest s.board (is_empty s g)) refl
  where
    on_board_lem : (y : ℕ) → T (is_empty s g y) → T (is_cell s.board y)
    on_board_lem y h = fst (is_cell s.board y) (not (is_taken s g y)) h

    go : (y : ℕ) → T (is_empty s g y) → (c : ℕ) → smallest s.board (is_empty s g) ≡ c → T (is_empty s g (smallest s.board (is_empty s g)))
    go y h zero z = absurd (smallest_none s.board (is_empty s g) z y (on_board_lem y h) h)
    go y h (suc c) z = subst⁻¹ (λ (k : ℕ). T (is_empty s g k)) z (smallest_some s.board (is_empty s g) c z).in_set

-- answers are kept
chosen_on : (s : Sheet) (g : Game) (n : ℕ) (h : Game) → Chosen s g n h → (more : List ℕ) × (h.answers ≡ g.answers ++ more)
unfolding next
chosen_on s g _ _ no_round = ([], sym (append-nil g.answers))
chosen_on s g _ h (round {n = n} x k u e a r) =
    let later = chosen_on s (next g x k) n h r in
    (taken g.open_waits k ∷ later.0, later.1 ∙ append_assoc g.answers (taken g.open_waits k ∷ []) later.0)

-- a game goes on where it ended
ruled_more : (s : Sheet) (g h k : Game) (xs ys : List ℕ) → Ruled s g xs h → Ruled s h ys k → Ruled s g (xs ++ ys) k
ruled_more s g h k _ ys no_move r = r
ruled_more s g h k _ ys (one_move_lem u e q) r = one_move_lem u e (ruled_more s _ h k _ ys q r)

-- the answers of a game that goes on from g, which the moves before it led to
record AnsweredOn (s : Sheet) (before xs : List ℕ) (place cell : ℕ) : Type 0 where
  game : Game
  stands : Ruled s (start s) (before ++ take place xs) game
  was_empty : T (is_empty s game cell)
  not_theirs : cell ≢ get_or xs place 0

-- the rule's answer is the next one of the game
next_answer : (s : Sheet) (g : Game) (x : ℕ) (k : Choice g.open_waits) → answer x g.open_waits ≡ some k → (n : ℕ) (h : Game) → Chosen s (answered g x) n h
    → (get_or h.answers (length g.answers) 0 ≡ taken g.open_waits k) × (length (answered g x).answers ≡ length g.answers + 1)
unfolding next
next_answer s g x k e n h c =
    let same = rule_next g x k e in
    let later = chosen_on s (next g x k) n h (subst (λ (z : Game). Chosen s z n h) same c) in (
      ap (λ (l : List ℕ). get_or l (length g.answers) 0) (later.1 ∙ append_assoc g.answers (taken g.open_waits k ∷ []) later.0)
          ∙ get_or-append_seam g.answers (taken g.open_waits k) later.0 0,
      ap (λ (z : Game). length z.answers) same ∙ length-append g.answers (taken g.open_waits k ∷ []),
    )

each_on : (s : Sheet) (before : List ℕ) (g : Game) → Ruled s (start s) before g → Safe s g → (xs : List ℕ) (h : Game) → Ruled s g xs h
    → (k : ℕ) → k < length xs → (at : ℕ) → at ≡ length g.answers + k → AnsweredOn s before xs k (get_or h.answers at 0)
each_on s before g q i _ h no_move k small at is = absurd (omega (arith, small))
each_on s before g q i _ h (one_move_lem {x = x} {xs = xs} u e r) zero small at is =
    let a = answers x g.open_waits i.fair (waiting s g i u) in
    let f = choice_empty s g i x a.0 a.2 in
    let n = next_answer s g x a.0 a.1 (length xs) h (ruled_chosen s (answered g x) xs h r (rule_safe s g i u x).0) in
    let first : at ≡ length g.answers = omega (arith, is) in
    record { game = g; stands = rw (append-nil before) q; was_empty = rw (first, n.0) f.0; not_theirs = rw (first, n.0) f.1 }
each_on s before g q i _ h (one_move_lem {x = x} {xs = xs} u e r) (suc k) small at is =
    let a = answers x g.open_waits i.fair (waiting s g i u) in
    let safe = (rule_safe s g i u x).0 in
    let n = next_answer s g x a.0 a.1 (length xs) h (ruled_chosen s (answered g x) xs h r safe) in
    let more = ruled_more s (start s) g (answered g x) before (x ∷ []) q (one_move_lem u e no_move) in
    let o = each_on s (before ++ x ∷ []) (answered g x) more safe xs h r k (omega (arith, small)) at (omega (arith, is, n.1)) in
    record { game = o.game; stands = rw append_assoc at o.stands; was_empty = o.was_empty; not_theirs = o.not_theirs }

answered_at : (s : Sheet) → Safe s (start s) → (xs : List ℕ) (g : Game) → Ruled s (start s) xs g → (place : ℕ) → place < length xs
    → AnsweredAt s xs place (get_or g.answers place 0)
answered_at s i xs g r place small =
    let none : length (start s).answers ≡ 0 = unfold start in refl in
    let a = each_on s [] (start s) no_move i xs g r place small place (omega (arith, none)) in
    record { game = a.game; before = a.stands; was_empty = a.was_empty; not_theirs = a.not_theirs }

-- Play's reply to such moves
step_got : (s : Sheet) (g : Game) (x : ℕ) → T (not (is_over s g)) → T (is_empty s g x) → step s g x ≡ got (answered g x)
unfolding step is_empty refuse_if ◌>>=◌
step_got s g x u e =
    rw (
      false_of (is_over s g) (T_not (is_over s g) u),
      true_of (is_cell s.board x) (fst (is_cell s.board x) (not (is_taken s g x)) e),
      false_of (is_taken s g x) (T_not (is_taken s g x) (snd (is_cell s.board x) (not (is_taken s g x)) e)),
    )

-- moves by the rule are played, and the moves after them go on from there
pub ruled_rounds : (s : Sheet) (g : Game) (place : ℕ) (xs ys : List ℕ) (h : Game) → Ruled s g xs h
    → rounds s g place (xs ++ ys) ≡ rounds s h (place + length xs) ys
unfolding rounds
ruled_rounds s g place _ ys _ no_move = ap (λ (k : ℕ). rounds s g k ys) (sym (add-zero place))
ruled_rounds s g place _ ys h (one_move_lem {x = x} {xs = xs} u e r) =
    let on : place + 1 + length xs ≡ place + suc (length xs) = omega arith in
    rw (step_got s g x u e, rounds) (ruled_rounds s (answered g x) (place + 1) xs ys h r ∙ ap (λ (k : ℕ). rounds s h k ys) on)

pub ruled_played : (s : Sheet) (g : Game) (place : ℕ) (xs : List ℕ) (h : Game) → Ruled s g xs h → rounds s g place xs ≡ played h
unfolding rounds
ruled_played s g place xs h r = ap (rounds s g place) (sym (append-nil xs)) ∙ ruled_rounds s g place xs [] h r

chosen_answers : (s : Sheet) (g : Game) (n : ℕ) (h : Game) → Chosen s g n h → length h.answers ≡ length g.answers + n
unfolding next
chosen_answers s g _ _ no_round = omega arith
chosen_answers s g _ h (round {n = n} x k u e a r) =
    omega (arith, chosen_answers s (next g x k) n h r, length-append g.answers (taken g.open_waits k ∷ []))

plays_out : (w : ℕ) (t : Bytes) (s : Sheet) → accepted w t ≡ got s → (xs : List ℕ) (g : Game) → Ruled s (start s) xs g → (room : ℕ) → length xs ≤ room
    → PlaysOut w t s xs room g
unfolding play play_on played_out refuse_if ◌>>=◌
plays_out w t s e xs g r room enough =
    record {
      reply = rw (e, le-ltb room (length xs) enough, ruled_played s (start s) 1 xs g r);
      one_each = counted (ruled_chosen s (start s) xs g r (begun w t s e));
    }
  where
    counted : Chosen s (start s) (length xs) g → length g.answers ≡ length xs
    counted c = let none : length (start s).answers ≡ 0 = unfold start in refl in omega (arith, none, chosen_answers s (start s) (length xs) g c)

-- Demand 3, the cover's sentence
pub demand_3 : Demand3
demand_3 w t s e =
    record {
      plays = plays_out w t s e;
      has_cell = λ xs g r. (chosen xs g r).0.has_cell;
      has_answer =
          λ xs g r u x m.
          let (k, is, may) = (chosen xs g r).1.offered u x m in
          let (empty, other) = (chosen xs g r).1.to_empty x k may in
          record { choice = k; is_answer = is; was_empty = empty; not_theirs = other };
      each_answer = answered_at s (begun w t s e);
      within = λ xs g r. (chosen xs g r).0.within;
      not_yet = λ xs g r. (chosen xs g r).0.not_yet;
      is_joined = joined_against s (begun w t s e);
      has_opponent = some_opponent s (begun w t s e);
    }
  where
    -- a game by the rule is one of allowed choices
    chosen : (xs : List ℕ) (g : Game) → Ruled s (start s) xs g → Covered s (length xs) g × HasChoice s g
    chosen xs g r = demand_3_chosen w t s e (length xs) g (ruled_chosen s (start s) xs g r (begun w t s e))
