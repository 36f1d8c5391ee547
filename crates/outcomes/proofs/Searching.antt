-- The search wait by wait: the moves of the wait at hand one after another, each with the outcomes that go on from it.
use Rattle.std.specs.Prelude as code
use Rattle.std.specs.Result.{MatchResult, IsErrAnd}
use Rattle.std.proofs.lemmas.Result.{err_from_is_err_and}
use mathlib.Core.Path.{◌≡◌, refl, sym, ap, subst, ◌∙◌}
use mathlib.Core.Bool.{Bool, true, false, ◌||◌}
use Prim.Native.Nat.{ℕ, ◌+◌, ◌*◌, ◌/◌, ◌-◌, ◌<◌, ◌≤◌}
use native.Mathlib.Nat.{mul-div_cancel_left, le-mul_of_pos_right, add-mul}
use native.Mathlib.Omega.{arith}
use mathlib.Core.List.{List, ◌++◌}
use lib.ListN.{length}
use Rattle.rules.specs.declared.Board.{Board}
use Rattle.rules.specs.declared.Player.{Player}
use Rattle.rules.specs.declared.Verdict.{Verdict}
use Rattle.rules.specs.declared.Verdict.TheVariants.{NotJoined}
use Rattle.rules.specs.Sizes.{most_outcomes}
use Rattle.rules.specs.Words.{among}
use Rattle.rules.specs.Board.{cells, listed}
use Rattle.rules.specs.Tree.{Waits, wait, Moves, no_moves, move, stone, and_then}
use Rattle.rules.specs.Joining.{joined}
use Rattle.rules.specs.Outcomes.{count_of_waits, count_of_moves}
use Rattle.rules.specs.Passing.{UnlikeWaits, UnlikeMoves}
use Rattle.rules.specs.Reading.{Result, refused, got}
use Rattle.rules.specs.Entries.{◌>>=◌}
use Rattle.rules.proofs.Lists.{among_append}
use Rattle.rules.proofs.Tests.{same_test}
use Rattle.rules.proofs.Joining.{listed_in, in_listed, joined_same}
use Rattle.rules.proofs.Looking.{count_then, then_none, unlike_then, passed_few}
use Rattle.rules.proofs.Places.{cell_range}
use Rattle.cells.specs.Cells.{held, Holds}
use Rattle.cells.proofs.Held.{held_cell}
use Rattle.nodes.specs.Nodes.{a_move, size, nodes_of_waits, nodes_of_moves}
use Rattle.nodes.specs.Table.{cell_in, end_in, count_in, Each}
use Rattle.nodes.proofs.Trees.{moves_count, move_first}
use Rattle.outcomes.specs.Searching.{Seated, Ahead, no_more, WaitNext, Going, SomeGoing, walked, answer_of, found_as, SearchFound, Countable, UnjoinedFound}
use Rattle.outcomes.proofs.Picking.{wait_weight, move_weight}
use Rattle.outcomes.proofs.GoingOn.{walked_joined, walked_here, walked_none, walked_choice, walked_got}
use Rattle.outcomes.proofs.Ahead.{ahead_most, ahead_some, first_ahead, none_ahead, waits_before, moves_before}

-- a set with a stone more holds the cells with that stone
pub holds_more : {b : Board} {rows out xs : List ℕ} (c : ℕ) → Holds b rows xs → ((x : ℕ) → held b out x ≡ (held b rows x || among (stone c) x)) → Holds b out (xs ++ stone c)
holds_more {xs = xs} c h f =
    record { same = λ x. f x ∙ ap (λ (v : Bool). v || among (stone c) x) (h.same x) ∙ sym (among_append x xs (stone c)) }

-- a set joins where its cells do
held_joined : {b : Board} {rows xs : List ℕ} (p : Player) → Holds b rows xs → joined b p (held b rows) ≡ joined b p (among xs)
held_joined {b} {rows} {xs} p h = joined_same b p (held b rows) (among xs) (λ y on. h.same y)

-- every set is that of some cells
pub set_holds : (b : Board) (rows : List ℕ) → Holds b rows (listed b (held b rows))
set_holds b rows =
    record {
      same = λ x. same_test (held b rows x) (among (listed b (held b rows)) x) (λ h. in_listed b (held b rows) x (held_cell b rows x h) h) (λ h. (listed_in b (held b rows) x h).1);
    }

-- from a set that joins all but one are passed over; a set that does not, and has no wait left, is the first
pub found_joining : {b : Board} (p : Player) {t : List ℕ} (rows : List ℕ) {end i many : ℕ} (number : ℕ) → joined b p (held b rows) ≡ true
    → SearchFound b p t end i many number rows (code.Ok (many - 1))
found_joining {b} p rows number e ws xs g h =
    walked_joined b p number xs ws (sym (held_joined p h) ∙ e) (ahead_some g.ahead) ∙ ap (λ (k : ℕ). got (k - 1)) (sym g.many_are)

pub found_here : {b : Board} (p : Player) {t : List ℕ} (rows : List ℕ) {end i many : ℕ} (number : ℕ) {r : ℕ} → joined b p (held b rows) ≡ false → ((ws : Waits) → Ahead b t end i ws → WaitNext b t end i r ws)
    → r ≡ end → SearchFound b p t end i many number rows (code.Err number)
found_here {b} p rows number {r = r} e f z ws xs g h =
    ap (walked b p number xs) (none_ahead r z (f ws g.ahead).ahead) ∙ walked_here b p number xs (sym (held_joined p h) ∙ e)

-- the walk among all comes to what the walk from the number n on comes to, and so many passed over before
abbrev WalksOn : Board → Player → (number : ℕ) → List ℕ → Waits → (n passed : ℕ) → Waits → Type 0
WalksOn b p number rows ws n passed left = (xs : List ℕ) → Holds b rows xs → walked b p number xs ws ≡ (walked b p n xs left >>= λ k. got (passed + k))

-- of the moves of the wait at hand the last are left, from node next on; the walk goes on, at the number n, among what goes on from these
pub record ChoicesLeft (b : Board) (p : Player) (t : List ℕ) (end number : ℕ) (rows : List ℕ) (ws : Waits) (after others next n passed : ℕ) : Type 0 where
  pub line : ℕ
  pub moves : Moves
  pub later : Waits
  pub unlike : UnlikeMoves moves × UnlikeWaits later
  pub each : Each (Seated b t) a_move next (nodes_of_moves moves)
  pub up_to : next + size (nodes_of_moves moves) ≡ after
  pub ahead : Ahead b t end after later
  pub others_are : others ≡ count_of_waits later
  pub few : n + count_of_moves moves * others ≤ most_outcomes
  pub passed_few : passed ≤ n
  pub so_far : WalksOn b p number rows ws n passed (wait line moves later)

-- the wait at hand: it stands in the table, and all its moves are left
pub record ChoicesStart (b : Board) (p : Player) (t : List ℕ) (end number many : ℕ) (rows : List ℕ) (ws : Waits) (at : ℕ) : Type 0 where
  pub room : 4 * at + 3 < length t
  pub own : 0 < count_in t at
  pub left : ChoicesLeft b p t end number rows ws (end_in t at) (many / count_in t at) (at + 1) number 0

from_none : (r : Result ℕ) → r ≡ (r >>= λ k. got (0 + k))
unfolding ◌>>=◌
from_none (refused v) = refl
from_none (got k) = let z : k ≡ 0 + k = omega arith in ap got z

choices_start : {b : Board} {p : Player} {t rows : List ℕ} {end i many number at : ℕ} {ws : Waits} → Going b t end i many number ws → WaitNext b t end i at ws → ¬ (at ≡ end)
    → ChoicesStart b p t end number many rows ws at
unfolding count_of_waits UnlikeWaits
choices_start {b} {p} {t} {rows} {end} {i} {many} {number} {at} {ws} g f nz =
    let before : at < end = omega (arith, ahead_most f.ahead) in
    let a = first_ahead before (f.is_wait_lem before) f.ahead in
    let all : many ≡ count_of_moves a.moves * count_of_waits a.others = g.many_are ∙ ap count_of_waits a.are in
    let some : 0 < count_of_waits a.others = ahead_some a.later in
    let own : count_in t at ≡ count_of_moves a.moves = wait_weight a.moves a.at.here.weight (omega (arith, le-mul_of_pos_right (count_of_moves a.moves) some, g.few)) in
    let positive : 0 < count_of_moves a.moves = omega (arith, a.at.here.some, moves_count a.moves) in
    let others : many / count_in t at ≡ count_of_waits a.others = rw (own, all) (mul-div_cancel_left (count_of_waits a.others) positive) in
    record {
      room = a.at.here.weight.row.room;
      own = omega arith;
      left = record {
        line = a.line;
        moves = a.moves;
        later = a.others;
        unlike = subst UnlikeWaits a.are g.unlike;
        each = a.at.below;
        up_to = sym a.at.here.weight.end;
        ahead = a.later;
        others_are = others;
        few = rw others (omega (arith, g.few));
        passed_few = omega arith;
        so_far = λ xs h. ap (walked b p number xs) a.are ∙ from_none (walked b p number xs (wait a.line a.moves a.others));
      };
    }

-- the set with the next move's stone
abbrev WithNext : Board → (t rows out : List ℕ) → (next : ℕ) → Type 0
WithNext b t rows out next = (x : ℕ) → held b out x ≡ (held b rows x || among (stone (cell_in t next)) x)

-- the first of the moves that are left: what goes on from it is walked, and the others are left
pub record ChoiceStep (b : Board) (p : Player) (t : List ℕ) (end number : ℕ) (rows : List ℕ) (ws : Waits) (after others next n passed : ℕ) : Type 0 where
  pub room : 4 * next + 3 < length t
  pub on : next < end_in t next
  pub cell_on_lem : cell_in t next ≤ cells b
  pub inside : next < end
  pub few : n + count_in t next * others ≤ most_outcomes
  pub going : SomeGoing b t end (next + 1) (count_in t next * others) n
  pub then : (out : List ℕ) (more : ℕ) → WithNext b t rows out next → SearchFound b p t end (next + 1) (count_in t next * others) n out (code.Ok more)
      → ChoicesLeft b p t end number rows ws after others (end_in t next) (n + count_in t next * others) (passed + more)
  pub found : (m : ℕ) (out : List ℕ) → WithNext b t rows out next → SearchFound b p t end (next + 1) (count_in t next * others) n out (code.Err m)
      → (xs : List ℕ) → Holds b rows xs → walked b p number xs ws ≡ refused (NotJoined m)

-- so many more are passed over at the first move
one_more : (r : Result ℕ) (passed more : ℕ) → ((r >>= λ j. got (more + j)) >>= λ k. got (passed + k)) ≡ (r >>= λ k. got (passed + more + k))
unfolding ◌>>=◌
one_more (refused v) passed more = refl
one_more (got j) passed more = let z : passed + (more + j) ≡ passed + more + j = omega arith in ap got z

choice_step : {b : Board} {p : Player} {t rows : List ℕ} {end number after others next n passed : ℕ} {ws : Waits} → joined b p (held b rows) ≡ false → next < after
    → ChoicesLeft b p t end number rows ws after others next n passed → ChoiceStep b p t end number rows ws after others next n passed
unfolding nodes_of_moves size count_of_moves ◌>>=◌ cells UnlikeMoves
choice_step {b} {p} {t} {rows} {end} {number} {after} {others} {next} {n} {passed} {ws} no_join h l = go l.moves l.unlike.0 l.each l.up_to l.few l.so_far
  where
    go : (ms : Moves) → UnlikeMoves ms → Each (Seated b t) a_move next (nodes_of_moves ms) → next + size (nodes_of_moves ms) ≡ after → n + count_of_moves ms * others ≤ most_outcomes
        → WalksOn b p number rows ws n passed (wait l.line ms l.later) → ChoiceStep b p t end number rows ws after others next n passed
    go no_moves v e u m s = absurd (omega arith)
    go (move line c us ms) v e u m s =
        let f = move_first line c us ms e in
        let some : 0 < others = omega (arith, l.others_are, ahead_some l.ahead) in
        let sum : count_of_moves (move line c us ms) * others ≡ count_of_waits us * others + count_of_moves ms * others = add-mul (count_of_waits us) (count_of_moves ms) others in
        let own : count_in t next ≡ count_of_waits us = move_weight us f.0.here.weight (omega (arith, le-mul_of_pos_right (count_of_waits us) some)) in
        let below = and_then us l.later in
        let many : count_in t next * others ≡ count_of_waits below = rw (own, l.others_are) (sym (count_then us l.later)) in
        let up_to : next + 1 + size (nodes_of_waits us) + size (nodes_of_moves ms) ≡ after = omega arith in
        let end_is : end_in t next ≡ next + 1 + size (nodes_of_waits us) = f.0.here.weight.end in
        let few : n + count_in t next * others ≤ most_outcomes = rw own (omega arith) in
        let going : Going b t end (next + 1) (count_in t next * others) n below =
        record {
          ahead = waits_before us f.0.below (moves_before ms f.1 (rw up_to l.ahead));
          unlike = unlike_then us l.later v.1 l.unlike.1;
          many_are = many;
          few = few;
        } in
        let searched : (out : List ℕ) (r : code.Result ℕ ℕ) → WithNext b t rows out next → SearchFound b p t end (next + 1) (count_in t next * others) n out r
        → (xs : List ℕ) → Holds b rows xs → walked b p n (xs ++ stone c) below ≡ found_as r =
        λ out r o q xs k.
        q below (xs ++ stone c) going
        (holds_more c k (subst (λ (y : ℕ). (x : ℕ) → held b out x ≡ (held b rows x || among (stone y) x)) f.0.here.weight.row.cell o)) in
        let split : (out : List ℕ) (r : code.Result ℕ ℕ) → WithNext b t rows out next → SearchFound b p t end (next + 1) (count_in t next * others) n out r
        → (xs : List ℕ) → Holds b rows xs
        → walked b p number xs ws ≡ ((found_as r >>= λ k. walked b p (n + count_of_waits below) xs (wait l.line ms l.later) >>= λ j. got (k + j)) >>= λ k. got (passed + k)) =
        λ out r o q xs k.
        s xs k
        ∙ ap (λ (z : Result ℕ). z >>= λ j. got (passed + j))
        (walked_choice b p n xs l.line line c us ms l.later (sym (held_joined p k) ∙ no_join) v.0
        ∙ ap (λ (z : Result ℕ). z >>= λ j. walked b p (n + count_of_waits below) xs (wait l.line ms l.later) >>= λ i. got (j + i)) (searched out r o q xs k)) in
        record {
          room = f.0.here.weight.row.room;
          on = omega arith;
          cell_on_lem = rw f.0.here.weight.row.cell (cell_range b c f.0.here.on).1;
          inside = omega (arith, ahead_most l.ahead);
          few = few;
          going = (below, going);
          then = λ out more o q. record {
            line = l.line;
            moves = ms;
            later = l.later;
            unlike = (v.2, l.unlike.1);
            each = rw end_is f.1;
            up_to = omega arith;
            ahead = l.ahead;
            others_are = l.others_are;
            few = rw own (omega arith);
            passed_few =
                let xs = listed b (held b rows) in
                let told = walked_got b p n (xs ++ stone c) below more (searched out (code.Ok more) o q xs (set_holds b rows)) in
                omega (arith, told.1, passed_few b p (xs ++ stone c) below, l.passed_few);
            so_far = λ xs k.
                split out (code.Ok more) o q xs k
                ∙ one_more (walked b p (n + count_of_waits below) xs (wait l.line ms l.later)) passed more
                ∙ ap (λ (y : ℕ). walked b p (n + y) xs (wait l.line ms l.later) >>= λ j. got (passed + more + j)) (sym many);
          };
          found = λ m out o q. split out (code.Err m) o q;
        }

-- none is left at the wait's end
choices_done : {b : Board} {p : Player} {t rows : List ℕ} {end number after others next n passed : ℕ} {ws : Waits} → after ≤ next
    → ChoicesLeft b p t end number rows ws after others next n passed → (xs : List ℕ) → Holds b rows xs → walked b p number xs ws ≡ got passed
unfolding nodes_of_moves size ◌>>=◌
choices_done {b} {p} {t} {rows} {end} {number} {after} {others} {next} {n} {passed} {ws} h l = go l.moves l.up_to l.so_far
  where
    go : (ms : Moves) → next + size (nodes_of_moves ms) ≡ after → WalksOn b p number rows ws n passed (wait l.line ms l.later)
        → (xs : List ℕ) → Holds b rows xs → walked b p number xs ws ≡ got passed
    go no_moves u s xs k =
        let z : passed + 0 ≡ passed = omega arith in
        s xs k ∙ ap (λ (r : Result ℕ). r >>= λ j. got (passed + j)) (walked_none b p n xs l.line l.later) ∙ ap got z
    go (move line c us ms) u s xs k = absurd (omega arith)

-- the loop's invariant, whatever waits are left
pub record Searching (b : Board) (p : Player) (t : List ℕ) (end i many number : ℕ) (rows : List ℕ) (after others next n passed : ℕ) : Type 0 where
  pub on : i < next
  pub no_join : joined b p (held b rows) ≡ false
  pub left : (ws : Waits) → Going b t end i many number ws → ChoicesLeft b p t end number rows ws after others next n passed

-- the wait at hand is told by its node
abbrev pub Told : Board → List ℕ → (end i at : ℕ) → Type 0
Told b t end i at = (ws : Waits) → Ahead b t end i ws → WaitNext b t end i at ws

pub searching_first : {b : Board} {t : List ℕ} {end i many number at : ℕ} (p : Player) (rows : List ℕ) → Told b t end i at → ¬ (at ≡ end) → (g : SomeGoing b t end i many number)
    → ChoicesStart b p t end number many rows g.0 at
searching_first p rows f nz g = choices_start g.1 (f g.0 g.1.ahead) nz

pub searching_starts : {b : Board} {p : Player} {t rows : List ℕ} {end i many number at : ℕ} → joined b p (held b rows) ≡ false → Told b t end i at → ¬ (at ≡ end)
    → SomeGoing b t end i many number → (own after : ℕ) → own ≡ count_in t at → after ≡ end_in t at
    → Searching b p t end i many number rows after (many / own) (at + 1) number 0
searching_starts j f nz g own after e z =
    record {
      on = omega (arith, (f g.0 g.1.ahead).on);
      no_join = j;
      left = λ ws h. rw (e, z) (choices_start h (f ws h.ahead) nz).left;
    }

module _ {b : Board} {p : Player} {t rows : List ℕ} {end i many number after others next n passed : ℕ} (w : Searching b p t end i many number rows after others next n passed) where
  -- the next move
  pub searching_step : next < after → (g : SomeGoing b t end i many number) → ChoiceStep b p t end number rows g.0 after others next n passed
  searching_step h g = choice_step w.no_join h (w.left g.0 g.1)

  module _ (h : next < after) (own : ℕ) (out : List ℕ) (e : own ≡ count_in t next) (o : WithNext b t rows out next) where
    pub searching_again : SomeGoing b t end i many number → (to more : ℕ) → to ≡ end_in t next → SearchFound b p t end (next + 1) (own * others) n out (code.Ok more)
        → Searching b p t end i many number rows after others to (n + own * others) (passed + more)
    searching_again g to more z q =
        record {
          on = omega (arith, w.on, (searching_step h g).on);
          no_join = w.no_join;
          left = λ ws k. rw (e, z) ((choice_step w.no_join h (w.left ws k)).then out more o (rw e at q));
        }

    -- no more are passed over than there are outcomes
    pub searching_fits : SomeGoing b t end i many number → (more : ℕ) → SearchFound b p t end (next + 1) (own * others) n out (code.Ok more) → passed + more ≤ most_outcomes
    searching_fits g more q = let step = searching_step h g in omega (arith, step.few, (step.then out more o (rw e at q)).passed_few)

    pub searching_found : (m : ℕ) → SearchFound b p t end (next + 1) (own * others) n out (code.Err m) → SearchFound b p t end i many number rows (code.Err m)
    searching_found m q ws xs g j = (choice_step w.no_join h (w.left ws g)).found m out o (rw e at q) xs j

  pub searching_done : after ≤ next → SearchFound b p t end i many number rows (code.Ok passed)
  searching_done h ws xs g j = choices_done h (w.left ws g) xs j

-- at a move all its waits are left, and its stone is the set
pub whole_going : {b : Board} {t : List ℕ} {i c end many : ℕ} {ws : Waits} → Countable b t i c ws → end ≡ end_in t i → many ≡ count_in t i → Going b t end (i + 1) many 0 ws
whole_going {b} {t} {i} {c} {end} {many} {ws} m e q =
    record {
      ahead = subst (λ (us : Waits). Ahead b t end (i + 1) us) (then_none ws) (waits_before ws m.seated (no_more (sym (e ∙ m.at.here.weight.end))));
      unlike = m.unlike;
      many_are = q ∙ move_weight ws m.at.here.weight m.few;
      few = omega (arith, move_weight ws m.at.here.weight m.few, m.few);
    }

pub whole_found : {b : Board} (p : Player) {t : List ℕ} {i end many : ℕ} (r : code.Result ℕ ℕ) (rows out : List ℕ) (cell : ℕ) → cell ≡ cell_in t i → end ≡ end_in t i → many ≡ count_in t i
    → ((x : ℕ) → held b out x ≡ (held b rows x || among (stone cell) x)) → SearchFound b p t end (i + 1) many 0 out r → (told : code.Result ℕ Verdict) → found_as r ≡ answer_of told → UnjoinedFound b p t i rows told
whole_found p r rows out cell y e q o f told k c ws xs m h =
    let same : cell ≡ c = y ∙ m.at.here.weight.row.cell in
    f ws (xs ++ stone c) (whole_going m e q)
    (record { same = λ x. o x ∙ ap (λ (v : Bool). v || among (stone cell) x) (h.same x) ∙ ap (λ (d : ℕ). among xs x || among (stone d) x) same ∙ sym (among_append x xs (stone c)) })
    ∙ k

-- the number that the search tells is told with 13
pub told_as : (r : code.Result ℕ ℕ) (told : code.Result ℕ Verdict) (Told : ℕ → Verdict → Type 0) → ((m : ℕ) (v : Verdict) → Told m v → v ≡ NotJoined m)
    → MatchResult r (λ passed. told ≡ code.Ok passed) (λ m. IsErrAnd told (Told m)) → found_as r ≡ answer_of told
told_as (code.Ok passed) told Told k e = sym (ap answer_of e)
told_as (code.Err m) told Told k e =
    let q = err_from_is_err_and told e in
    rw (q.1, k m q.0 q.2) refl
