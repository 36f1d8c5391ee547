-- The rows of the table for play and outcome: each is given exactly when its plain statement holds.
use mathlib.Core.Path.{◌≡◌, refl, sym, ap, subst, subst⁻¹, ◌∙◌}
use mathlib.Core.Logic.{◌≢◌, ◌↔◌, ⊎_elim}
use Prim.Native.Nat.{ℕ, suc, ◌+◌, ◌≤◌, ◌<◌}
use mathlib.Core.Bool.{Bool, true, false, not}
use mathlib.Core.List.{List, [], ◌∷◌}
use lib.Dec.{T, T_not, ltb}
use lib.ListN.{length, take, drop, get_or}
use lib.Seq.{split_at, length-take-le}
use borrow.Author.Tests.{ltb-true, ltb-false, lt-ltb, le-ltb}
use native.Mathlib.Omega.{arith}
use Rattle.rules.specs.Text.{Bytes}
use Rattle.rules.specs.Board.{is_cell}
use Rattle.rules.specs.Tree.{Sheet}
use Rattle.rules.specs.Reading.{Result, refused, got}
use Rattle.rules.specs.Outcomes.{outcome_count}
use Rattle.rules.specs.Answering.{Game, start, is_over, is_taken, is_empty, answered}
use Rattle.rules.specs.Entries.{◌>>=◌, refuse_if, read, fair, accepted, judged, judge, step, Rounds, stopped, played, rounds, refused_play, played_out, play_on, play, outcome_cells, named, outcome, JudgeKept, PlayKept, play_shown, OutcomeKept, outcome_shown}
use Rattle.rules.specs.Verdict.{told}
use Rattle.rules.specs.Plain.{IsSheet, IsFair, Given, as_accepted, as_small, as_long, as_unread, as_on_set_up, as_not_apart, as_twice, as_not_elusive, as_too_many, as_not_joined}
use Rattle.rules.specs.Promise.{Ruled, no_move, one_move_lem}
use Rattle.rules.specs.GoesOn.{Refuses, as_after_over, as_no_cell, as_taken, RefusedAt, GivenPlay, play_judged, play_short, play_refused, play_done, GivenOutcome, outcome_judged, outcome_none, outcome_short, outcome_done}
use Rattle.rules.specs.declared.Played.{Played}
use Rattle.rules.specs.declared.Named.{Named}
use Rattle.rules.specs.declared.Told.{Told}
use Rattle.rules.specs.declared.Verdict.{Verdict}
use Rattle.rules.specs.declared.Verdict.TheVariants.{AfterOver, NoSuchCell, CellTaken, ShortRoom, NoSuchOutcome}
use Rattle.rules.proofs.Tests.{true_of, false_of, decide, both}
use Rattle.rules.proofs.Steps.{not_refused}
use Rattle.rules.proofs.Given.{accepted_exactly, accepted_fair, fair_exactly, fair_judged, judge_given, given_judge, given_exactly}
use Rattle.rules.proofs.Refusals.{unread_of, given_zero}
use Rattle.rules.proofs.Cover.{ruled_rounds, ruled_played}

-- One move: refused for its reason, or answered
module _ (s : Sheet) (g : Game) (x : ℕ) where
  pub record Stepped (h : Game) : Type 0 where
    pub not_over : T (not (is_over s g))
    pub was_empty : T (is_empty s g x)
    pub is_answered : answered g x ≡ h

  -- what a step comes to
  pub data StepSeen : Result Game → Type 0 where
    refuses : (v : Verdict) → Refuses s g x (told v) → StepSeen (refused v)
    steps : (h : Game) → Stepped h → StepSeen (got h)

  pub step_seen : StepSeen (step s g x)
  unfolding step refuse_if ◌>>=◌ is_empty
  step_seen =
      ⊎_elim
      (λ o. rw (true_of (is_over s g) o) (refuses AfterOver (as_after_over o)))
      (λ u.
      ⊎_elim
      (λ on.
      ⊎_elim
      (λ y. rw (false_of (is_over s g) (T_not (is_over s g) u), true_of (is_cell s.board x) on, true_of (is_taken s g x) y) (refuses CellTaken (as_taken u on y)))
      (λ n.
      rw (false_of (is_over s g) (T_not (is_over s g) u), true_of (is_cell s.board x) on, false_of (is_taken s g x) (T_not (is_taken s g x) n))
      (steps (answered g x) (record { not_over = u; was_empty = both (is_cell s.board x) (not (is_taken s g x)) on n; is_answered = refl })))
      (decide (is_taken s g x)))
      (λ off.
      rw (false_of (is_over s g) (T_not (is_over s g) u), false_of (is_cell s.board x) (T_not (is_cell s.board x) off)) (refuses NoSuchCell (as_no_cell u off)))
      (decide (is_cell s.board x)))
      (decide (is_over s g))

  step_refuses : (n : Told) → Refuses s g x n → (v : Verdict) × (step s g x ≡ refused v) × (told v ≡ n)
  unfolding step refuse_if ◌>>=◌
  step_refuses _ (as_after_over o) = (AfterOver, rw (true_of (is_over s g) o), refl)
  step_refuses _ (as_no_cell u off) =
      (NoSuchCell, rw (false_of (is_over s g) (T_not (is_over s g) u), false_of (is_cell s.board x) (T_not (is_cell s.board x) off)), refl)
  step_refuses _ (as_taken u on y) =
      (CellTaken, rw (false_of (is_over s g) (T_not (is_over s g) u), true_of (is_cell s.board x) on, true_of (is_taken s g x) y), refl)

-- Moves in turn: the first that is refused, or a game by the rule
pub data RoundsSeen (s : Sheet) (g : Game) (place : ℕ) (xs : List ℕ) : Rounds → Type 0 where
  stops : (k : ℕ) (h : Game) (v : Verdict) (at : ℕ) → k < length xs → at ≡ place + k → Ruled s g (take k xs) h → Refuses s h (get_or xs k 0) (told v)
      → RoundsSeen s g place xs (stopped v at)
  plays : (h : Game) → Ruled s g xs h → RoundsSeen s g place xs (played h)

one_more : (s : Sheet) (g : Game) (x place : ℕ) (xs : List ℕ) (h : Game) → Stepped s g x h → (r : Rounds) → RoundsSeen s h (place + 1) xs r
    → RoundsSeen s g place (x ∷ xs) r
one_more s g x place xs h u _ (stops k f v at small is before why) =
    stops (suc k) f v at (omega (arith, small)) (omega (arith, is))
    (one_move_lem u.not_over u.was_empty (subst⁻¹ (λ (z : Game). Ruled s z (take k xs) f) u.is_answered before)) why
one_more s g x place xs h u _ (plays f r) = plays f (one_move_lem u.not_over u.was_empty (subst⁻¹ (λ (z : Game). Ruled s z xs f) u.is_answered r))

pub rounds_seen : (s : Sheet) (g : Game) (place : ℕ) (xs : List ℕ) → RoundsSeen s g place xs (rounds s g place xs)
unfolding rounds
rounds_seen s g place [] = plays g no_move
rounds_seen s g place (x ∷ xs) = go (step s g x) refl (step_seen s g x) (λ h. rounds_seen s h (place + 1) xs)
  where
    go : (r : Result Game) → step s g x ≡ r → StepSeen s g x r → ((h : Game) → RoundsSeen s h (place + 1) xs (rounds s h (place + 1) xs))
        → RoundsSeen s g place (x ∷ xs) (rounds s g place (x ∷ xs))
    go _ e (refuses v why) ih = rw (e, rounds) (stops 0 g v place (omega arith) (omega arith) no_move why)
    go _ e (steps h u) ih = rw (e, rounds) (one_more s g x place xs h u (rounds s h (place + 1) xs) (ih h))

-- where judge refuses, its number is not 0
not_zero : (w : ℕ) (t : Bytes) (v : Verdict) → accepted w t ≡ refused v → (told v).number ≢ 0
unfolding judge judged
not_zero w t v e z =
    let same : judge w t ≡ v = rw e refl in
    let a = given_zero w t (told (judge w t)) (ap (λ (u : Verdict). (told u).number) same ∙ z) (judge_given w t) in
    not_refused (sym e ∙ (accepted_exactly w t a.sheet).1 a.is_sheet)

-- Play's reply, told in numbers
module _ (w : ℕ) (t : Bytes) (xs : List ℕ) (room : ℕ) where
  abbrev PlaySeen : Verdict → (place : ℕ) → Type 0
  PlaySeen v place = GivenPlay w t xs room (told v) place

  play_rounds : (s : Sheet) → IsSheet w t s → length xs ≤ room → (r : Rounds) → RoundsSeen s (start s) 1 xs r → PlaySeen (played_out s r).verdict (played_out s r).place
  unfolding played_out refused_play
  play_rounds s h l _ (stops k g v at small is before why) =
      let from_one : at ≡ k + 1 = omega (arith, is) in
      rw from_one (play_refused s (told v) k h l (record { game = g; there = small; before = before; refuses = why }))
  play_rounds s h l _ (plays g r) = play_done s g h l r

  pub play_given : GivenPlay w t xs room (told (play w t xs room).verdict) (play w t xs room).place
  unfolding play play_on refused_play refuse_if ◌>>=◌
  play_given = go (accepted w t) refl
    where
      roomed : (s : Sheet) → IsSheet w t s → accepted w t ≡ got s → (b : Bool) → ltb room (length xs) ≡ b → PlaySeen (play w t xs room).verdict (play w t xs room).place
      roomed s h e true q = rw (e, q) (play_short s h (ltb-true room (length xs) q))
      roomed s h e false q =
          rw (e, q) (play_rounds s h (ltb-false room (length xs) q) (rounds s (start s) 1 xs) (rounds_seen s (start s) 1 xs))

      go : (r : Result Sheet) → accepted w t ≡ r → PlaySeen (play w t xs room).verdict (play w t xs room).place
      go (refused v) e =
          let same : judge w t ≡ v = unfold judge judged in rw e refl in
          rw e (play_judged (subst (λ (u : Verdict). Given w t (told u)) same (judge_given w t)) (not_zero w t v e))
      go (got s) e = roomed s ((accepted_exactly w t s).0 e) e (ltb room (length xs)) refl

  -- the sheet of a text that is accepted, and of one that is refused
  accepted_play : (s : Sheet) → IsSheet w t s → length xs ≤ room → play w t xs room ≡ played_out s (rounds s (start s) 1 xs)
  unfolding play play_on refuse_if ◌>>=◌
  accepted_play s h l = rw ((accepted_exactly w t s).1 h, le-ltb room (length xs) l)

  refused_at : (s : Sheet) (n : Told) (k : ℕ) (a : RefusedAt s xs k n) → (v : Verdict) × (rounds s (start s) 1 xs ≡ stopped v (k + 1)) × (told v ≡ n)
  unfolding rounds
  refused_at s n k a =
      let x = get_or xs k 0 in
      let p = step_refuses s a.game x n a.refuses in
      let split = split_at xs k 0 a.there in
      let at : 1 + length (take k xs) ≡ k + 1 = omega (arith, length-take-le k xs (omega (arith, a.there))) in
      let stop : rounds s a.game (1 + length (take k xs)) (x ∷ drop (suc k) xs) ≡ stopped p.0 (1 + length (take k xs)) = rw (p.1, rounds) in (
        p.0,
        ap (rounds s (start s) 1) split ∙ ruled_rounds s (start s) 1 (take k xs) (x ∷ drop (suc k) xs) a.game a.before ∙ stop ∙ ap (stopped p.0) at,
        p.2,
      )

  -- what is told where judge refuses, and where it does not
  judged_play : (n : Told) → told (judge w t) ≡ n → n.number ≢ 0 → (told (play w t xs room).verdict ≡ n) × ((play w t xs room).place ≡ 0)
  unfolding judge judged play play_on refused_play ◌>>=◌
  judged_play n g z = go (accepted w t) refl
    where
      go : (r : Result Sheet) → accepted w t ≡ r → (told (play w t xs room).verdict ≡ n) × ((play w t xs room).place ≡ 0)
      go (refused v) e = rw e (rw e at g, refl)
      go (got s) e = absurd (z (ap (λ (u : Told). u.number) (sym (rw e at g))))

  short_play : (s : Sheet) → IsSheet w t s → room < length xs → play w t xs room ≡ refused_play ShortRoom 0
  unfolding play play_on refuse_if ◌>>=◌
  short_play s h l = rw ((accepted_exactly w t s).1 h, lt-ltb room (length xs) l)

  pub given_play : (n : Told) (place : ℕ) → GivenPlay w t xs room n place → (told (play w t xs room).verdict ≡ n) × ((play w t xs room).place ≡ place)
  unfolding played_out refused_play
  given_play n _ (play_judged g z) = judged_play n (given_judge w t n g) z
  given_play _ _ (play_short s h l) = rw (short_play s h l) (refl, refl)
  given_play n _ (play_refused s _ k h l a) =
      let p = refused_at s n k a in
      rw (accepted_play s h l, p.1) (p.2, refl)
  given_play _ _ (play_done s g h l r) = rw (accepted_play s h l, ruled_played s (start s) 1 xs g r) (refl, refl)

  -- demand 2, of play: its reply tells these numbers, with this place, exactly when the table gives them
  pub play_exactly : (n : Told) (place : ℕ) → ((told (play w t xs room).verdict ≡ n) × ((play w t xs room).place ≡ place)) ↔ GivenPlay w t xs room n place
  play_exactly n place = (λ e. subst (λ (k : ℕ). GivenPlay w t xs room n k) e.1 (subst (λ (u : Told). GivenPlay w t xs room u (play w t xs room).place) e.0 play_given), given_play n place)

-- Outcome's reply, told in numbers
module _ (w : ℕ) (t : Bytes) where
  -- judge refuses with 13 fair sheets alone
  given_unjoined : (n : Told) → n.number ≡ 13 → Given w t n → (s : Sheet) × IsFair w t s
  given_unjoined _ e (as_accepted s h) = absurd (omega (arith, e))
  given_unjoined _ e (as_small h) = absurd (omega (arith, e))
  given_unjoined _ e (as_long h l) = absurd (omega (arith, e))
  given_unjoined _ e (as_unread v h u) = absurd (⊎_elim (λ q. omega (arith, e, q)) (λ q. omega (arith, e, q)) (unread_of u).most)
  given_unjoined _ e (as_on_set_up s f r i) = absurd (omega (arith, e))
  given_unjoined _ e (as_not_apart s f r o i) = absurd (omega (arith, e))
  given_unjoined _ e (as_twice s l r o a i) = absurd (omega (arith, e))
  given_unjoined _ e (as_not_elusive s f r o a d i) = absurd (omega (arith, e))
  given_unjoined _ e (as_too_many s r o a d k l) = absurd (omega (arith, e))
  given_unjoined _ e (as_not_joined s i f h) = (s, f)

  -- where the sheet is not fair, judge gives the same refusal
  unfair_judged : (v : Verdict) → (read w t >>= fair) ≡ refused v → judge w t ≡ v
  unfolding judge judged ◌>>=◌
  unfair_judged v e = rw (accepted_fair w t, e)

  not_thirteen : (v : Verdict) → (read w t >>= fair) ≡ refused v → (told v).number ≢ 13
  not_thirteen v e z =
      let a = given_unjoined (told v) z (subst (λ (u : Verdict). Given w t (told u)) (unfair_judged v e) (judge_given w t)) in
      not_refused (sym e ∙ (fair_exactly w t a.0).1 a.1)

module _ (w : ℕ) (t : Bytes) (i room : ℕ) where
  -- what outcome does with a fair sheet
  abbrev pub listing : Sheet → Result (List ℕ)
  listing s =
      refuse_if (not (ltb i (outcome_count s))) NoSuchOutcome >>= λ u. refuse_if (ltb room (length (outcome_cells s i))) ShortRoom >>= λ u. got (outcome_cells s i)

  pub outcome_fair : outcome w t i room ≡ named (read w t >>= fair >>= listing)
  unfolding outcome ◌>>=◌
  outcome_fair = go (read w t) refl
    where
      go : (r : Result Sheet) → read w t ≡ r → outcome w t i room ≡ named (read w t >>= fair >>= listing)
      go (refused v) e = rw e
      go (got s) e = rw e

  pub outcome_given : GivenOutcome w t i room (told (outcome w t i room).verdict)
  unfolding named refuse_if ◌>>=◌
  outcome_given = rw outcome_fair (go (read w t >>= fair) refl)
    where
      listed_given : (s : Sheet) → IsFair w t s → (a b : Bool) → ltb i (outcome_count s) ≡ a → ltb room (length (outcome_cells s i)) ≡ b
          → GivenOutcome w t i room (told (named (listing s)).verdict)
      listed_given s f false b p q = rw p (outcome_none s f (ltb-false i (outcome_count s) p))
      listed_given s f true true p q = rw (p, q) (outcome_short s f (ltb-true i (outcome_count s) p) (ltb-true room (length (outcome_cells s i)) q))
      listed_given s f true false p q = rw (p, q) (outcome_done s f (ltb-true i (outcome_count s) p) (ltb-false room (length (outcome_cells s i)) q))

      go : (r : Result Sheet) → (read w t >>= fair) ≡ r → GivenOutcome w t i room (told (named (r >>= listing)).verdict)
      go (refused v) e =
          outcome_judged (subst (λ (u : Verdict). Given w t (told u)) (unfair_judged w t v e) (judge_given w t)) (not_zero w t v (accepted_fair w t ∙ rw e refl)) (not_thirteen w t v e)
      go (got s) e = listed_given s ((fair_exactly w t s).0 e) (ltb i (outcome_count s)) (ltb room (length (outcome_cells s i))) refl refl

  fair_outcome : (s : Sheet) → IsFair w t s → outcome w t i room ≡ named (listing s)
  unfolding ◌>>=◌
  fair_outcome s f = outcome_fair ∙ rw ((fair_exactly w t s).1 f) refl

  pub given_outcome : (n : Told) → GivenOutcome w t i room n → told (outcome w t i room).verdict ≡ n
  unfolding named refuse_if ◌>>=◌
  given_outcome n (outcome_judged g z thirteen) = rw outcome_fair (go (read w t >>= fair) refl)
    where
      told_is : told (judge w t) ≡ n
      told_is = given_judge w t n g

      go : (r : Result Sheet) → (read w t >>= fair) ≡ r → told (named (r >>= listing)).verdict ≡ n
      go (refused v) e = ap told (sym (unfair_judged w t v e)) ∙ told_is
      go (got s) e =
          absurd (thirteen (subst (λ (u : Told). u.number ≢ 0 → u.number ≡ 13) told_is (fair_judged w t s ((fair_exactly w t s).0 e)) z))
  given_outcome _ (outcome_none s f l) = rw (fair_outcome s f, le-ltb i (outcome_count s) l)
  given_outcome _ (outcome_short s f l r) = rw (fair_outcome s f, lt-ltb i (outcome_count s) l, lt-ltb room (length (outcome_cells s i)) r)
  given_outcome _ (outcome_done s f l r) = rw (fair_outcome s f, lt-ltb i (outcome_count s) l, le-ltb room (length (outcome_cells s i)) r)

  -- demand 2, of outcome: its reply tells these numbers exactly when the table gives them
  pub outcome_exactly : (n : Told) → (told (outcome w t i room).verdict ≡ n) ↔ GivenOutcome w t i room n
  outcome_exactly n = (λ e. subst (GivenOutcome w t i room) e outcome_given, given_outcome n)

-- Demand 2, of what the entries return: their verdicts tell the paper's numbers exactly when the table gives them
module _ {workspace workspace' : List ℕ} {t : Bytes} where
  pub judge_told : {v : Verdict} → JudgeKept workspace t v workspace' → (n : Told) → (told v ≡ n) ↔ Given (length workspace) t n
  judge_told k n = rw k.reply (given_exactly (length workspace) t n)

  pub play_told : {moves room room' : List ℕ} {r : Played} → PlayKept workspace t moves room r workspace' room' → (n : Told) (place : ℕ)
      → ((told r.verdict ≡ n) × (r.place ≡ place)) ↔ GivenPlay (length workspace) t moves (length room) n place
  unfolding play_shown
  play_told {moves} {room} k n place = rw k.reply (play_exactly (length workspace) t moves (length room) n place)

  pub outcome_told : {number : ℕ} {room room' : List ℕ} {r : Named} → OutcomeKept workspace t number room r workspace' room' → (n : Told)
      → (told r.verdict ≡ n) ↔ GivenOutcome (length workspace) t number (length room) n
  unfolding outcome_shown
  outcome_told {number} {room} k n = rw k.reply (outcome_exactly (length workspace) t number (length room) n)
