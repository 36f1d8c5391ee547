-- C-16: 11 without the moves that aren't live, the rule without them, and what judge replies as it did.
use mathlib.Core.Path.{◌≡◌, refl, sym, ap, ◌∙◌, subst}
use mathlib.Core.List.{List, [], ◌∷◌, ◌++◌}
use mathlib.Core.Bool.{Bool, true, false}
use mathlib.Core.Logic.{◌≢◌}
use mathlib.Core.Option.{Option, none, some}
use Prim.Native.Nat.{ℕ, ◌≤◌}
use native.Mathlib.Omega.{arith}
use borrow.Author.Tests.{ltb-false, le-ltb}
use lib.Dec.{T, ltb}
use Rattle.rules.specs.Sizes.{most_outcomes}
use Rattle.rules.specs.Words.{◌∈◌, in_tail}
use Rattle.rules.specs.Text.{Bytes}
use Rattle.rules.specs.Tree.{Waits, no_waits, wait, Sheet, at_start, every_move, every_wait}
use Rattle.rules.specs.Reading.{Result, refused, got}
use Rattle.rules.specs.Fair.{not_elusive, first_on_set_up, first_not_apart, first_twice, first_not_elusive}
use Rattle.rules.specs.Live.{living}
use Rattle.rules.specs.Outcomes.{outcomes_of_waits, outcomes_from, outcomes, outcome_count}
use Rattle.rules.specs.Choice.{Choice}
use Rattle.rules.specs.Answering.{answer, Game, start, next, answered_by, answered}
use Rattle.rules.specs.Holder.{live_choice}
use Rattle.rules.specs.Verdict.{told}
use Rattle.rules.specs.Entries.{◌>>=◌, refuse_if, refuse_fault, refuse_unjoined, read, fair_by, fair, satisfying_by, satisfying, accepted}
use Rattle.rules.specs.Spare.{SameElusive, game_after, LiveAnswers, outcomes_over_all, count_over_all, accepted_over_all, SameWithoutSpare, SparedAsBefore}
use Rattle.rules.specs.declared.Verdict.{Verdict}
use Rattle.rules.specs.declared.Verdict.TheVariants.{OnSetUp, NotApart, SameBranch, NotElusive, TooManyOutcomes}
use Rattle.rules.proofs.Steps.{some_inj, not_refused, refused_inj}
use Rattle.rules.proofs.EachOutcome.{each_in, each_out, each_map, each_unmap}
use Rattle.rules.proofs.Given.{Walked, all, first, walked, all_joined}
use Rattle.rules.proofs.Opening.{FairWaits, waits_in, fair_opened}
use Rattle.rules.proofs.Live.{elusive_same}
use Rattle.rules.proofs.Living.{each_living, fewer_living, none_idle}
use Rattle.rules.proofs.Answering.{answers, is_live_lem}
use Rattle.rules.proofs.Cover.{fair_waits}

-- 11 at a wait would be the same without its moves that aren't live
pub same_elusive : SameElusive
unfolding not_elusive
same_elusive w x = elusive_same w.moves x

-- The rule on a fair tree gives a live move
some_wait : (ws : Waits) → Choice ws → 1 ≤ waits_in ws
unfolding waits_in
some_wait no_waits k = absurd k
some_wait (wait line ms ws) k = omega arith

fair_live : (x : ℕ) (ws : Waits) → FairWaits ws → (k : Choice ws) → answer x ws ≡ some k → T (live_choice ws k)
fair_live x ws f k e =
    let a = answers x ws f (some_wait ws k) in
    subst (λ (z : Choice ws). T (live_choice ws z)) (some_inj (sym a.1 ∙ e)) (is_live_lem x ws a.0 a.2)

fair_by_lem : (g : Game) (x : ℕ) (a : Option (Choice g.open_waits)) → FairWaits g.open_waits → FairWaits (answered_by g x a).open_waits
unfolding answered_by next
fair_by_lem g x none f = f
fair_by_lem g x (some k) f = fair_opened g.open_waits f k

fair_after : (g : Game) (xs : List ℕ) → FairWaits g.open_waits → FairWaits (game_after g xs).open_waits
unfolding game_after answered
fair_after g [] f = f
fair_after g (x ∷ xs) f = fair_after (answered g x) xs (fair_by_lem g x (answer x g.open_waits) f)

pub live_answers : LiveAnswers
unfolding start every_move every_wait
live_answers s r a l xs x k h =
    fair_live x (game_after (start s) xs).open_waits
    (fair_after (start s) xs
    (fair_waits s.board s.root.waits (λ m i. (r.on_board_lem m i, a m (in_tail i))) (λ v i. (r.some_moves v i, l v i))))
    k h

-- the outcomes were outcomes
were_there : (s : Sheet) (o : List ℕ) → o ∈ outcomes s → o ∈ outcomes_over_all s
unfolding outcomes
were_there s =
    let K : List ℕ → Type 0 = λ o. o ∈ outcomes_over_all s in
    each_out K (outcomes s)
    (each_map K (λ o. at_start s ++ o) (outcomes_of_waits (living s.root.waits))
    (each_living (λ o. K (at_start s ++ o)) s.root.waits
    (each_unmap K (λ o. at_start s ++ o) (outcomes_of_waits s.root.waits) (each_in K (outcomes_over_all s) (λ o i. i)))))

fewer : (s : Sheet) → outcome_count s ≤ count_over_all s
unfolding outcome_count
fewer s = fewer_living s.root.waits

-- Two replies of judge's checks: what the one accepted the other accepts, and any refusal but 12 and 13 is the same
abbrev Other : Verdict → Type 0
Other v = ((told v).number ≢ 12) × ((told v).number ≢ 13)

record Alike (was is : Result Sheet) : Type 0 where
  accepts : (s : Sheet) → was ≡ got s → is ≡ got s
  refuses : (v : Verdict) → Other v → is ≡ refused v → was ≡ refused v
  refused_it : (v : Verdict) → Other v → was ≡ refused v → is ≡ refused v

alike_refused : (v : Verdict) → Alike (refused v) (refused v)
alike_refused v = record { accepts = λ s e. e; refuses = λ u o e. e; refused_it = λ u o e. e }

-- after the same step of reading, or the same check
alike_read : (r : Result Sheet) (f g : Sheet → Result Sheet) → ((s : Sheet) → Alike (f s) (g s)) → Alike (r >>= f) (r >>= g)
unfolding ◌>>=◌
alike_read (refused v) f g h = alike_refused v
alike_read (got x) f g h = h x

alike_check : (k j : Sheet → Result Sheet) (r : Result (Unit {0})) (x y : Result Sheet) → Alike (x >>= k) (y >>= j) → Alike (r >>= (λ u. x) >>= k) (r >>= (λ u. y) >>= j)
unfolding ◌>>=◌
alike_check k j (refused v) x y h = alike_refused v
alike_check k j (got u) x y h = h

-- 12 and 13 come last
module _ (s : Sheet) where
  abbrev Last : Result Sheet → Type 0
  Last r = (v : Verdict) → Other v → r ≡ refused v → ⊥

  joined_last : (os : List (List ℕ)) → Last (satisfying_by os s)
  unfolding ◌>>=◌
  joined_last os v o e = go (refuse_unjoined s.board s.player 0 os) (walked s.board s.player 0 os) e
    where
      go : (r : Result (Unit {0})) → Walked s.board s.player 0 os r → (r >>= λ u. got s) ≡ refused v → ⊥
      go r (all h) q = not_refused (sym q)
      go r (first i l n j) q = o.1 (ap (λ (u : Verdict). (told u).number) (refused_inj (sym q)))

  count_last : (k : Sheet → Result Sheet) (many : Bool) → Last (k s) → Last (refuse_if many TooManyOutcomes >>= (λ u. got s) >>= k)
  unfolding ◌>>=◌ refuse_if
  count_last k true h v o e = o.0 (ap (λ (u : Verdict). (told u).number) (refused_inj (sym e)))
  count_last k false h v o e = h v o e

  -- what joined joins
  still_joins : (z : Sheet) → satisfying_by (outcomes_over_all s) s ≡ got z → satisfying s ≡ got z
  unfolding ◌>>=◌ satisfying
  still_joins z e = go (refuse_unjoined s.board s.player 0 (outcomes_over_all s)) (walked s.board s.player 0 (outcomes_over_all s)) e
    where
      go : (r : Result (Unit {0})) → Walked s.board s.player 0 (outcomes_over_all s) r → (r >>= λ u. got s) ≡ got z → satisfying_by (outcomes s) s ≡ got z
      go r (all h) q = rw (all_joined s.board s.player 0 (outcomes s) (λ o i. h o (were_there s o i))) q
      go r (first i l n j) q = absurd (not_refused q)

  few_still : (was is : Bool) → (was ≡ false → is ≡ false) → (k j : Sheet → Result Sheet) → ((z : Sheet) → k s ≡ got z → j s ≡ got z)
      → (z : Sheet) → (refuse_if was TooManyOutcomes >>= (λ u. got s) >>= k) ≡ got z → (refuse_if is TooManyOutcomes >>= (λ u. got s) >>= j) ≡ got z
  unfolding ◌>>=◌ refuse_if
  few_still true is f k j h z e = absurd (not_refused e)
  few_still false is f k j h z e = rw (f refl, refuse_if, ◌>>=◌) (h z e)

  abbrev was_many : Bool
  was_many = ltb most_outcomes (count_over_all s)

  abbrev is_many : Bool
  is_many = ltb most_outcomes (outcome_count s)

  last_alike : Alike (refuse_if was_many TooManyOutcomes >>= (λ u. got s) >>= λ z. satisfying_by (outcomes_over_all z) z) (refuse_if is_many TooManyOutcomes >>= (λ u. got s) >>= satisfying)
  unfolding satisfying
  last_alike =
      record {
        accepts = few_still was_many is_many no_more (λ z. satisfying_by (outcomes_over_all z) z) satisfying still_joins;
        refuses = λ v o e. absurd (count_last satisfying is_many (joined_last (outcomes s)) v o e);
        refused_it = λ v o e. absurd (count_last (λ z. satisfying_by (outcomes_over_all z) z) was_many (joined_last (outcomes_over_all s)) v o e);
      }
    where
      no_more : was_many ≡ false → is_many ≡ false
      no_more e = le-ltb most_outcomes (outcome_count s) (omega (arith, fewer s, ltb-false most_outcomes (count_over_all s) e))

  -- the checks before them are the same
  fair_alike : Alike (fair_by (first_on_set_up s) (first_twice s) (count_over_all s) s >>= λ z. satisfying_by (outcomes_over_all z) z) (fair s >>= satisfying)
  unfolding fair
  fair_alike =
      let k : Sheet → Result Sheet = λ z. satisfying_by (outcomes_over_all z) z in
      alike_check k satisfying (refuse_fault OnSetUp (first_on_set_up s)) _ _
      (alike_check k satisfying (refuse_fault NotApart (first_not_apart s)) _ _
      (alike_check k satisfying (refuse_fault (λ line cell. SameBranch line) (first_twice s)) _ _
      (alike_check k satisfying (refuse_fault NotElusive (first_not_elusive s)) _ _ last_alike)))

alike : (w : ℕ) (t : Bytes) → Alike (accepted_over_all w t) (accepted w t)
unfolding accepted_over_all accepted
alike w t = alike_read (read w t) _ _ fair_alike

-- where every move is live the outcomes are what they were
same_without_spare : SameWithoutSpare
unfolding outcomes
same_without_spare s h = ap (outcomes_from s) (none_idle s h)

pub spared_as_before : SparedAsBefore
spared_as_before =
    record {
      accepts = λ w t s e. record { still = (alike w t).accepts s e; no_more = fewer s; were_there = were_there s };
      refuses = λ w t v a b. record { was = (alike w t).refuses v (a, b); is = (alike w t).refused_it v (a, b) };
      alike = same_without_spare;
    }
