-- The answering rule answers, and its answer is one that the holder may take.
use mathlib.Core.Path.{◌≡◌, refl, sym, ap, ◌∙◌, subst}
use mathlib.Core.Bool.{Bool, true, false, not, ◌&&◌, ◌||◌}
use mathlib.Core.Logic.{◌⊎◌, inl, inr, ⊎_elim}
use mathlib.Core.Option.{Option, none, some, map}
use Prim.Native.Nat.{ℕ, ◌≤◌, min}
use native.Mathlib.Omega.{arith}
use lib.Dec.{T, eqb, leb, leb→le, eqb_refl, nleb→lt, not_T, T_not}
use Rattle.rules.specs.Tree.{Waits, no_waits, wait, Moves, no_moves, move}
use Rattle.rules.specs.Fair.{in_waits, in_moves, in_every}
use Rattle.rules.specs.Live.{is_live}
use Rattle.rules.specs.Choice.{the_first, one_later, PlaceIn, Choice, first_move, first_under}
use Rattle.rules.specs.Answering.{smallest_line, first_line, touched_answer, free_answer, answer}
use Rattle.rules.specs.Holder.{wait_holds, move_holds, live_there, live_choice, allowed}
use Rattle.rules.proofs.Tests.{decide, both, fst, snd, left, right, cases, cond_yes, cond_no}
use Rattle.rules.proofs.Opening.{Elusive, FairWaits, waits_in, at_in}
use Rattle.rules.proofs.Live.{Common, without, dodge_live}

-- a choice that `first_under` finds, with what is to be said of it
pub record Finds (which : ℕ → Moves → Bool) (test : ℕ → Waits → Bool) (P : (ws : Waits) → Choice ws → Type 0) (ws : Waits) : Type 0 where
  pub choice : Choice ws
  pub is_first : first_under which test ws ≡ some choice
  pub fact : P ws choice

-- found under the first wait, or under a later one
module _ (which : ℕ → Moves → Bool) (test : ℕ → Waits → Bool) (P : (ws : Waits) → Choice ws → Type 0) where
  finds_here : (line : ℕ) (ms : Moves) (ws : Waits) → T (which line ms) → (p : PlaceIn ms) → first_move test ms ≡ some p
      → P (wait line ms ws) (the_first p) → Finds which test P (wait line ms ws)
  finds_here line ms ws i p e f =
      record {
        choice = the_first p;
        is_first =
            cond_yes (which line ms) (map the_first (first_move test ms)) (map one_later (first_under which test ws)) i
            ∙ ap (λ (q : Option (PlaceIn ms)). map the_first q) e;
        fact = f;
      }

  finds_later : (line : ℕ) (ms : Moves) (ws : Waits) → T (not (which line ms)) → (d : Finds which test P ws)
      → P (wait line ms ws) (one_later d.choice) → Finds which test P (wait line ms ws)
  finds_later line ms ws n d f =
      record {
        choice = one_later d.choice;
        is_first =
            cond_no (which line ms) (map the_first (first_move test ms)) (map one_later (first_under which test ws)) n
            ∙ ap (λ (q : Option (Choice ws)). map one_later q) d.is_first;
        fact = f;
      }

-- The rule where x is a cell of an open wait
abbrev Dodges : ℕ → (ws : Waits) → Choice ws → Type 0
Dodges x ws k = T (live_choice ws k) × T (not (move_holds x ws k)) × T (wait_holds x ws k)

touched : (x : ℕ) (ws : Waits) → FairWaits ws → T (in_waits ws x) → Finds (λ line ms. in_moves ms x) (without x) (Dodges x) ws
unfolding FairWaits in_waits live_choice Common
touched x no_waits f h = absurd h
touched x (wait line ms ws) f h =
    ⊎_elim
    (λ i. let d = dodge_live none x ms tt (f.0 x) in finds_here (λ line ms. in_moves ms x) (without x) (Dodges x) line ms ws i d.0 d.1 (d.3, d.2, i))
    (λ n.
    let d = touched x ws f.2 (⊎_elim (λ i. absurd (T_not (in_moves ms x) n i)) (λ i. i) (cases (in_moves ms x) (in_waits ws x) h)) in
    finds_later (λ line ms. in_moves ms x) (without x) (Dodges x) line ms ws n d d.fact)
    (decide (in_moves ms x))

-- The rule where it is not: the first move under the open wait with the smallest line number
has_line : ℕ → Waits → Bool
has_line n no_waits = false
has_line n (wait line ms ws) = eqb line n || has_line n ws

abbrev Lives : (ws : Waits) → Choice ws → Type 0
Lives ws k = T (live_choice ws k)

-- where every move passes the test, the first one does, and it is live
first_passes : (test : ℕ → Waits → Bool) → ((c : ℕ) (ws : Waits) → T (test c ws)) → (ms : Moves) → Elusive ms
    → (p : PlaceIn ms) × (first_move test ms ≡ some p) × T (live_there none ms p)
unfolding in_every live_there is_live
first_passes test all no_moves e = absurd (e 0)
first_passes test all (move line c ws ms) e = (the_first tt, cond_yes (test c ws) (some (the_first tt)) (map one_later (first_move test ms)) (all c ws), tt)

free : (test : ℕ → Waits → Bool) → ((c : ℕ) (ws : Waits) → T (test c ws)) → (n : ℕ) (ws : Waits) → FairWaits ws → T (has_line n ws)
    → Finds (λ line ms. eqb line n) test Lives ws
unfolding FairWaits has_line live_choice
free test all n no_waits f h = absurd h
free test all n (wait line ms ws) f h =
    ⊎_elim
    (λ i. let d = first_passes test all ms f.0 in finds_here (λ line ms. eqb line n) test Lives line ms ws i d.0 d.1 d.2)
    (λ k.
    let d = free test all n ws f.2 (⊎_elim (λ i. absurd (T_not (eqb line n) k i)) (λ i. i) (cases (eqb line n) (has_line n ws) h)) in
    finds_later (λ line ms. eqb line n) test Lives line ms ws k d d.fact)
    (decide (eqb line n))

min_cases : (k l : ℕ) → (min k l ≡ k) ⊎ (min k l ≡ l)
min_cases k l = ⊎_elim (λ h. inl (omega (arith, leb→le k l h))) (λ h. inr (omega (arith, nleb→lt k l h))) (decide (leb k l))

smallest_line_lem : (k : ℕ) (ws : Waits) → (smallest_line k ws ≡ k) ⊎ T (has_line (smallest_line k ws) ws)
unfolding smallest_line has_line
smallest_line_lem k no_waits = inl refl
smallest_line_lem k (wait line ms ws) =
    ⊎_elim
    (λ e.
    ⊎_elim
    (λ a. inl (e ∙ a))
    (λ b. inr (left (eqb line (smallest_line (min k line) ws)) (has_line (smallest_line (min k line) ws) ws) (subst (λ (m : ℕ). T (eqb line m)) (sym (e ∙ b)) (eqb_refl line))))
    (min_cases k line))
    (λ h. inr (right (eqb line (smallest_line (min k line) ws)) (has_line (smallest_line (min k line) ws) ws) h))
    (smallest_line_lem (min k line) ws)

first_line_lem : (ws : Waits) → 1 ≤ waits_in ws → T (has_line (first_line ws) ws)
unfolding waits_in first_line has_line
first_line_lem no_waits h = absurd (omega arith)
first_line_lem (wait line ms ws) h =
    ⊎_elim
    (λ e. left (eqb line (smallest_line line ws)) (has_line (smallest_line line ws) ws) (subst (λ (m : ℕ). T (eqb line m)) (sym e) (eqb_refl line)))
    (λ k. right (eqb line (smallest_line line ws)) (has_line (smallest_line line ws) ws) k)
    (smallest_line_lem line ws)

-- a move that holds x is under a wait that does
held : (x : ℕ) (ws : Waits) (k : Choice ws) → T (move_holds x ws k) → T (in_waits ws x)
unfolding in_waits
held x no_waits k h = absurd k
held x (wait line ms ws) (the_first p) h = left (in_moves ms x) (in_waits ws x) (at_in x ms p h)
held x (wait line ms ws) (one_later k) h = right (in_moves ms x) (in_waits ws x) (held x ws k h)

-- What `allowed` says, and how to show it
abbrev apart_from : ℕ → (ws : Waits) → Choice ws → Bool
apart_from x ws k = not (move_holds x ws k) && (wait_holds x ws k || not (in_waits ws x))

allow : (x : ℕ) (ws : Waits) (k : Choice ws) → T (live_choice ws k) → T (not (move_holds x ws k)) → T (wait_holds x ws k) ⊎ T (not (in_waits ws x)) → T (allowed x ws k)
unfolding allowed
allow x ws k l n w =
    both (live_choice ws k) (apart_from x ws k) l
    (both (not (move_holds x ws k)) (wait_holds x ws k || not (in_waits ws x)) n
    (⊎_elim (left (wait_holds x ws k) (not (in_waits ws x))) (right (wait_holds x ws k) (not (in_waits ws x))) w))

pub is_live_lem : (x : ℕ) (ws : Waits) (k : Choice ws) → T (allowed x ws k) → T (live_choice ws k)
unfolding allowed
is_live_lem x ws k h = fst (live_choice ws k) (apart_from x ws k) h

pub not_held : (x : ℕ) (ws : Waits) (k : Choice ws) → T (allowed x ws k) → T (not (move_holds x ws k))
unfolding allowed
not_held x ws k h = fst (not (move_holds x ws k)) (wait_holds x ws k || not (in_waits ws x)) (snd (live_choice ws k) (apart_from x ws k) h)

pub right_wait : (x : ℕ) (ws : Waits) (k : Choice ws) → T (allowed x ws k) → T (wait_holds x ws k) ⊎ T (not (in_waits ws x))
unfolding allowed
right_wait x ws k h =
    cases (wait_holds x ws k) (not (in_waits ws x))
    (snd (not (move_holds x ws k)) (wait_holds x ws k || not (in_waits ws x)) (snd (live_choice ws k) (apart_from x ws k) h))

-- the rule's answer, which is allowed
abbrev Answers : ℕ → Waits → Type 0
Answers x ws = (k : Choice ws) × (answer x ws ≡ some k) × T (allowed x ws k)

answers_touched : (x : ℕ) (ws : Waits) → FairWaits ws → T (in_waits ws x) → Answers x ws
unfolding answer touched_answer
answers_touched x ws f i =
    let d = touched x ws f i in
    (d.choice, cond_yes (in_waits ws x) _ _ i ∙ d.is_first, allow x ws d.choice d.fact.0 d.fact.1 (inl d.fact.2))

answers_free : (x : ℕ) (ws : Waits) → FairWaits ws → 1 ≤ waits_in ws → T (not (in_waits ws x)) → Answers x ws
unfolding answer free_answer
answers_free x ws f c n =
    let d = free (λ c us. true) (λ c us. tt) (first_line ws) ws f (first_line_lem ws c) in (
      d.choice,
      cond_no (in_waits ws x) _ _ n ∙ d.is_first,
      allow x ws d.choice d.fact (not_T (move_holds x ws d.choice) (λ m. T_not (in_waits ws x) n (held x ws d.choice m))) (inr n),
    )

pub answers : (x : ℕ) (ws : Waits) → FairWaits ws → 1 ≤ waits_in ws → (k : Choice ws) × (answer x ws ≡ some k) × T (allowed x ws k)
answers x ws f c = ⊎_elim (answers_touched x ws f) (answers_free x ws f c) (decide (in_waits ws x))
