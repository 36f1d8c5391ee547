-- What the first of a list gives that gives anything: where it stands, and that nothing is given before it.
use mathlib.Core.Path.{◌≡◌, refl, sym, ap, ◌∙◌}
use mathlib.Core.List.{List, [], ◌∷◌, ◌++◌}
use mathlib.Core.Option.{Option, none, some}
use Rattle.rules.specs.Words.{◌∈◌, at_head, in_tail, first_some}
use Rattle.rules.proofs.Lists.{all_cons, nothing_in}
use Rattle.rules.proofs.Steps.{none≢some}

module _ {A B : Type 0} (f : A → Option B) where
  abbrev Nothing : A → Type 0
  Nothing x = f x ≡ none

  pub none_each : (xs : List A) → first_some f xs ≡ none → (x : A) → x ∈ xs → f x ≡ none
  unfolding first_some
  none_each [] e = λ x i. absurd (nothing_in i)
  none_each (x ∷ xs) e = go (f x) refl (none_each xs)
    where
      go : (o : Option B) → f x ≡ o → (first_some f xs ≡ none → (y : A) → y ∈ xs → f y ≡ none) → (y : A) → y ∈ (x ∷ xs) → f y ≡ none
      go none q ih = all_cons Nothing x xs q (ih (rw (q, first_some) at e))
      go (some y) q ih = absurd (none≢some (sym (rw (q, first_some) at e)))

  pub each_none : (xs : List A) → ((x : A) → x ∈ xs → f x ≡ none) → first_some f xs ≡ none
  unfolding first_some
  each_none [] h = refl
  each_none (x ∷ xs) h = rw (h x at_head, first_some) (each_none xs (λ y i. h y (in_tail i)))

  pub record FirstOf (xs : List A) (y : B) : Type 0 where
    pub before : List A
    pub its : A
    pub after : List A
    pub stands : xs ≡ before ++ its ∷ after
    pub gives : f its ≡ some y
    pub none_before : (x : A) → x ∈ before → f x ≡ none

  pub first_of : (xs : List A) (y : B) → first_some f xs ≡ some y → FirstOf xs y
  unfolding first_some
  first_of [] y e = absurd (none≢some e)
  first_of (x ∷ xs) y e = go (f x) refl (first_of xs y)
    where
      go : (o : Option B) → f x ≡ o → (first_some f xs ≡ some y → FirstOf xs y) → FirstOf (x ∷ xs) y
      go none q ih =
          let r = ih (rw (q, first_some) at e) in
          record {
            before = x ∷ r.before;
            its = r.its;
            after = r.after;
            stands = ap (λ (l : List A). x ∷ l) r.stands;
            gives = r.gives;
            none_before = all_cons Nothing x r.before q r.none_before;
          }
      go (some z) q ih =
          record { before = []; its = x; after = xs; stands = refl; gives = q ∙ (rw (q, first_some) at e); none_before = λ w i. absurd (nothing_in i) }

  first_after : (before : List A) (its : A) (after : List A) (y : B) → f its ≡ some y → ((x : A) → x ∈ before → f x ≡ none)
      → first_some f (before ++ its ∷ after) ≡ some y
  unfolding first_some
  first_after [] its after y e h = rw (e, first_some) refl
  first_after (x ∷ xs) its after y e h = rw (h x at_head, first_some) (first_after xs its after y e (λ z i. h z (in_tail i)))

  pub of_first : (xs : List A) (y : B) → FirstOf xs y → first_some f xs ≡ some y
  of_first xs y r = ap (first_some f) r.stands ∙ first_after r.before r.its r.after y r.gives r.none_before
