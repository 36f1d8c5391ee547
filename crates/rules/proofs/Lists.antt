-- Laws of the words of `specs/Words`: lists of numbers as sets, what is kept, the numbers 1 to n.
use Rattle.std.specs.Prelude.{if◌then◌else◌}
use mathlib.Core.Path.{◌≡◌, refl, ap, subst, subst⁻¹, ◌∙◌}
use mathlib.Core.Logic.{◌≢◌, ◌⊎◌, inl, inr}
use Prim.Native.Nat.{ℕ, zero, suc, ◌+◌, ◌-◌, ◌≤◌}
use mathlib.Core.Bool.{Bool, true, false, not, ◌||◌}
use mathlib.Core.List.{List, [], ◌∷◌, ◌++◌}
use lib.Dec.{T, eqb, eqb→eq, eqb_refl}
use lib.ListN.{length, take, drop, length-drop}
use lib.Seq.{take_all}
use native.Mathlib.Decide.{ℕ_discrete}
use native.Mathlib.Omega.{arith}
use Rattle.rules.specs.Words.{◌∈◌, at_head, in_tail, among, keep, any, up_to}
use Rattle.rules.proofs.Tests.{holds_of, left, right, cases}

-- a list with a first element is not empty
pub not_nil : {A : Type 0} {x : A} {xs ys : List A} → ys ≡ x ∷ xs → ys ≢ []
not_nil e f = let z : ◌≡◌ {A = ℕ} 0 1 = cc in omega arith

-- the part of a list from a place on, as a slice has it
pub part_from : (xs : List ℕ) (at : ℕ) → take (length xs - at) (drop at xs) ≡ drop at xs
part_from xs at = take_all (length xs - at) (drop at xs) (omega (arith, length-drop at xs))

-- keep
pub keep_append : (p : ℕ → Bool) (xs ys : List ℕ) → keep p (xs ++ ys) ≡ keep p xs ++ keep p ys
unfolding keep
keep_append p [] ys = refl
keep_append p (x ∷ xs) ys = go (p x) (keep_append p xs ys)
  where
    go : (t : Bool) → keep p (xs ++ ys) ≡ keep p xs ++ keep p ys
        → (if t then x ∷ keep p (xs ++ ys) else keep p (xs ++ ys)) ≡ (if t then x ∷ keep p xs else keep p xs) ++ keep p ys
    go true e = ap (λ (l : List ℕ). x ∷ l) e
    go false e = e

keep_in_step : (p : ℕ → Bool) (x y : ℕ) (ys : List ℕ) (b : Bool) → p y ≡ b → (T (among (keep p ys) x) → T (among ys x) × T (p x))
    → T (among (if b then y ∷ keep p ys else keep p ys) x) → T (among (y ∷ ys) x) × T (p x)
unfolding among
keep_in_step p x y ys true e ih h =
    elim (cases (eqb x y) (among (keep p ys) x) h) [
      | inl t ↦ (left (eqb x y) (among ys x) t, subst⁻¹ (λ z. T (p z)) (eqb→eq x y t) (holds_of e))
      | inr t ↦ (right (eqb x y) (among ys x) (ih t).0, (ih t).1)
    ]
keep_in_step p x y ys false e ih h = (right (eqb x y) (among ys x) (ih h).0, (ih h).1)

pub keep_in : (p : ℕ → Bool) (x : ℕ) (xs : List ℕ) → T (among (keep p xs) x) → T (among xs x) × T (p x)
unfolding keep among
keep_in p x [] h = absurd h
keep_in p x (y ∷ ys) h = keep_in_step p x y ys (p y) refl (keep_in p x ys) h

in_keep_step : (p : ℕ → Bool) (x y : ℕ) (ys : List ℕ) (b : Bool) → p y ≡ b → (T (among ys x) → T (among (keep p ys) x)) → T (p x)
    → T (among (y ∷ ys) x) → T (among (if b then y ∷ keep p ys else keep p ys) x)
unfolding among
in_keep_step p x y ys true e ih px h =
    elim (cases (eqb x y) (among ys x) h) [
      | inl t ↦ left (eqb x y) (among (keep p ys) x) t
      | inr t ↦ right (eqb x y) (among (keep p ys) x) (ih t)
    ]
in_keep_step p x y ys false e ih px h =
    elim (cases (eqb x y) (among ys x) h) [
      | inl t ↦ absurd (subst T e (subst (λ z. T (p z)) (eqb→eq x y t) px))
      | inr t ↦ ih t
    ]

pub in_keep : (p : ℕ → Bool) (x : ℕ) (xs : List ℕ) → T (p x) → T (among xs x) → T (among (keep p xs) x)
unfolding keep among
in_keep p x [] px h = absurd h
in_keep p x (y ∷ ys) px h = in_keep_step p x y ys (p y) refl (in_keep p x ys px) px h

-- those that pass and those that do not are as many as all
split_step : (p : ℕ → Bool) (y : ℕ) (ys : List ℕ) (b : Bool) → length (keep p ys) + length (keep (λ z. not (p z)) ys) ≡ length ys
    → length (if b then y ∷ keep p ys else keep p ys) + length (if not b then y ∷ keep (λ z. not (p z)) ys else keep (λ z. not (p z)) ys) ≡ suc (length ys)
split_step p y ys true ih = omega (arith, ih)
split_step p y ys false ih = omega (arith, ih)

pub keep_split : (p : ℕ → Bool) (xs : List ℕ) → length (keep p xs) + length (keep (λ z. not (p z)) xs) ≡ length xs
unfolding keep
keep_split p [] = refl
keep_split p (y ∷ ys) = split_step p y ys (p y) (keep_split p ys)

-- any
pub any_some : (p : ℕ → Bool) (xs : List ℕ) → T (any p xs) → (x : ℕ) × T (among xs x) × T (p x)
unfolding any among
any_some p [] h = absurd h
any_some p (y ∷ ys) h =
    elim (cases (p y) (any p ys) h) [
      | inl t ↦ (y, left (eqb y y) (among ys y) (eqb_refl y), t)
      | inr t ↦
          let r = any_some p ys t in
          (r.0, right (eqb r.0 y) (among ys r.0) r.1, r.2)
    ]

pub some_any : (p : ℕ → Bool) (x : ℕ) (xs : List ℕ) → T (among xs x) → T (p x) → T (any p xs)
unfolding any among
some_any p x [] h px = absurd h
some_any p x (y ∷ ys) h px =
    elim (cases (eqb x y) (among ys x) h) [
      | inl t ↦ left (p y) (any p ys) (subst (λ z. T (p z)) (eqb→eq x y t) px)
      | inr t ↦ right (p y) (any p ys) (some_any p x ys t px)
    ]

pub any_in : {A : Type 0} (p : A → Bool) (xs : List A) → T (any p xs) → (x : A) × (x ∈ xs) × T (p x)
unfolding any
any_in p [] h = absurd h
any_in p (y ∷ ys) h =
    elim (cases (p y) (any p ys) h) [
      | inl t ↦ (y, at_head, t)
      | inr t ↦ let r = any_in p ys t in (r.0, in_tail r.1, r.2)
    ]

pub in_any : {A : Type 0} (p : A → Bool) (x : A) (xs : List A) → x ∈ xs → T (p x) → T (any p xs)
unfolding any
in_any p x [] i h = elim i [ ]
in_any p x (y ∷ ys) at_head h = left (p x) (any p ys) h
in_any p x (y ∷ ys) (in_tail i) h = right (p y) (any p ys) (in_any p x ys i h)

-- append
or_assoc : (a b c : Bool) → (a || (b || c)) ≡ ((a || b) || c)
or_assoc true b c = refl
or_assoc false b c = refl

pub among_append : (x : ℕ) (xs ys : List ℕ) → among (xs ++ ys) x ≡ (among xs x || among ys x)
unfolding among
among_append x [] ys = refl
among_append x (z ∷ zs) ys = ap (λ (t : Bool). eqb x z || t) (among_append x zs ys) ∙ or_assoc (eqb x z) (among zs x) (among ys x)

pub in_append : (x : ℕ) (xs ys : List ℕ) → T (among (xs ++ ys) x) → T (among xs x) ⊎ T (among ys x)
in_append x xs ys h = cases (among xs x) (among ys x) (subst T (among_append x xs ys) h)

pub append_left : (x : ℕ) (xs ys : List ℕ) → T (among xs x) → T (among (xs ++ ys) x)
append_left x xs ys h = subst⁻¹ T (among_append x xs ys) (left (among xs x) (among ys x) h)

pub append_right : (x : ℕ) (xs ys : List ℕ) → T (among ys x) → T (among (xs ++ ys) x)
append_right x xs ys h = subst⁻¹ T (among_append x xs ys) (right (among xs x) (among ys x) h)

-- the numbers 1 to n
one_among : (x y : ℕ) → T (among (y ∷ []) x) → x ≡ y
unfolding among
one_among x y h = elim (cases (eqb x y) false h) [ inl t ↦ eqb→eq x y t | inr t ↦ absurd t ]

pub up_to_in : (n x : ℕ) → T (among (up_to n) x) → (1 ≤ x) × (x ≤ n)
unfolding up_to among
up_to_in zero x h = absurd h
up_to_in (suc n) x h =
    elim (in_append x (up_to n) (suc n ∷ []) h) [
      | inl t ↦
          let r = up_to_in n x t in
          (r.0, omega (arith, r.1))
      | inr t ↦
          let e : x ≡ suc n = one_among x (suc n) t in
          (omega arith, omega arith)
    ]

pub in_up_to : (n x : ℕ) → 1 ≤ x → x ≤ n → T (among (up_to n) x)
unfolding up_to among
in_up_to zero x lo hi = absurd (omega arith)
in_up_to (suc n) x lo hi = go (ℕ_discrete x (suc n)) (λ l. in_up_to n x lo l)
  where
    go : Dec (x ≡ suc n) → (x ≤ n → T (among (up_to n) x)) → T (among (up_to n ++ suc n ∷ []) x)
    go (yes e) ih = append_right x (up_to n) (suc n ∷ []) (left (eqb x (suc n)) false (subst⁻¹ (λ z. T (eqb z (suc n))) e (eqb_refl (suc n))))
    go (no e) ih = append_left x (up_to n) (suc n ∷ []) (ih (omega arith))

-- being in a list that was put together
pub in_both : {A : Type 0} {x : A} (xs ys : List A) → x ∈ (xs ++ ys) → (x ∈ xs) ⊎ (x ∈ ys)
in_both [] ys h = inr h
in_both (z ∷ xs) ys at_head = inl at_head
in_both (z ∷ xs) ys (in_tail h) = elim (in_both xs ys h) [ inl k ↦ inl (in_tail k) | inr k ↦ inr k ]

pub in_first : {A : Type 0} {x : A} {xs : List A} (ys : List A) → x ∈ xs → x ∈ (xs ++ ys)
in_first ys at_head = at_head
in_first ys (in_tail h) = in_tail (in_first ys h)

pub in_second : {A : Type 0} {x : A} (xs : List A) {ys : List A} → x ∈ ys → x ∈ (xs ++ ys)
in_second [] h = h
in_second (z ∷ xs) h = in_tail (in_second xs h)

pub all_cons : {A : Type 0} (P : A → Type 0) (x : A) (xs : List A) → P x → ((y : A) → y ∈ xs → P y) → (y : A) → y ∈ (x ∷ xs) → P y
all_cons P x xs p h y at_head = p
all_cons P x xs p h y (in_tail i) = h y i

pub nothing_in : {A : Type 0} {x : A} → x ∈ [] → ⊥
nothing_in h = go h refl
  where
    go : {A : Type 0} {x : A} {xs : List A} → x ∈ xs → xs ≡ [] → ⊥
    go at_head e = let z : ◌≡◌ {A = ℕ} 0 1 = cc in omega arith
    go (in_tail h) e = let z : ◌≡◌ {A = ℕ} 0 1 = cc in omega arith

pub none_long : {A : Type 0} (xs : List A) → length xs ≡ 0 → xs ≡ []
none_long [] e = refl
none_long (x ∷ xs) e = absurd (omega (arith, e))
