-- Small words that every definition is written with: lists.
use Rattle.std.specs.Prelude.{ℕ, zero, suc, ◌+◌, Bool, true, false, ◌&&◌, ◌||◌, List, [], ◌∷◌, ◌++◌, eqb, if◌then◌else◌}
use Rattle.std.proofs.Math.Option.{Option, none, some}

infix 20 ◌∈◌
-- x is in the list: as a statement, and for numbers as a test
pub data ◌∈◌ {A : Type 0} (x : A) : List A → Type 0 where
  at_head : {xs : List A} → x ∈ (x ∷ xs)
  in_tail : {y : A} {xs : List A} → x ∈ xs → x ∈ (y ∷ xs)

unfoldable pub among : List ℕ → ℕ → Bool
among [] x = false
among (y ∷ ys) x = eqb x y || among ys x

-- those that pass the test, in their order
unfoldable pub keep : {A : Type 0} → (A → Bool) → List A → List A
keep p [] = []
keep p (x ∷ xs) = if p x then x ∷ keep p xs else keep p xs

-- some one passes the test
unfoldable pub any : {A : Type 0} → (A → Bool) → List A → Bool
any p [] = false
any p (x ∷ xs) = p x || any p xs

-- the first that passes the test
unfoldable pub first_that : {A : Type 0} → (A → Bool) → List A → Option A
first_that p [] = none
first_that p (x ∷ xs) = if p x then some x else first_that p xs

-- what the first one gives that gives anything
unfoldable pub first_some : {A B : Type 0} → (A → Option B) → List A → Option B
first_some f [] = none
first_some f (x ∷ xs) = elim (f x) [ some y ↦ some y | none ↦ first_some f xs ]

-- two lists of numbers are the same
unfoldable pub same : List ℕ → List ℕ → Bool
same [] [] = true
same [] (y ∷ ys) = false
same (x ∷ xs) [] = false
same (x ∷ xs) (y ∷ ys) = eqb x y && same xs ys

-- one of the lists stands twice
unfoldable pub twice : List (List ℕ) → Bool
twice [] = false
twice (x ∷ xs) = any (same x) xs || twice xs

-- the sum of what each one gives
unfoldable pub total : {A : Type 0} → (A → ℕ) → List A → ℕ
total f [] = 0
total f (x ∷ xs) = f x + total f xs

-- the numbers 1 to n
unfoldable pub up_to : ℕ → List ℕ
up_to zero = []
up_to (suc n) = up_to n ++ suc n ∷ []

-- the first of a list of cells; 0 where it has none
unfoldable pub first_or_none : List ℕ → ℕ
first_or_none [] = 0
first_or_none (x ∷ xs) = x

unfoldable pub one_if : Bool → ℕ
one_if true = 1
one_if false = 0
