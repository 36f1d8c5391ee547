-- Laws of the outcomes: each with each, their count is the length of their list, and the outcome of a number by the numbering rule.
use mathlib.Core.Path.{◌≡◌, refl, sym, ap, ap₂, ◌∙◌}
use Prim.Native.Nat.{ℕ, zero, suc, ◌+◌, ◌*◌, ◌-◌, ◌/◌, ◌%◌, ◌≤◌, ◌<◌}
use mathlib.Core.List.{List, [], ◌∷◌, ◌++◌, map, append_assoc, map-append}
use lib.ListN.{length, get_or, length-append, length-map, get_or-append}
use lib.Seq.{get_or-append-add}
use native.Mathlib.Nat.{mod-lt, div-lt_iff_lt-mul, div-add-mod'}
use native.Mathlib.Omega.{arith}
use Rattle.rules.specs.Tree.{Waits, no_waits, wait, Moves, no_moves, move, Sheet, stone, at_start}
use Rattle.rules.specs.Live.{living}
use Rattle.rules.specs.Outcomes.{each_with_each, outcomes_of_waits, outcomes_of_moves, count_of_waits, count_of_moves, outcomes, outcome_count}

-- each with each: of lists put together, of lists with the same beginning, and of three
before_twice : {A : Type 0} (x y : List A) (zs : List (List A)) → map (λ z. x ++ z) (map (λ z. y ++ z) zs) ≡ map (λ z. (x ++ y) ++ z) zs
before_twice x y [] = refl
before_twice x y (z ∷ zs) = ap₂ ◌∷◌ (sym (append_assoc x y z)) (before_twice x y zs)

pub each_append : {A : Type 0} (xs ys zs : List (List A)) → each_with_each (xs ++ ys) zs ≡ each_with_each xs zs ++ each_with_each ys zs
unfolding each_with_each
each_append [] ys zs = refl
each_append (x ∷ xs) ys zs =
    ap (◌++◌ (map (λ z. x ++ z) zs)) (each_append xs ys zs) ∙ sym (append_assoc (map (λ z. x ++ z) zs) (each_with_each xs zs) (each_with_each ys zs))

pub each_before : {A : Type 0} (x : List A) (ys zs : List (List A)) → each_with_each (map (λ y. x ++ y) ys) zs ≡ map (λ y. x ++ y) (each_with_each ys zs)
unfolding each_with_each
each_before x [] zs = refl
each_before x (y ∷ ys) zs =
    ap₂ ◌++◌ (sym (before_twice x y zs)) (each_before x ys zs) ∙ sym (map-append (λ z. x ++ z) (map (λ z. y ++ z) zs) (each_with_each ys zs))

pub each_each : {A : Type 0} (xs ys zs : List (List A)) → each_with_each (each_with_each xs ys) zs ≡ each_with_each xs (each_with_each ys zs)
unfolding each_with_each
each_each [] ys zs = refl
each_each (x ∷ xs) ys zs =
    each_append (map (λ y. x ++ y) ys) (each_with_each xs ys) zs ∙ ap₂ ◌++◌ (each_before x ys zs) (each_each xs ys zs)

pub each_of_none : {A : Type 0} (ys : List (List A)) → each_with_each ([] ∷ []) ys ≡ ys
unfolding each_with_each
each_of_none [] = refl
each_of_none (y ∷ ys) = ap (λ l. y ∷ l) (each_of_none ys)

length_each : {A : Type 0} (xs ys : List (List A)) → length (each_with_each xs ys) ≡ length xs * length ys
unfolding each_with_each
length_each [] ys = omega arith
length_each (x ∷ xs) ys =
    omega (arith, length-append (map (λ y. x ++ y) ys) (each_with_each xs ys), length-map ys (λ y. x ++ y), length_each xs ys)

mutual
  unfolding outcomes_of_waits count_of_waits

  pub count_waits : (ws : Waits) → length (outcomes_of_waits ws) ≡ count_of_waits ws
  count_waits no_waits = refl
  count_waits (wait line ms ws) = length_each (outcomes_of_moves ms) (outcomes_of_waits ws) ∙ ap₂ ◌*◌ (count_moves ms) (count_waits ws)

  pub count_moves : (ms : Moves) → length (outcomes_of_moves ms) ≡ count_of_moves ms
  count_moves no_moves = refl
  count_moves (move line c ws ms) =
      length-append (map (λ o. stone c ++ o) (outcomes_of_waits ws)) (outcomes_of_moves ms)
      ∙ ap₂ ◌+◌ (length-map (outcomes_of_waits ws) (λ o. stone c ++ o) ∙ count_waits ws) (count_moves ms)

-- the count is the length of the list
pub count_is_length : (s : Sheet) → length (outcomes s) ≡ outcome_count s
unfolding outcomes outcome_count
count_is_length s = length-map (outcomes_of_waits (living s.root.waits)) (λ o. at_start s ++ o) ∙ count_waits (living s.root.waits)

nth_map : (f : List ℕ → List ℕ) (ys : List (List ℕ)) (i : ℕ) → i < length ys → get_or (map f ys) i [] ≡ f (get_or ys i [])
nth_map f [] i h = absurd (omega arith)
nth_map f (y ∷ ys) zero h = refl
nth_map f (y ∷ ys) (suc i) h = nth_map f ys i (omega arith)

nth_each : (xs ys : List (List ℕ)) (q r : ℕ) → q < length xs → r < length ys
    → get_or (each_with_each xs ys) (q * length ys + r) [] ≡ get_or xs q [] ++ get_or ys r []
unfolding each_with_each
nth_each [] ys q r hq hr = absurd (omega arith)
nth_each (x ∷ xs) ys zero r hq hr =
    let here : r < length (map (λ y. x ++ y) ys) = omega (arith, length-map ys (λ y. x ++ y)) in
    let at : zero * length ys + r ≡ r = omega arith in
    ap (λ i. get_or (map (λ y. x ++ y) ys ++ each_with_each xs ys) i []) at
    ∙ get_or-append (map (λ y. x ++ y) ys) (each_with_each xs ys) [] r here
    ∙ nth_map (λ y. x ++ y) ys r hr
nth_each (x ∷ xs) ys (suc q) r hq hr =
    let at : suc q * length ys + r ≡ length (map (λ y. x ++ y) ys) + (q * length ys + r) = omega (arith, length-map ys (λ y. x ++ y)) in
    ap (λ i. get_or (map (λ y. x ++ y) ys ++ each_with_each xs ys) i []) at
    ∙ get_or-append-add (map (λ y. x ++ y) ys) (each_with_each xs ys) (q * length ys + r) []
    ∙ nth_each xs ys q r (omega arith) hr

-- at a move the last wait varies fastest: the first wait has number i / count of the later waits, these have i % count
pub nth_waits : (line : ℕ) (ms : Moves) (ws : Waits) (i : ℕ) → 1 ≤ count_of_waits ws → i < count_of_moves ms * count_of_waits ws
    → get_or (outcomes_of_waits (wait line ms ws)) i []
    ≡ get_or (outcomes_of_moves ms) (i / count_of_waits ws) [] ++ get_or (outcomes_of_waits ws) (i % count_of_waits ws) []
unfolding outcomes_of_waits
nth_waits line ms ws i some h =
    let n = count_of_waits ws in
    let e : i / n * n + i % n ≡ i = div-add-mod' i n in
    let q : i / n < length (outcomes_of_moves ms) = omega (arith, count_moves ms, (div-lt_iff_lt-mul some).1 h) in
    let r : i % n < length (outcomes_of_waits ws) = omega (arith, count_waits ws, mod-lt i some) in
    ap (λ j. get_or (each_with_each (outcomes_of_moves ms) (outcomes_of_waits ws)) j []) (sym e ∙ ap (λ (k : ℕ). i / n * k + i % n) (sym (count_waits ws)))
    ∙ nth_each (outcomes_of_moves ms) (outcomes_of_waits ws) (i / n) (i % n) q r

-- at a wait the first move's outcomes come first
pub nth_first : (line c : ℕ) (ws : Waits) (ms : Moves) (i : ℕ) → i < count_of_waits ws
    → get_or (outcomes_of_moves (move line c ws ms)) i [] ≡ stone c ++ get_or (outcomes_of_waits ws) i []
unfolding outcomes_of_moves
nth_first line c ws ms i h =
    let l : i < length (outcomes_of_waits ws) = omega (arith, count_waits ws) in
    get_or-append (map (λ o. stone c ++ o) (outcomes_of_waits ws)) (outcomes_of_moves ms) [] i
    (omega (arith, length-map (outcomes_of_waits ws) (λ o. stone c ++ o)))
    ∙ nth_map (λ o. stone c ++ o) (outcomes_of_waits ws) i l

pub nth_later : (line c : ℕ) (ws : Waits) (ms : Moves) (i : ℕ) → count_of_waits ws ≤ i
    → get_or (outcomes_of_moves (move line c ws ms)) i [] ≡ get_or (outcomes_of_moves ms) (i - count_of_waits ws) []
unfolding outcomes_of_moves
nth_later line c ws ms i h =
    let at : i ≡ length (map (λ o. stone c ++ o) (outcomes_of_waits ws)) + (i - count_of_waits ws) =
    omega (arith, length-map (outcomes_of_waits ws) (λ o. stone c ++ o), count_waits ws) in
    ap (λ j. get_or (map (λ o. stone c ++ o) (outcomes_of_waits ws) ++ outcomes_of_moves ms) j []) at
    ∙ get_or-append-add (map (λ o. stone c ++ o) (outcomes_of_waits ws)) (outcomes_of_moves ms) (i - count_of_waits ws) []

-- of the root
pub nth_outcome : (s : Sheet) (i : ℕ) → i < outcome_count s
    → get_or (outcomes s) i [] ≡ at_start s ++ get_or (outcomes_of_waits (living s.root.waits)) i []
unfolding outcomes outcome_count
nth_outcome s i h =
    let l : i < length (outcomes_of_waits (living s.root.waits)) = omega (arith, count_waits (living s.root.waits)) in
    nth_map (λ o. at_start s ++ o) (outcomes_of_waits (living s.root.waits)) i l
