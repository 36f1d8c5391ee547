-- A property of each outcome (as cells, or as moves), and what becomes of it when a choice opens other waits.
use mathlib.Core.Path.{◌≡◌, refl, ap, subst, subst⁻¹}
use mathlib.Core.Bool.{not}
use mathlib.Core.List.{List, [], ◌∷◌, ◌++◌, map, append_assoc}
use mathlib.Core.Logic.{inl, inr, ⊎_elim}
use mathlib.Core.Option.{none}
use Prim.Native.Nat.{ℕ, zero, suc}
use lib.Dec.{T, eqb}
use Rattle.rules.specs.Words.{◌∈◌, at_head, in_tail, among}
use Rattle.rules.specs.Tree.{Waits, no_waits, wait, Moves, no_moves, move, stone, and_then}
use Rattle.rules.specs.Live.{Shared, and_this, is_live, living, living_after}
use Rattle.rules.specs.Outcomes.{each_with_each, outcomes_of_waits, outcomes_of_moves}
use Rattle.rules.specs.Choice.{the_first, one_later, PlaceIn, cell_there, waits_there, Choice, taken, opened}
use Rattle.rules.specs.Holder.{live_there, live_choice}
use Rattle.rules.proofs.Tests.{decide, left, right, cases, cond_yes, cond_no}
use Rattle.rules.proofs.Lists.{in_append, append_left, append_right}

abbrev pub Each : {A : Type 0} → (List A → Type 0) → List (List A) → Type 0
Each K [] = Unit {0}
Each K (o ∷ os) = K o × Each K os

pub each_in : {A : Type 0} (K : List A → Type 0) (os : List (List A)) → ((o : List A) → o ∈ os → K o) → Each K os
each_in K [] h = tt
each_in K (o ∷ os) h = (h o at_head, each_in K os (λ q i. h q (in_tail i)))

pub each_out : {A : Type 0} (K : List A → Type 0) (os : List (List A)) → Each K os → (o : List A) → o ∈ os → K o
each_out K [] h o i = elim i [ ]
each_out K (q ∷ os) h o at_head = h.0
each_out K (q ∷ os) h o (in_tail i) = each_out K os h.1 o i

pub each_mono : {A : Type 0} (K L : List A → Type 0) → ((o : List A) → K o → L o) → (os : List (List A)) → Each K os → Each L os
each_mono K L f [] h = tt
each_mono K L f (o ∷ os) h = (f o h.0, each_mono K L f os h.1)

pub each_append : {A : Type 0} (K : List A → Type 0) (os ps : List (List A)) → Each K os → Each K ps → Each K (os ++ ps)
each_append K [] ps h k = k
each_append K (o ∷ os) ps h k = (h.0, each_append K os ps h.1 k)

pub each_front : {A : Type 0} (K : List A → Type 0) (os ps : List (List A)) → Each K (os ++ ps) → Each K os
each_front K [] ps h = tt
each_front K (o ∷ os) ps h = (h.0, each_front K os ps h.1)

pub each_back : {A : Type 0} (K : List A → Type 0) (os ps : List (List A)) → Each K (os ++ ps) → Each K ps
each_back K [] ps h = h
each_back K (o ∷ os) ps h = each_back K os ps h.1

pub each_map : {A : Type 0} (K : List A → Type 0) (f : List A → List A) (os : List (List A)) → Each (λ o. K (f o)) os → Each K (map f os)
each_map K f [] h = tt
each_map K f (o ∷ os) h = (h.0, each_map K f os h.1)

pub each_unmap : {A : Type 0} (K : List A → Type 0) (f : List A → List A) (os : List (List A)) → Each K (map f os) → Each (λ o. K (f o)) os
each_unmap K f [] h = tt
each_unmap K f (o ∷ os) h = (h.0, each_unmap K f os h.1)

pub each_with : {A : Type 0} (K : List A → Type 0) (os ps : List (List A)) → Each (λ a. Each (λ b. K (a ++ b)) ps) os → Each K (each_with_each os ps)
unfolding each_with_each
each_with K [] ps h = tt
each_with K (o ∷ os) ps h = each_append K (map (λ b. o ++ b) ps) (each_with_each os ps) (each_map K (λ b. o ++ b) ps h.0) (each_with K os ps h.1)

pub each_without : {A : Type 0} (K : List A → Type 0) (os ps : List (List A)) → Each K (each_with_each os ps) → Each (λ a. Each (λ b. K (a ++ b)) ps) os
unfolding each_with_each
each_without K [] ps h = tt
each_without K (o ∷ os) ps h = (
  each_unmap K (λ b. o ++ b) ps (each_front K (map (λ b. o ++ b) ps) (each_with_each os ps) h),
  each_without K os ps (each_back K (map (λ b. o ++ b) ps) (each_with_each os ps) h),
)

-- the outcomes of a live move of a wait are outcomes of the wait
each_at_live : (K : List ℕ → Type 0) (before : Shared) (ms : Moves) (p : PlaceIn ms) → T (live_there before ms p) → Each K (outcomes_of_moves (living_after before ms))
    → Each (λ o. K (stone (cell_there ms p) ++ o)) (outcomes_of_waits (living (waits_there ms p)))
unfolding outcomes_of_moves living_after live_there
each_at_live K before no_moves p l h = absurd p
each_at_live K before (move line c ws ms) (the_first u) l h =
    each_unmap K (λ o. stone c ++ o) (outcomes_of_waits (living ws))
    (each_front K (map (λ o. stone c ++ o) (outcomes_of_waits (living ws))) (outcomes_of_moves (living_after (and_this before c ws) ms))
    (subst (λ (ns : Moves). Each K (outcomes_of_moves ns)) (cond_yes (is_live before c ws) (move line c (living ws) (living_after (and_this before c ws) ms)) (living_after (and_this before c ws) ms) l) h))
each_at_live K before (move line c ws ms) (one_later p) l h = each_at_live K (and_this before c ws) ms p l (⊎_elim on off (decide (is_live before c ws)))
  where
    rest : Moves
    rest = living_after (and_this before c ws) ms

    on : T (is_live before c ws) → Each K (outcomes_of_moves rest)
    on y =
        each_back K (map (λ o. stone c ++ o) (outcomes_of_waits (living ws))) (outcomes_of_moves rest)
        (subst (λ (ns : Moves). Each K (outcomes_of_moves ns)) (cond_yes (is_live before c ws) (move line c (living ws) rest) rest y) h)

    off : T (not (is_live before c ws)) → Each K (outcomes_of_moves rest)
    off y = subst (λ (ns : Moves). Each K (outcomes_of_moves ns)) (cond_no (is_live before c ws) (move line c (living ws) rest) rest y) h

each_then : (K : List ℕ → Type 0) (vs ws : Waits) → Each (λ o. Each (λ b. K (o ++ b)) (outcomes_of_waits ws)) (outcomes_of_waits vs) → Each K (outcomes_of_waits (and_then vs ws))
unfolding outcomes_of_waits
each_then K no_waits ws h = h.0
each_then K (wait line ms vs) ws h =
    each_with K (outcomes_of_moves ms) (outcomes_of_waits (and_then vs ws))
    (each_mono
    (λ a. Each (λ o. Each (λ b. K ((a ++ o) ++ b)) (outcomes_of_waits ws)) (outcomes_of_waits vs))
    (λ a. Each (λ b. K (a ++ b)) (outcomes_of_waits (and_then vs ws)))
    (λ a g. each_then (λ b. K (a ++ b)) vs ws
    (each_mono (λ o. Each (λ b. K ((a ++ o) ++ b)) (outcomes_of_waits ws)) (λ o. Each (λ b. K (a ++ (o ++ b))) (outcomes_of_waits ws))
    (λ o. each_mono (λ b. K ((a ++ o) ++ b)) (λ b. K (a ++ (o ++ b))) (λ b. subst K (append_assoc a o b)) (outcomes_of_waits ws))
    (outcomes_of_waits vs) g))
    (outcomes_of_moves ms)
    (each_without (λ o. Each (λ b. K (o ++ b)) (outcomes_of_waits ws)) (outcomes_of_moves ms) (outcomes_of_waits vs) h))

-- every cell of the first list is one of the second
abbrev pub Inside : List ℕ → List ℕ → Type 0
Inside o r = (x : ℕ) → T (among o x) → T (among r x)

stone_inside : (c : ℕ) (o : List ℕ) → Inside (stone c ++ o) (c ∷ o)
unfolding stone among
stone_inside zero o x h = right (eqb x 0) (among o x) h
stone_inside (suc c) o x h = h

-- a stone taken out of the second part of a list, and put in front
slide : (c : ℕ) (a o r : List ℕ) → Inside o (c ∷ r) → Inside (a ++ o) (c ∷ (a ++ r))
unfolding among
slide c a o r f x h =
    elim (in_append x a o h) [
      | inl i ↦ right (eqb x c) (among (a ++ r) x) (append_left x a r i)
      | inr i ↦
          elim (cases (eqb x c) (among r x) (f x i)) [
            | inl e ↦ left (eqb x c) (among (a ++ r) x) e
            | inr e ↦ right (eqb x c) (among (a ++ r) x) (append_right x a r e)
          ]
    ]

after_stone : (c : ℕ) (o b : List ℕ) → Inside ((stone c ++ o) ++ b) (c ∷ (o ++ b))
after_stone c o b x h = stone_inside c (o ++ b) x (subst (λ (l : List ℕ). T (among l x)) (append_assoc (stone c) o b) h)

living_then : (vs ws : Waits) → living (and_then vs ws) ≡ and_then (living vs) (living ws)
unfolding living
living_then no_waits ws = refl
living_then (wait line ms vs) ws = ap (wait line (living_after none ms)) (living_then vs ws)

-- Each outcome of the waits open after a live choice has, with the stone taken, the cells of an outcome of the waits open before
pub each_opened : (ws : Waits) (k : Choice ws) → T (live_choice ws k) → (K L : List ℕ → Type 0)
    → ((o r : List ℕ) → Inside o (taken ws k ∷ r) → K o → L r)
    → Each K (outcomes_of_waits (living ws)) → Each L (outcomes_of_waits (living (opened ws k)))
unfolding outcomes_of_waits living live_choice
each_opened no_waits k l K L f h = absurd k
each_opened (wait line ms ws) (the_first p) l K L f h =
    let c = cell_there ms p in
    subst⁻¹ (λ (us : Waits). Each L (outcomes_of_waits us)) (living_then (waits_there ms p) ws)
    (each_then L (living (waits_there ms p)) (living ws)
    (each_mono (λ o. Each (λ b. K ((stone c ++ o) ++ b)) (outcomes_of_waits (living ws))) (λ o. Each (λ b. L (o ++ b)) (outcomes_of_waits (living ws)))
    (λ o. each_mono (λ b. K ((stone c ++ o) ++ b)) (λ b. L (o ++ b)) (λ b. f ((stone c ++ o) ++ b) (o ++ b) (after_stone c o b)) (outcomes_of_waits (living ws)))
    (outcomes_of_waits (living (waits_there ms p)))
    (each_at_live (λ a. Each (λ b. K (a ++ b)) (outcomes_of_waits (living ws))) none ms p l
    (each_without K (outcomes_of_moves (living_after none ms)) (outcomes_of_waits (living ws)) h))))
each_opened (wait line ms ws) (one_later k) l K L f h =
    each_with L (outcomes_of_moves (living_after none ms)) (outcomes_of_waits (living (opened ws k)))
    (each_mono (λ a. Each (λ b. K (a ++ b)) (outcomes_of_waits (living ws))) (λ a. Each (λ b. L (a ++ b)) (outcomes_of_waits (living (opened ws k))))
    (λ a. each_opened ws k l (λ b. K (a ++ b)) (λ b. L (a ++ b))
    (λ o r inside. f (a ++ o) (a ++ r) (slide (taken ws k) a o r inside)))
    (outcomes_of_moves (living_after none ms))
    (each_without K (outcomes_of_moves (living_after none ms)) (outcomes_of_waits (living ws)) h))
