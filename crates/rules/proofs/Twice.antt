-- C-20: the computed test for a branch that stands twice under a wait is what the plain statement says; and branches are the same
-- exactly if their trees are, but for the numbers of the lines.
use mathlib.Core.Path.{◌≡◌, refl, sym, ap, ap₂, subst, subst⁻¹, ◌∙◌}
use mathlib.Core.Logic.{inl, inr, ◌↔◌}
use Prim.Native.Nat.{ℕ, suc}
use native.Mathlib.Omega.{arith}
use mathlib.Core.Bool.{Bool, true, false}
use mathlib.Core.List.{List, [], ◌∷◌, ◌++◌, append_assoc}
use mathlib.Core.Option.{none, some}
use lib.Dec.{T, eqb, eqb_refl, eqb→eq}
use lib.ListN.{length}
use Rattle.rules.specs.Words.{any, same, twice}
use Rattle.rules.specs.Tree.{Waits, no_waits, wait, Moves, no_moves, move, Wait, Sheet, every_wait}
use Rattle.rules.specs.Written.{how_many_waits, how_many_moves}
use Rattle.rules.specs.Fair.{Fault, lines_under_move, lines_under_wait, branch, branches, twice_at, first_twice}
use Rattle.rules.specs.Plain.{StandsTwice, HasTwice, NoneTwice, IsFirstTwice, bare_waits, bare_moves}
use Rattle.rules.proofs.Tests.{true_of, false_of, both, fst, snd, left, right, cases}
use Rattle.rules.proofs.Steps.{none≢some, some_inj}
use Rattle.rules.proofs.First.{none_each, each_none, first_of, of_first}

-- the same lists are equal
pub same_equal : (xs ys : List ℕ) → T (same xs ys) → xs ≡ ys
unfolding same
same_equal [] [] h = refl
same_equal [] (y ∷ ys) h = absurd h
same_equal (x ∷ xs) [] h = absurd h
same_equal (x ∷ xs) (y ∷ ys) h =
    ap₂ (λ (z : ℕ) (zs : List ℕ). z ∷ zs) (eqb→eq x y (fst (eqb x y) (same xs ys) h)) (same_equal xs ys (snd (eqb x y) (same xs ys) h))

pub equal_same : (xs : List ℕ) → T (same xs xs)
unfolding same
equal_same [] = tt
equal_same (x ∷ xs) = both (eqb x x) (same xs xs) (eqb_refl x) (equal_same xs)

-- lists of another length are not the same
pub same_long : (xs ys : List ℕ) → (length xs ≡ length ys → ⊥) → same xs ys ≡ false
same_long xs ys z = false_of (same xs ys) (λ h. z (ap length (same_equal xs ys h)))

-- a list stands among lists
record StandsIn (x : List ℕ) (xs : List (List ℕ)) : Type 0 where
  before : List (List ℕ)
  after : List (List ℕ)
  stands : xs ≡ before ++ x ∷ after

stands_in : (x : List ℕ) (xs : List (List ℕ)) → T (any (same x) xs) → StandsIn x xs
unfolding any
stands_in x [] h = absurd h
stands_in x (y ∷ ys) h =
    elim (cases (same x y) (any (same x) ys) h) [
      | inl k ↦ record { before = []; after = ys; stands = ap (λ (z : List ℕ). z ∷ ys) (sym (same_equal x y k)) }
      | inr k ↦
          let r = stands_in x ys k in
          record { before = y ∷ r.before; after = r.after; stands = ap (λ (l : List (List ℕ)). y ∷ l) r.stands }
    ]

in_stands : (x : List ℕ) (before after : List (List ℕ)) → T (any (same x) (before ++ x ∷ after))
unfolding any
in_stands x [] after = left (same x x) (any (same x) after) (equal_same x)
in_stands x (y ∷ ys) after = right (same x y) (any (same x) (ys ++ x ∷ after)) (in_stands x ys after)

-- one of the lists stands twice
pub twice_stands : (xs : List (List ℕ)) → T (twice xs) → StandsTwice xs
unfolding twice
twice_stands [] h = absurd h
twice_stands (x ∷ xs) h =
    elim (cases (any (same x) xs) (twice xs) h) [
      | inl k ↦
          let r = stands_in x xs k in
          record { before = []; its = x; between = r.before; after = r.after; stands = ap (λ (l : List (List ℕ)). x ∷ l) r.stands }
      | inr k ↦
          let r = twice_stands xs k in
          record { before = x ∷ r.before; its = r.its; between = r.between; after = r.after; stands = ap (λ (l : List (List ℕ)). x ∷ l) r.stands }
    ]

twice_after : (before : List (List ℕ)) (x : List ℕ) (between after : List (List ℕ)) → T (twice (before ++ x ∷ (between ++ x ∷ after)))
unfolding twice
twice_after [] x between after = left (any (same x) (between ++ x ∷ after)) (twice (between ++ x ∷ after)) (in_stands x between after)
twice_after (y ∷ ys) x between after =
    right (any (same y) (ys ++ x ∷ (between ++ x ∷ after))) (twice (ys ++ x ∷ (between ++ x ∷ after))) (twice_after ys x between after)

pub stands_twice : (xs : List (List ℕ)) → StandsTwice xs → T (twice xs)
stands_twice xs r = subst⁻¹ (λ (l : List (List ℕ)). T (twice l)) r.stands (twice_after r.before r.its r.between r.after)

-- at a wait
record TwiceSeen (w : Wait) (f : Fault) : Type 0 where
  its_line : f.line ≡ w.line
  no_cell : f.cell ≡ 0
  has_twice : HasTwice w

none_at : (w : Wait) → twice_at w ≡ none → HasTwice w → ⊥
unfolding twice_at
none_at w e h = none≢some (sym (rw (true_of (twice (branches w.moves)) (stands_twice (branches w.moves) h)) at e))

single_at : (w : Wait) → (HasTwice w → ⊥) → twice_at w ≡ none
unfolding twice_at
single_at w h = rw (false_of (twice (branches w.moves)) (λ k. h (twice_stands (branches w.moves) k)))

some_at : (w : Wait) (f : Fault) → twice_at w ≡ some f → TwiceSeen w f
unfolding twice_at
some_at w f e = go (twice (branches w.moves)) refl
  where
    go : (b : Bool) → twice (branches w.moves) ≡ b → TwiceSeen w f
    go true q =
        subst (TwiceSeen w) (some_inj (rw q at e)) (record { its_line = refl; no_cell = refl; has_twice = twice_stands (branches w.moves) (subst⁻¹ T q tt) })
    go false q = absurd (none≢some (rw q at e))

at_some : (w : Wait) → HasTwice w → twice_at w ≡ some (record { line = w.line; cell = 0 })
unfolding twice_at
at_some w h = rw (true_of (twice (branches w.moves)) (stands_twice (branches w.moves) h))

-- over the whole tree
module _ (s : Sheet) where
  pub twice_none : first_twice s ≡ none → NoneTwice s
  unfolding first_twice
  twice_none e w i = none_at w (none_each twice_at (every_wait s) e w i)

  pub none_twice : NoneTwice s → first_twice s ≡ none
  unfolding first_twice
  none_twice h = each_none twice_at (every_wait s) (λ w i. single_at w (h w i))

  pub twice_first : (f : Fault) → first_twice s ≡ some f → IsFirstTwice (every_wait s) f.line
  unfolding first_twice
  twice_first f e =
      let r = first_of twice_at (every_wait s) f e in
      let k = some_at r.its f r.gives in
      record {
        before = r.before;
        its_wait = r.its;
        after = r.after;
        stands = r.stands;
        its_line = k.its_line;
        has_twice = k.has_twice;
        none_before = λ w i. none_at w (r.none_before w i);
      }

  pub is_first_twice : (line : ℕ) → IsFirstTwice (every_wait s) line → first_twice s ≡ some (record { line = line; cell = 0 })
  unfolding first_twice
  is_first_twice line r =
      of_first twice_at (every_wait s) (record { line = line; cell = 0 })
      (record {
        before = r.before;
        its = r.its_wait;
        after = r.after;
        stands = r.stands;
        gives = at_some r.its_wait r.has_twice ∙ ap (λ (l : ℕ). some (record { line = l; cell = 0 })) (sym r.its_line);
        none_before = λ w i. single_at w (r.none_before w i);
      })

-- Same branches are same trees: lines with their counts can be read back in one way only
record Back {X : Type 0} (x y : X) (r q : List ℕ) : Type 0 where
  same_tree : x ≡ y
  same_rest : r ≡ q

mutual
  unfolding lines_under_move how_many_waits how_many_moves bare_waits

  waits_back : (ws vs : Waits) (r q : List ℕ) → how_many_waits ws ≡ how_many_waits vs → lines_under_move ws ++ r ≡ lines_under_move vs ++ q → Back (bare_waits ws) (bare_waits vs) r q
  waits_back no_waits no_waits r q n e = record { same_tree = refl; same_rest = e }
  waits_back no_waits (wait line ms ws) r q n e = absurd (omega arith)
  waits_back (wait line ms ws) no_waits r q n e = absurd (omega arith)
  waits_back (wait line ms ws) (wait line' ns vs) r q n e =
      let m : how_many_moves ms ≡ how_many_moves ns = cc in
      let others : (lines_under_wait ms ++ lines_under_move ws) ++ r ≡ (lines_under_wait ns ++ lines_under_move vs) ++ q = cc in
      let a = moves_back ms ns (lines_under_move ws ++ r) (lines_under_move vs ++ q) m
      (sym (append_assoc (lines_under_wait ms) (lines_under_move ws) r) ∙ others ∙ append_assoc (lines_under_wait ns) (lines_under_move vs) q) in
      let b = waits_back ws vs r q (omega arith) a.same_rest in
      record { same_tree = ap₂ (wait 0) a.same_tree b.same_tree; same_rest = b.same_rest }

  moves_back : (ms ns : Moves) (r q : List ℕ) → how_many_moves ms ≡ how_many_moves ns → lines_under_wait ms ++ r ≡ lines_under_wait ns ++ q → Back (bare_moves ms) (bare_moves ns) r q
  moves_back no_moves no_moves r q n e = record { same_tree = refl; same_rest = e }
  moves_back no_moves (move line c ws ms) r q n e = absurd (omega arith)
  moves_back (move line c ws ms) no_moves r q n e = absurd (omega arith)
  moves_back (move line c ws ms) (move line' d vs ns) r q n e =
      let cell : c ≡ d = cc in
      let m : how_many_waits ws ≡ how_many_waits vs = cc in
      let others : (lines_under_move ws ++ lines_under_wait ms) ++ r ≡ (lines_under_move vs ++ lines_under_wait ns) ++ q = cc in
      let a = waits_back ws vs (lines_under_wait ms ++ r) (lines_under_wait ns ++ q) m
      (sym (append_assoc (lines_under_move ws) (lines_under_wait ms) r) ∙ others ∙ append_assoc (lines_under_move vs) (lines_under_wait ns) q) in
      let b = moves_back ms ns r q (omega arith) a.same_rest in
      record { same_tree = rw cell (ap₂ (move 0 d) a.same_tree b.same_tree); same_rest = b.same_rest }

-- the numbers of the lines are not among a branch's
bare_many : (ws : Waits) → how_many_waits (bare_waits ws) ≡ how_many_waits ws
unfolding how_many_waits bare_waits
bare_many no_waits = refl
bare_many (wait line ms ws) = ap suc (bare_many ws)

bare_many_moves : (ms : Moves) → how_many_moves (bare_moves ms) ≡ how_many_moves ms
unfolding how_many_moves bare_waits
bare_many_moves no_moves = refl
bare_many_moves (move line c ws ms) = ap suc (bare_many_moves ms)

mutual
  unfolding lines_under_move bare_waits

  bare_waits_lem : (ws : Waits) → lines_under_move (bare_waits ws) ≡ lines_under_move ws
  bare_waits_lem no_waits = refl
  bare_waits_lem (wait line ms ws) =
      ap₂ (λ (n : ℕ) (l : List ℕ). 0 ∷ n ∷ l) (bare_many_moves ms) (ap₂ ◌++◌ (bare_moves_lem ms) (bare_waits_lem ws))

  bare_moves_lem : (ms : Moves) → lines_under_wait (bare_moves ms) ≡ lines_under_wait ms
  bare_moves_lem no_moves = refl
  bare_moves_lem (move line c ws ms) =
      ap₂ (λ (n : ℕ) (l : List ℕ). c ∷ n ∷ l) (bare_many ws) (ap₂ ◌++◌ (bare_waits_lem ws) (bare_moves_lem ms))

pub same_branches : (c d : ℕ) (ws vs : Waits) → (branch c ws ≡ branch d vs) ↔ ((c ≡ d) × (bare_waits ws ≡ bare_waits vs))
unfolding branch
same_branches c d ws vs = (there, back)
  where
    there : branch c ws ≡ branch d vs → (c ≡ d) × (bare_waits ws ≡ bare_waits vs)
    there e =
        let cell : c ≡ d = cc in
        let many : how_many_waits ws ≡ how_many_waits vs = cc in
        let lines : lines_under_move ws ≡ lines_under_move vs = cc in
        (cell, (waits_back ws vs [] [] many (ap (λ (l : List ℕ). l ++ []) lines)).same_tree)

    back : (c ≡ d) × (bare_waits ws ≡ bare_waits vs) → branch c ws ≡ branch d vs
    back e =
        let many : how_many_waits ws ≡ how_many_waits vs = sym (bare_many ws) ∙ ap how_many_waits e.1 ∙ bare_many vs in
        let lines : lines_under_move ws ≡ lines_under_move vs = sym (bare_waits_lem ws) ∙ ap lines_under_move e.1 ∙ bare_waits_lem vs in
        rw (e.0, many) (ap (λ (l : List ℕ). d ∷ how_many_waits vs ∷ l) lines)
