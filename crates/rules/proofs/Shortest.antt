-- The computed beginning is the shortest one that joins.
use Rattle.std.specs.Prelude.{if◌then◌else◌}
use mathlib.Core.Path.{◌≡◌, refl, sym, ap, subst, subst⁻¹, ◌∙◌}
use mathlib.Core.Logic.{◌↔◌}
use Prim.Native.Nat.{ℕ, ◌<◌}
use native.Mathlib.Omega.{arith}
use mathlib.Core.Bool.{Bool, true, false}
use mathlib.Core.List.{List, [], ◌∷◌, ◌++◌, append-nil, append_assoc}
use mathlib.Core.Option.{Option, none, some, map}
use lib.ListN.{length}
use Rattle.rules.specs.Words.{among, first_that}
use Rattle.rules.specs.Joining.{Joins, joined}
use Rattle.rules.specs.Tree.{Move, stone}
use Rattle.rules.specs.Passing.{stones_of, beginnings, shortest, IsShortest}
use Rattle.rules.specs.declared.Board.{Board}
use Rattle.rules.specs.declared.Player.{Player}
use Rattle.rules.proofs.Tests.{holds_of, true_of, never_both}
use Rattle.rules.proofs.Steps.{none≢some}
use Rattle.rules.proofs.Joining.{joined_is_joins}
use Rattle.rules.proofs.Passing.{shortest_here, shortest_on}

module _ (b : Board) (p : Player) where
  -- the stones alone
  alone_joins : (put : List ℕ) → joined b p (among put) ≡ true → Joins b p (among (put ++ stones_of []))
  unfolding stones_of
  alone_joins put j = (joined_is_joins b p (among (put ++ []))).0 (holds_of (ap (λ (xs : List ℕ). joined b p (among xs)) (append-nil put) ∙ j))

  joins_alone : (put : List ℕ) → Joins b p (among (put ++ stones_of [])) → joined b p (among put) ≡ true
  unfolding stones_of
  joins_alone put h =
      ap (λ (xs : List ℕ). joined b p (among xs)) (sym (append-nil put)) ∙ true_of (joined b p (among (put ++ []))) ((joined_is_joins b p (among (put ++ []))).1 h)

  -- with the first move's stone put
  with_first : (put : List ℕ) (m : Move) (k : List Move) → Joins b p (among ((put ++ stone m.cell) ++ stones_of k)) → Joins b p (among (put ++ stones_of (m ∷ k)))
  unfolding stones_of
  with_first put m k h = subst (λ (xs : List ℕ). Joins b p (among xs)) (append_assoc put (stone m.cell) (stones_of k)) h

  after_first : (put : List ℕ) (m : Move) (k : List Move) → Joins b p (among (put ++ stones_of (m ∷ k))) → Joins b p (among ((put ++ stone m.cell) ++ stones_of k))
  unfolding stones_of
  after_first put m k h = subst⁻¹ (λ (xs : List ℕ). Joins b p (among xs)) (append_assoc put (stone m.cell) (stones_of k)) h

  empty_is : (put : List ℕ) (l : List Move) → joined b p (among put) ≡ true → IsShortest b p put l []
  empty_is put l j = record { rest = l; is_beginning = refl; joins = alone_joins put j; none_shorter = λ i r e short h. omega arith }

  longer_is : (put : List ℕ) (m : Move) (l k : List Move) → joined b p (among put) ≡ false → IsShortest b p (put ++ stone m.cell) l k → IsShortest b p put (m ∷ l) (m ∷ k)
  longer_is put m l k j i =
      record { rest = i.rest; is_beginning = ap (λ z. m ∷ z) i.is_beginning; joins = with_first put m k i.joins; none_shorter = shorter }
    where
      shorter : (h r : List Move) → (m ∷ l) ≡ h ++ r → length h < length (m ∷ k) → Joins b p (among (put ++ stones_of h)) → ⊥
      shorter [] r e short g = never_both (joins_alone put g) j
      shorter (n ∷ h) r e short g =
          let same : m ≡ n = cc in
          let later : l ≡ h ++ r = cc in
          i.none_shorter h r later (omega arith) (after_first put m h (subst⁻¹ (λ (z : Move). Joins b p (among (put ++ stones_of (z ∷ h)))) same g))

  -- where the stones do not join and no move is left there is none
  shortest_end : (put : List ℕ) → joined b p (among put) ≡ false → shortest b p put [] ≡ none
  unfolding shortest beginnings first_that stones_of
  shortest_end put j = ap (λ (t : Bool). if t then some [] else none) (ap (λ (xs : List ℕ). joined b p (among xs)) (append-nil put) ∙ j)

  -- the computed one is the shortest
  at_joined : (put : List ℕ) (l k : List Move) → joined b p (among put) ≡ true → shortest b p put l ≡ some k → IsShortest b p put l k
  at_joined put l k j e =
      let z : some [] ≡ some k = sym (shortest_here b p put l j) ∙ e in
      let n : [] ≡ k = cc in
      subst (IsShortest b p put l) n (empty_is put l j)

  shortest_is : (put : List ℕ) (l k : List Move) → shortest b p put l ≡ some k → IsShortest b p put l k
  shortest_is put [] k e = go (joined b p (among put)) refl
    where
      go : (t : Bool) → joined b p (among put) ≡ t → IsShortest b p put [] k
      go true j = at_joined put [] k j e
      go false j = absurd (none≢some (sym (shortest_end put j) ∙ e))
  shortest_is put (m ∷ l) k e = go (joined b p (among put)) refl (λ i f. shortest_is (put ++ stone m.cell) l i f)
    where
      rest : joined b p (among put) ≡ false → (o : Option (List Move)) → shortest b p (put ++ stone m.cell) l ≡ o
          → ((i : List Move) → shortest b p (put ++ stone m.cell) l ≡ some i → IsShortest b p (put ++ stone m.cell) l i) → IsShortest b p put (m ∷ l) k
      rest j none f ih = absurd (none≢some (sym (shortest_on b p put m l j ∙ ap (map (λ z. m ∷ z)) f) ∙ e))
      rest j (some i) f ih =
          let z : some (m ∷ i) ≡ some k = sym (shortest_on b p put m l j ∙ ap (map (λ z. m ∷ z)) f) ∙ e in
          let n : (m ∷ i) ≡ k = cc in
          subst (IsShortest b p put (m ∷ l)) n (longer_is put m l i j (ih i f))

      go : (t : Bool) → joined b p (among put) ≡ t → ((i : List Move) → shortest b p (put ++ stone m.cell) l ≡ some i → IsShortest b p (put ++ stone m.cell) l i)
          → IsShortest b p put (m ∷ l) k
      go true j ih = at_joined put (m ∷ l) k j e
      go false j ih = rest j (shortest b p (put ++ stone m.cell) l) refl ih

  -- and the shortest one is computed
  is_shortest : (put : List ℕ) (l k : List Move) → IsShortest b p put l k → shortest b p put l ≡ some k
  is_shortest put l [] i = shortest_here b p put l (joins_alone put i.joins)
  is_shortest put [] (m ∷ k) i = absurd (let e : [] ≡ m ∷ (k ++ i.rest) = i.is_beginning in let z : ◌≡◌ {A = ℕ} 0 1 = cc in omega arith)
  is_shortest put (n ∷ l) (m ∷ k) i = go (joined b p (among put)) refl (is_shortest (put ++ stone n.cell) l k)
    where
      go : (t : Bool) → joined b p (among put) ≡ t → (IsShortest b p (put ++ stone n.cell) l k → shortest b p (put ++ stone n.cell) l ≡ some k)
          → shortest b p put (n ∷ l) ≡ some (m ∷ k)
      go true j ih = absurd (i.none_shorter [] (n ∷ l) refl (omega arith) (alone_joins put j))
      go false j ih =
          let e : (n ∷ l) ≡ m ∷ (k ++ i.rest) = i.is_beginning in
          let same : m ≡ n = cc in
          let later : l ≡ k ++ i.rest = cc in
          shortest_on b p put n l j
          ∙ ap (map (λ z. n ∷ z)) (ih (record {
            rest = i.rest;
            is_beginning = later;
            joins = after_first put n k (subst (λ (z : Move). Joins b p (among (put ++ stones_of (z ∷ k)))) same i.joins);
            none_shorter = λ h r q short g. i.none_shorter (n ∷ h) r (ap (λ z. n ∷ z) q) (omega arith) (with_first put n h g);
          }))
          ∙ ap (λ (z : Move). some (z ∷ k)) (sym same)

  pub shortest_is_shortest : (put : List ℕ) (l k : List Move) → (shortest b p put l ≡ some k) ↔ IsShortest b p put l k
  shortest_is_shortest put l k = (shortest_is put l k, is_shortest put l k)
