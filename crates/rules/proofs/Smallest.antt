-- The smallest cell of a set, and the first faulty node of a list: the computed ones are those that the plain statements name.
use Rattle.std.specs.Prelude.{if◌then◌else◌}
use mathlib.Core.Path.{◌≡◌, refl, sym, ap, subst, subst⁻¹, ◌∙◌}
use mathlib.Core.Logic.{inl, inr}
use Prim.Native.Nat.{ℕ, zero, suc, ◌≤◌}
use native.Mathlib.Nat.{le_antisymm}
use mathlib.Core.Bool.{Bool, true, false}
use mathlib.Core.List.{List, [], ◌∷◌, ◌++◌}
use mathlib.Core.Option.{Option, none, some}
use lib.Dec.{T, eqb, eqb_refl, eqb→eq, leb, leb→le}
use native.Mathlib.Omega.{arith}
use Rattle.rules.specs.Words.{◌∈◌, among, keep, up_to, first_or_none}
use Rattle.rules.specs.Board.{cells, is_cell, listed, smallest}
use Rattle.rules.specs.Fair.{Fault, fault_at, first_fault}
use Rattle.rules.specs.Plain.{IsFirst}
use Rattle.rules.specs.declared.Board.{Board}
use Rattle.rules.proofs.Tests.{fst, left, cases}
use Rattle.rules.proofs.Lists.{in_append, keep_append, keep_in, up_to_in}
use Rattle.rules.proofs.Joining.{listed_in, in_listed}
use Rattle.rules.proofs.Steps.{none≢some, some_inj}
use Rattle.rules.proofs.First.{none_each, each_none, first_of, of_first}

-- the first of a list that gets a number more at its end, which is above all before
first_snoc : (xs : List ℕ) (n : ℕ) → ((y : ℕ) → T (among xs y) → (first_or_none xs ≤ y) × (y ≤ n))
    → (p : ℕ → Bool) (y : ℕ) → T (among (xs ++ keep p (suc n ∷ [])) y) → first_or_none (xs ++ keep p (suc n ∷ [])) ≤ y
unfolding first_or_none among keep
first_snoc [] n h p y m = go (p (suc n)) m
  where
    go : (t : Bool) → T (among (if t then suc n ∷ [] else []) y) → first_or_none (if t then suc n ∷ [] else []) ≤ y
    go true k = elim (cases (eqb y (suc n)) false k) [ inl e ↦ omega (arith, eqb→eq y (suc n) e) | inr e ↦ absurd e ]
    go false k = absurd k
first_snoc (x ∷ xs) n h p y m =
    elim (in_append y (x ∷ xs) (keep p (suc n ∷ [])) m) [
      | inl k ↦ (h y k).0
      | inr k ↦
          let a = h x (left (eqb x x) (among xs x) (eqb_refl x)) in
          let b = (up_one (keep_in p y (suc n ∷ []) k).0) in
          omega (arith, a.1, b)
    ]
  where
    up_one : T (among (suc n ∷ []) y) → y ≡ suc n
    up_one k = elim (cases (eqb y (suc n)) false k) [ inl e ↦ eqb→eq y (suc n) e | inr e ↦ absurd e ]

first_least : (set : ℕ → Bool) (n y : ℕ) → T (among (keep set (up_to n)) y) → first_or_none (keep set (up_to n)) ≤ y
unfolding up_to keep among
first_least set zero y m = absurd m
first_least set (suc n) y m =
    let e = keep_append set (up_to n) (suc n ∷ []) in
    subst⁻¹ (λ (l : List ℕ). first_or_none l ≤ y) e
    (first_snoc (keep set (up_to n)) n
    (λ z k. (first_least set n z k, (up_to_in n z (keep_in set z (up_to n) k).0).1))
    set y (subst (λ (l : List ℕ). T (among l y)) e m))

first_in : (xs : List ℕ) (x : ℕ) → first_or_none xs ≡ suc x → T (among xs (suc x))
unfolding first_or_none among
first_in [] x e = absurd (omega arith)
first_in (y ∷ ys) x e = left (eqb (suc x) y) (among ys (suc x)) (subst (λ z. T (eqb (suc x) z)) (sym e) (eqb_refl (suc x)))

-- what the smallest cell of a set is
pub record IsSmallest (b : Board) (set : ℕ → Bool) (c : ℕ) : Type 0 where
  pub is_cell_lem : T (is_cell b c)
  pub in_set : T (set c)
  pub least : (x : ℕ) → T (is_cell b x) → T (set x) → c ≤ x

pub smallest_some : (b : Board) (set : ℕ → Bool) (c : ℕ) → smallest b set ≡ suc c → IsSmallest b set (suc c)
unfolding smallest listed
smallest_some b set c e =
    let l = listed_in b set (suc c) (first_in (listed b set) c e) in
    record {
      is_cell_lem = l.0;
      in_set = l.1;
      least = λ x i h. subst (λ (k : ℕ). k ≤ x) e (first_least set (cells b) x (in_listed b set x i h));
    }

cell_pos : (b : Board) (x : ℕ) → T (is_cell b x) → 1 ≤ x
unfolding is_cell
cell_pos b x h = leb→le 1 x (fst (leb 1 x) (leb x (cells b)) h)

pub smallest_none : (b : Board) (set : ℕ → Bool) → smallest b set ≡ 0 → (x : ℕ) → T (is_cell b x) → T (set x) → ⊥
unfolding smallest listed
smallest_none b set e x i h = none (listed b set) e (λ y m. cell_pos b y (listed_in b set y m).0) (in_listed b set x i h)
  where
    none : (xs : List ℕ) → first_or_none xs ≡ 0 → ((y : ℕ) → T (among xs y) → 1 ≤ y) → T (among xs x) → ⊥
    none [] e p m = unfold among in m
    none (y ∷ ys) e p m = unfold first_or_none in omega (arith, e, p y (unfold among in left (eqb y y) (among ys y) (eqb_refl y)))

-- a set's smallest cell is the only one so
pub smallest_is : (b : Board) (set : ℕ → Bool) (c : ℕ) → IsSmallest b set c → smallest b set ≡ c
smallest_is b set c s = go (smallest b set) refl
  where
    go : (k : ℕ) → smallest b set ≡ k → smallest b set ≡ c
    go zero e = absurd (smallest_none b set e c s.is_cell_lem s.in_set)
    go (suc k) e =
        let t = smallest_some b set k e in
        e ∙ le_antisymm (t.least c s.is_cell_lem s.in_set) (s.least (suc k) t.is_cell_lem t.in_set)

pub smallest_zero : (b : Board) (set : ℕ → Bool) → ((x : ℕ) → T (is_cell b x) → T (set x) → ⊥) → smallest b set ≡ 0
smallest_zero b set h = go (smallest b set) refl
  where
    go : (k : ℕ) → smallest b set ≡ k → smallest b set ≡ 0
    go zero e = e
    go (suc k) e = let t = smallest_some b set k e in absurd (h (suc k) t.is_cell_lem t.in_set)

-- the first faulty node of a list
module _ {N : Type 0} (b : Board) (line : N → ℕ) (faulty : N → ℕ → Bool) where
  -- a node without a faulty cell
  abbrev pub Clean : N → Type 0
  Clean n = (x : ℕ) → T (is_cell b x) → T (faulty n x) → ⊥

  -- the fault of a node: none, or its smallest faulty cell
  abbrev at_node : N → Option Fault
  at_node n = fault_at (line n) (smallest b (faulty n))

  none_at : (n : N) → at_node n ≡ none → Clean n
  none_at n e = go (smallest b (faulty n)) refl e
    where
      go : (c : ℕ) → smallest b (faulty n) ≡ c → fault_at (line n) c ≡ none → Clean n
      go zero q k = smallest_none b (faulty n) q
      go (suc c) q k = unfold fault_at in absurd (none≢some (sym k))

  clean_at : (n : N) → Clean n → at_node n ≡ none
  unfolding fault_at
  clean_at n h = rw (smallest_zero b (faulty n) h)

  some_at : (n : N) (f : Fault) → at_node n ≡ some f → (f.line ≡ line n) × IsSmallest b (faulty n) f.cell
  some_at n f e = go (smallest b (faulty n)) refl e
    where
      go : (c : ℕ) → smallest b (faulty n) ≡ c → fault_at (line n) c ≡ some f → (f.line ≡ line n) × IsSmallest b (faulty n) f.cell
      go zero q k = unfold fault_at in absurd (none≢some k)
      go (suc c) q k =
          unfold fault_at in
          subst (λ (g : Fault). (g.line ≡ line n) × IsSmallest b (faulty n) g.cell) (some_inj k) (refl, smallest_some b (faulty n) c q)

  at_some : (n : N) (f : Fault) → f.line ≡ line n → IsSmallest b (faulty n) f.cell → at_node n ≡ some f
  at_some n f l s = ap (fault_at (line n)) (smallest_is b (faulty n) f.cell s) ∙ go f.cell refl
    where
      go : (c : ℕ) → f.cell ≡ c → fault_at (line n) f.cell ≡ some f
      go zero e = absurd (omega (arith, e, cell_pos b f.cell s.is_cell_lem))
      go (suc c) e = unfold fault_at in rw e (ap some cc)

  -- over the list
  pub none_clean : (ns : List N) → first_fault b line faulty ns ≡ none → (n : N) → n ∈ ns → Clean n
  unfolding first_fault
  none_clean ns e n i = none_at n (none_each at_node ns e n i)

  pub clean_none : (ns : List N) → ((n : N) → n ∈ ns → Clean n) → first_fault b line faulty ns ≡ none
  unfolding first_fault
  clean_none ns h = each_none at_node ns (λ n i. clean_at n (h n i))

  -- the computed fault is the one that the plain statement names
  pub first_is : (ns : List N) (f : Fault) → first_fault b line faulty ns ≡ some f → IsFirst b line faulty ns f
  unfolding first_fault
  first_is ns f e =
      let r = first_of at_node ns f e in
      let k = some_at r.its f r.gives in
      record {
        before = r.before;
        node = r.its;
        after = r.after;
        stands = r.stands;
        its_line = k.0;
        its_cell = (k.1.is_cell_lem, k.1.in_set);
        smallest_cell = k.1.least;
        none_before = λ n i. none_at n (r.none_before n i);
      }

  pub is_first : (ns : List N) (f : Fault) → IsFirst b line faulty ns f → first_fault b line faulty ns ≡ some f
  unfolding first_fault
  is_first ns f r =
      of_first at_node ns f
      (record {
        before = r.before;
        its = r.node;
        after = r.after;
        stands = r.stands;
        gives = at_some r.node f r.its_line (record { is_cell_lem = r.its_cell.0; in_set = r.its_cell.1; least = r.smallest_cell });
        none_before = λ n i. clean_at n (r.none_before n i);
      })
