-- The cells that stand in rows: the loop over the rows.
use mathlib.Core.Path.{◌≡◌, sym, ap, subst, subst⁻¹, ◌∙◌}
use mathlib.Core.Logic.{⊎_elim}
use mathlib.Core.Bool.{Bool, false, ◌||◌}
use mathlib.Core.List.{List}
use Prim.Native.Nat.{ℕ, ◌+◌, ◌*◌, ◌≤◌}
use native.Mathlib.Decide.{ℕ_discrete}
use native.Mathlib.Omega.{arith}
use lib.Dec.{T, eqb, eqb→eq}
use lib.ListN.{get_or}
use borrow.Author.Tests.{eq-eqb, ne_eqb}
use Rattle.rules.specs.declared.Board.{Board}
use Rattle.rules.proofs.Tests.{holds_of, left, right, cases}
use Rattle.cells.specs.Cells.{held, StandsIn, HeldInRows}

-- the rows from i up to j are in the set
pub record Filled (b : Board) (t : List ℕ) (i j : ℕ) (rows : List ℕ) : Type 0 where
  pub on : i ≤ j
  pub those : HeldInRows b t i j rows

pub filled_none : (b : Board) (t rows : List ℕ) (i : ℕ) → ((x : ℕ) → held b rows x ≡ false) → Filled b t i i rows
filled_none b t rows i z =
    record {
      on = omega arith;
      those = record { stands = λ x p h. absurd (subst T (z x) h); is_held = λ x p h. absurd (omega (arith, h.from, h.to)) };
    }

-- with the cell of row j, where it is one
module _ {b : Board} {t : List ℕ} {i j : ℕ} {rows : List ℕ} (f : Filled b t i j rows) where
  pub filled_more : (c : ℕ) (rows' : List ℕ) → c ≡ get_or t (4 * j) 0 → ((x : ℕ) → 1 ≤ x → held b rows' x ≡ (eqb x c || held b rows x)) → Filled b t i (j + 1) rows'
  filled_more c rows' e h =
      record {
        on = omega (arith, f.on);
        those =
            record {
              stands = λ x p k.
                  ⊎_elim
                  (λ y. record { at = j; from = f.on; to = omega arith; is = sym e ∙ sym (eqb→eq x c y) })
                  (λ y. let s = f.those.stands x p y in record { at = s.at; from = s.from; to = omega (arith, s.to); is = s.is })
                  (cases (eqb x c) (held b rows x) (subst T (h x p) k));
              is_held = λ x p k. subst⁻¹ T (h x p) (last x p k (ℕ_discrete k.at j));
            };
      }
    where
      last : (x : ℕ) → 1 ≤ x → (k : StandsIn t i (j + 1) x) → Dec (k.at ≡ j) → T (eqb x c || held b rows x)
      last x p k (yes y) = left (eqb x c) (held b rows x) (holds_of (eq-eqb x c (sym (e ∙ subst (λ (m : ℕ). get_or t (4 * m) 0 ≡ x) y k.is))))
      last x p k (no y) = right (eqb x c) (held b rows x) (f.those.is_held x p (record { at = k.at; from = k.from; to = omega (arith, k.to); is = k.is }))

  -- where it is 0, there is none
  pub filled_past : (c : ℕ) → c ≡ get_or t (4 * j) 0 → c ≡ 0 → Filled b t i (j + 1) rows
  filled_past c e z = filled_more c rows e (λ x p. sym (ap (λ (y : Bool). y || held b rows x) (ne_eqb x c (λ q. omega arith))))
