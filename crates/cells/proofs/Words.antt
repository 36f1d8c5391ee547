-- Bits of row words: of sets made row by row, of the empty set.
use mathlib.Core.Path.{◌≡◌, refl, sym, ◌∙◌, subst}
use mathlib.Core.Logic.{◌⊎◌, ⊎_elim}
use mathlib.Core.List.{List}
use Prim.Native.Nat.{ℕ, zero, suc, ◌+◌, ◌<◌, ◌≤◌}
use native.Mathlib.Decide.{dec_lt, ℕ_discrete}
use denote.Param.Members.{Mut}
use Rattle.std.specs.Fn.{Called}
use Rattle.std.specs.Array.{IsFromFnResultFrom}
use native.Mathlib.Omega.{arith}
use lib.Bits.{bit_and, bit_or}
use lib.ListN.{length, get_or, replicate, get_or-eq_default}
use Rattle.cells.specs.Rows.{In, RowByRow}
use Rattle.cells.proofs.Bits.{no_bit, or_l, or_r, or_one, and_both, and_l, and_r}

-- a set that is made at each of its 21 rows is made row by row, since no set has more
pub made_by_row : (f : ℕ → ℕ → ℕ) (s t u : List ℕ) → f 0 0 ≡ 0 → length s ≡ 21 → length t ≡ 21 → length u ≡ 21
    → ((r : ℕ) → r < 21 → get_or u r 0 ≡ f (get_or s r 0) (get_or t r 0)) → RowByRow f s t u
made_by_row f s t u z long-s long-t long-u h = record { row = λ r. go r (dec_lt r 21) }
  where
    go : (r : ℕ) → Dec (r < 21) → get_or u r 0 ≡ f (get_or s r 0) (get_or t r 0)
    go r (yes l) = h r l
    go r (no l) =
        rw (get_or-eq_default u 0 {n = r} (omega arith), get_or-eq_default s 0 {n = r} (omega arith), get_or-eq_default t 0 {n = r} (omega arith)) (sym z)

-- what `from_fn` makes by a closure that keeps its captures and gives h i at i
pub from_fn_made : {F : Type 0} (g : Mut F (ℕ × Unit {0}) ℕ) (h : ℕ → ℕ) {f : F} → ((i y : ℕ) (q : F) → Called g f (i, tt) y q → (q ≡ f) × (y ≡ h i))
    → (ys : List ℕ) (i n : ℕ) → IsFromFnResultFrom g f ys i n → (k : ℕ) → i ≤ k → k < i + n → get_or ys k 0 ≡ h k
from_fn_made g h is ys i zero m k a b = absurd (omega arith)
from_fn_made {F} g h {f} is ys i (suc n) (q, y, at, called, rest) k a b =
    let gives : (q ≡ f) × (y ≡ h i) = is i y q called in
    let others = from_fn_made g h is ys (i + 1) n (subst (λ (p : F). IsFromFnResultFrom g p ys (i + 1) n) gives.0 rest) k in
    go (ℕ_discrete k i) (at.1 0 ∙ gives.1) (λ n. others (omega arith) (omega arith))
  where
    go : Dec (k ≡ i) → get_or ys i 0 ≡ h i → ((k ≡ i → ⊥) → get_or ys k 0 ≡ h k) → get_or ys k 0 ≡ h k
    go (yes e) here there = rw e here
    go (no n) here there = there n

pub zeros : (n r : ℕ) → ◌≡◌ {A = ℕ} (get_or (replicate n 0) r 0) 0
zeros zero zero = refl
zeros zero (suc r) = refl
zeros (suc n) zero = refl
zeros (suc n) (suc r) = zeros n r

pub in_empty : (c r : ℕ) → In (replicate 21 0) c r → ⊥
in_empty c r e = no_bit c (rw (zeros 21 r) at e)

module _ {s t u : List ℕ} (c r : ℕ) where
  pub either_in : RowByRow bit_or s t u → In s c r ⊎ In t c r → In u c r
  either_in m h = rw (m.row r) (⊎_elim (or_l (get_or s r 0) (get_or t r 0) c) (or_r (get_or s r 0) (get_or t r 0) c) h)

  pub either_out : RowByRow bit_or s t u → In u c r → In s c r ⊎ In t c r
  either_out m e = or_one (get_or s r 0) (get_or t r 0) c (rw (m.row r) at e)

  pub both_in : RowByRow bit_and s t u → In s c r → In t c r → In u c r
  both_in m e g = rw (m.row r) (and_both (get_or s r 0) (get_or t r 0) c e g)

  pub both_out : RowByRow bit_and s t u → In u c r → In s c r × In t c r
  both_out m e =
      let d = rw (m.row r) at e in
      (and_l (get_or s r 0) (get_or t r 0) c d, and_r (get_or s r 0) (get_or t r 0) c d)
