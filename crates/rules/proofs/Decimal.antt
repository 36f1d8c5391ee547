-- Laws of a number's decimal digits.
use mathlib.Core.Path.{◌≡◌, refl, ap}
use Prim.Native.Nat.{ℕ, zero, suc, ◌+◌, ◌/◌, ◌%◌, ◌^◌, ◌<◌, ◌≤◌}
use mathlib.Core.List.{[], ◌∷◌, ◌++◌}
use mathlib.Core.Logic.{⊎_elim}
use native.Mathlib.Nat.{eq-zero-or-pos, pow-suc}
use native.Mathlib.Omega.{arith}
use lib.ListN.{length, get_or, length-append}
use Rattle.rules.specs.Text.{Bytes}
use Rattle.rules.specs.Decimal.{leading, decimal}

-- room for more digits than there are changes nothing
leading_same : (a b n : ℕ) → n ≤ a → n ≤ b → leading a n ≡ leading b n
unfolding leading
leading_same zero zero n h k = refl
leading_same zero (suc b) zero h k = refl
leading_same zero (suc b) (suc n) h k = absurd (omega arith)
leading_same (suc a) zero zero h k = refl
leading_same (suc a) zero (suc n) h k = absurd (omega arith)
leading_same (suc a) (suc b) zero h k = refl
leading_same (suc a) (suc b) (suc n) h k =
    ap (λ (t : Bytes). t ++ (48 + suc n % 10) ∷ []) (leading_same a b (suc n / 10) (omega arith) (omega arith))

-- a number below ten is one digit
pub decimal_low : (n : ℕ) → n < 10 → decimal n ≡ (48 + n) ∷ []
unfolding decimal leading
decimal_low n h =
    let q : n / 10 ≡ 0 = omega arith in
    let r : n % 10 ≡ n = omega arith in
    rw (q, r, leading_same n 0 0 (omega arith) (omega arith))

-- from ten on, the last digit follows those of the tenth part
pub decimal_high : (n : ℕ) → 10 ≤ n → decimal n ≡ decimal (n / 10) ++ (48 + n % 10) ∷ []
unfolding decimal leading
decimal_high n h = ap (λ (t : Bytes). t ++ (48 + n % 10) ∷ []) (go n (n / 10) (omega arith) (omega arith))
  where
    go : (m k : ℕ) → 0 < k → k ≤ m → leading m k ≡ leading k (k / 10) ++ (48 + k % 10) ∷ []
    go zero k h l = absurd (omega arith)
    go (suc m) zero h l = absurd (omega arith)
    go (suc m) (suc k) h l = ap (λ (t : Bytes). t ++ (48 + suc k % 10) ∷ []) (leading_same m (suc k) (suc k / 10) (omega arith) (omega arith))

-- what holds below ten, and of a number where it holds of its tenth part, holds of all
pub by_tens : (P : ℕ → Type 0) → ((n : ℕ) → n < 10 → P n) → ((n : ℕ) → 10 ≤ n → P (n / 10) → P n) → (n : ℕ) → P n
by_tens P low high n = below (suc n) n (omega arith)
  where
    below : (most m : ℕ) → m < most → P m
    below zero m h = absurd (omega arith)
    below (suc most) m h =
        ⊎_elim (λ e. low m (omega arith)) (λ l. high m (omega arith) (below most (m / 10) (omega arith))) (eq-zero-or-pos (m / 10))

-- a number below 10 ^ k has at most k digits
pub decimal_short : (k n : ℕ) → n < 10 ^ suc k → length (decimal n) ≤ suc k
decimal_short zero n h = rw (decimal_low n (omega (arith, pow-suc 10 0))) (omega arith)
decimal_short (suc k) n h =
    ⊎_elim
    (λ e. rw (decimal_low n (omega arith)) (omega arith))
    (λ l. rw (decimal_high n (omega arith)) (omega (
      arith,
      length-append (decimal (n / 10)) ((48 + n % 10) ∷ []),
      decimal_short k (n / 10) (omega (arith, pow-suc 10 (suc k))),
    )))
    (eq-zero-or-pos (n / 10))

-- every byte of a text, or number of a list, has the property
pub record Every (P : ℕ → Type 0) (t : Bytes) : Type 0 where
  pub each : (j : ℕ) → j < length t → P (get_or t j 0)

module _ {P : ℕ → Type 0} where
  -- no byte
  pub every_none : Every P []
  every_none = record { each = λ j h. absurd (omega arith) }

  -- a byte more in front
  pub every_more : {b : ℕ} {t : Bytes} → P b → Every P t → Every P (b ∷ t)
  every_more {b} {t} p q = record { each = go }
    where
      go : (j : ℕ) → j < length (b ∷ t) → P (get_or (b ∷ t) j 0)
      go zero h = p
      go (suc j) h = q.each j (omega arith)

  -- a byte less in front
  pub every_tail : {b : ℕ} {t : Bytes} → Every P (b ∷ t) → Every P t
  every_tail p = record { each = λ j h. p.each (suc j) (omega arith) }

  -- two such texts, one after the other
  pub every_append : (a b : Bytes) → Every P a → Every P b → Every P (a ++ b)
  every_append [] b p q = q
  every_append (x ∷ a) b p q = every_more (p.each 0 (omega arith)) (every_append a b (every_tail p) q)

-- a property that follows from the other
pub every_so : {P Q : ℕ → Type 0} {t : Bytes} → ((b : ℕ) → P b → Q b) → Every P t → Every Q t
every_so {t = t} f p = record { each = λ j h. f (get_or t j 0) (p.each j h) }

-- a byte that is a digit
pub record Digit (b : ℕ) : Type 0 where
  pub least : 48 ≤ b
  pub most : b ≤ 57

-- every byte of a number in decimal is a digit
pub decimal_digits : (n : ℕ) → Every Digit (decimal n)
decimal_digits =
    by_tens (λ n. Every Digit (decimal n))
    (λ n h. rw (decimal_low n h) (one n h))
    (λ n h ih. rw (decimal_high n h) (every_append (decimal (n / 10)) ((48 + n % 10) ∷ []) ih (one (n % 10) (omega arith))))
  where
    one : (d : ℕ) → d < 10 → Every Digit ((48 + d) ∷ [])
    one d h = every_more (record { least = omega arith; most = omega arith }) every_none
