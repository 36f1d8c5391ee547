-- The bits of a number under `|`, `&`, `!`, the shifts by one and a remainder, as far as the library does not have them so.
use mathlib.Core.Path.{◌≡◌, ap, ◌∙◌}
use mathlib.Core.Logic.{◌≢◌, ◌⊎◌, inl, inr}
use Prim.Native.Nat.{ℕ, suc, ◌+◌, ◌-◌, ◌*◌, ◌/◌, ◌%◌, ◌^◌, ◌<◌, ◌≤◌}
use native.Mathlib.Decide.{ℕ_discrete, dec_lt}
use native.Mathlib.Omega.{arith}
use lib.Bits.{bit_and, bit_or}
use lib.Pow.{field, mod-mod-pow}
use Rattle.std.specs.Int.{w32}
use Rattle.std.specs.Int.{bit_at, bit_not}
use Rattle.std.proofs.lemmas.Nat.Bits.{bit_at_or, bit_at_and, bit_at_not, bit_at-suc, bit_at-zero, bit_at_mask_inside, bit_at_mask_below, bit_at_mask_above}

-- 0 has no bit
pub no_bit : (k : ℕ) → bit_at 0 k ≡ 1 → ⊥
no_bit k e = omega (arith, bit_at-zero k)

-- ---- the operations, bit by bit

module _ (a b k : ℕ) where
  pub or_l : bit_at a k ≡ 1 → bit_at (bit_or a b) k ≡ 1
  or_l h = omega (arith, bit_at_or a b k)

  pub or_r : bit_at b k ≡ 1 → bit_at (bit_or a b) k ≡ 1
  or_r h = omega (arith, bit_at_or a b k)

  pub or_one : bit_at (bit_or a b) k ≡ 1 → (bit_at a k ≡ 1) ⊎ (bit_at b k ≡ 1)
  or_one h = go (ℕ_discrete (bit_at a k) 1)
    where
      go : Dec (bit_at a k ≡ 1) → (bit_at a k ≡ 1) ⊎ (bit_at b k ≡ 1)
      go (yes e) = inl e
      go (no n) = inr (omega (arith, bit_at_or a b k))

  pub and_both : bit_at a k ≡ 1 → bit_at b k ≡ 1 → bit_at (bit_and a b) k ≡ 1
  and_both h g = omega (arith, bit_at_and a b k)

  pub and_l : bit_at (bit_and a b) k ≡ 1 → bit_at a k ≡ 1
  and_l h = omega (arith, bit_at_and a b k)

  pub and_r : bit_at (bit_and a b) k ≡ 1 → bit_at b k ≡ 1
  and_r h = omega (arith, bit_at_and a b k)

-- what one word has and another has not
module _ (a b k : ℕ) (word : b < 2 ^ 32) (low : k < 32) where
  pub without_in : bit_at a k ≡ 1 → bit_at b k ≢ 1 → bit_at (bit_and a (bit_not w32 b)) k ≡ 1
  without_in h g = omega (arith, bit_at_and a (bit_not w32 b) k, bit_at_not w32 b k word low)

  pub without_out : bit_at (bit_and a (bit_not w32 b)) k ≡ 1 → bit_at b k ≢ 1
  without_out h g = omega (arith, bit_at_and a (bit_not w32 b) k, bit_at_not w32 b k word low)

-- ---- the shift up by one, and a remainder by a power of two

pub bit_double : (a k : ℕ) → bit_at (a * 2) (suc k) ≡ bit_at a k
bit_double a k = bit_at-suc (a * 2) k ∙ ap (λ (x : ℕ). bit_at x k) half
  where
    half : a * 2 / 2 ≡ a
    half = omega arith

pub bit_double_zero : (a : ℕ) → bit_at (a * 2) 0 ≡ 0
bit_double_zero a = omega arith

pub bit_mod : (w n k : ℕ) → k < w → bit_at (n % 2 ^ w) k ≡ bit_at n k
bit_mod w n k h =
    let j : ℕ = w - suc k in
    let e : w ≡ j + 1 + k = omega arith in
    ap (λ (m : ℕ). n % 2 ^ m / 2 ^ k % 2) e ∙ ap (λ (x : ℕ). x % 2) (field n (j + 1) k) ∙ mod-mod-pow (n / 2 ^ k) j 1

-- ---- a mask of columns

module _ (left right c : ℕ) where
  pub mask_in : left ≤ c → c ≤ right → bit_at (2 ^ (right + 1) - 2 ^ left) c ≡ 1
  mask_in l m = bit_at_mask_inside left (right + 1) c l (omega arith)

  pub mask_out : bit_at (2 ^ (right + 1) - 2 ^ left) c ≡ 1 → (left ≤ c) × (c ≤ right)
  mask_out e = go (dec_lt c left) (dec_lt right c)
    where
      go : Dec (c < left) → Dec (right < c) → (left ≤ c) × (c ≤ right)
      go (yes l) m = absurd (omega (arith, bit_at_mask_below left (right + 1) c l))
      go (no l) (yes m) = absurd (omega (arith, bit_at_mask_above left (right + 1) c (omega arith)))
      go (no l) (no m) = (omega arith, omega arith)
