-- Numbers written into a room, as the code writes them.
use Rattle.std.specs.Int.{from_bool}
use mathlib.Core.Bool.{Bool, true, false}
use mathlib.Core.Path.{◌≡◌, refl}
use Prim.Native.Nat.{ℕ, ◌+◌, ◌/◌, ◌%◌, ◌^◌, ◌<◌, ◌≤◌}
use mathlib.Core.List.{[], ◌∷◌}
use native.Mathlib.Omega.{arith}
use lib.ListN.{length}
use Rattle.rules.specs.Words.{one_if}
use Rattle.rules.specs.Text.{Bytes}
use Rattle.rules.specs.Decimal.{decimal}
use Rattle.report.specs.Writing.{Wrote, WroteWithin}
use Rattle.rules.proofs.Decimal.{decimal_low, decimal_high, decimal_short}
use Rattle.report.proofs.Writing.{wrote_length, wrote_then}

-- a number below ten is its one digit
pub number_low : {n d : ℕ} {room : Bytes} {at : ℕ} {room' : Bytes} {end : ℕ}
    → n < 10 → d ≡ 48 + n → Wrote (d ∷ []) room at room' end → WroteWithin 10 (decimal n) room at room' end
number_low {n} h e w = record { wrote = rw (decimal_low n h, ← e) w; short = omega (arith, w.ends) }

-- the tenth part leaves room for the last digit
tenth_short : {n : ℕ} {room : Bytes} {at : ℕ} {room' : Bytes} {end : ℕ}
    → n < 2 ^ 32 → WroteWithin 10 (decimal (n / 10)) room at room' end → end < at + 10
tenth_short {n} h w = omega (arith, w.wrote.ends, decimal_short 8 (n / 10) (omega arith))

pub last_fits : {n : ℕ} {room : Bytes} {at : ℕ} {room' : Bytes} {end : ℕ}
    → n < 2 ^ 32 → at + 10 ≤ length room → WroteWithin 10 (decimal (n / 10)) room at room' end → end < length room'
last_fits h l w = omega (arith, tenth_short h w, wrote_length w.wrote)

-- from ten on, the last digit follows the tenth part
pub number_high : {n d : ℕ} {room : Bytes} {at : ℕ} {room₁ : Bytes} {e₁ : ℕ} {room₂ : Bytes} {e₂ : ℕ}
    → n < 2 ^ 32 → 10 ≤ n → d ≡ 48 + n % 10 → WroteWithin 10 (decimal (n / 10)) room at room₁ e₁ → Wrote (d ∷ []) room₁ e₁ room₂ e₂
    → WroteWithin 10 (decimal n) room at room₂ e₂
number_high {n} h l e v w =
    record { wrote = rw (decimal_high n l, ← e) (wrote_then v.wrote w); short = omega (arith, w.ends, tenth_short h v) }

-- a test's answer as a number is 1 where it holds, else 0
pub bool_one : (b : Bool) → from_bool b ≡ one_if b
unfolding one_if
bool_one true = refl
bool_one false = refl
