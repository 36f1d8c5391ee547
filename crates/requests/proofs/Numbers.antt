-- How the code reads one number, digit by digit, and why what it refuses is no number.
use Rattle.std.specs.Prelude.{None}
use mathlib.Core.Path.{◌≡◌, refl, sym, ap, ◌∙◌}
use Prim.Native.Nat.{ℕ, ◌+◌, ◌*◌, ◌-◌, ◌/◌, ◌%◌, ◌<◌, ◌≤◌}
use mathlib.Core.Bool.{true}
use mathlib.Core.List.{[], ◌∷◌, ◌++◌}
use mathlib.Core.Logic.{⊎_elim}
use native.Mathlib.Numerals.{add-one}
use native.Mathlib.Nat.{eq-zero-or-pos}
use native.Mathlib.Omega.{arith}
use lib.ListN.{length, get_or, take}
use lib.Seq.{take-suc, take_all}
use borrow.Author.Tests.{not-true, eqb-false}
use Rattle.rules.specs.Text.{Bytes, well_spelled}
use Rattle.rules.specs.Decimal.{decimal}
use Rattle.rules.proofs.Decimal.{decimal_low, decimal_high, Digit, decimal_digits}
use Rattle.rules.proofs.ReadBack.{decimal_spells, decimal_well, spelled_take}
use Rattle.requests.specs.Request.{most32, Plain, NumberReply}

-- the first i digits of a number's field spell the value
pub record Scanned (field : Bytes) (value i : ℕ) : Type 0 where
  pub plain : Plain field
  pub on : i ≤ length field
  pub none : i ≡ 0 → value ≡ 0
  pub spells : 0 < i → take i field ≡ decimal value
  pub high : 0 < i → 1 < length field → 0 < value

-- no digit yet
pub scanned_none : {field : Bytes} → Plain field → Scanned field 0 0
scanned_none p =
    record { plain = p; on = omega arith; none = λ _. refl; spells = λ h. absurd (omega arith); high = λ h. absurd (omega arith) }

-- a digit more
pub scanned_more : {field : Bytes} {value i more : ℕ} → Scanned field value i → i < length field
    → (48 ≤ get_or field i 0) × (get_or field i 0 ≤ 57) → more ≡ value * 10 + (get_or field i 0 - 48) → Scanned field more (i + 1)
scanned_more {field} {value} {i} {more} s h digit is =
    record {
      plain = s.plain;
      on = omega arith;
      none = λ e. absurd (omega arith);
      spells = λ _. rw (add-one, take-suc field i 0 h) (⊎_elim first later (eq-zero-or-pos i));
      high = λ _ k. ⊎_elim (λ e. lead e k) (λ p. omega (arith, s.high p k)) (eq-zero-or-pos i);
    }
  where
    first : i ≡ 0 → take i field ++ get_or field i 0 ∷ [] ≡ decimal more
    first e =
        let z : value ≡ 0 = s.none e in
        let d : more < 10 = omega (arith, digit) in
        let n : 48 + more ≡ get_or field i 0 = omega (arith, digit) in
        rw (decimal_low _ d, n, e)

    later : 0 < i → take i field ++ get_or field i 0 ∷ [] ≡ decimal more
    later p =
        let v : 0 < value = s.high p (omega arith) in
        let d : more / 10 ≡ value = omega (arith, digit) in
        let n : 48 + more % 10 ≡ get_or field i 0 = omega (arith, digit) in
        rw (decimal_high more (omega arith), d, n, s.spells p)

    lead : i ≡ 0 → 1 < length field → 0 < more
    lead e k =
        ⊎_elim
        (λ z. absurd (s.plain.lead k (ap (λ (j : ℕ). get_or field j 0) (sym e) ∙ omega (arith, digit))))
        (λ p. omega arith)
        (eq-zero-or-pos (get_or field i 0 - 48))

-- the whole field is the number
pub scanned_all : {field : Bytes} {value i : ℕ} → Scanned field value i → length field ≤ i → field ≡ decimal value
scanned_all {field} {value} {i} s h =
    sym (take_all i field h) ∙ s.spells (omega (arith, s.plain.some))

-- a well spelled text is plain
well_plain : (t : Bytes) → well_spelled t ≡ true → Plain t
unfolding well_spelled
well_plain [] e = absurd (let z : ◌≡◌ {A = ℕ} 0 1 = cc in omega arith)
well_plain (d ∷ []) e = record { some = omega arith; lead = λ h. absurd (omega arith) }
well_plain (d ∷ b ∷ t) e = record { some = omega arith; lead = λ _. eqb-false d 48 (not-true _ e) }

-- a field that is not plain is no number's
pub refused_spelling : {field : Bytes} → ¬ Plain field → NumberReply field None
refused_spelling h n l e = h (rw e (well_plain (decimal n) (decimal_well n)))

-- a field with a byte that is no digit is no number's
pub refused_byte : {field : Bytes} (i : ℕ) → i < length field → ¬ Digit (get_or field i 0) → NumberReply field None
refused_byte i h d n l e = d (rw e ((decimal_digits n).each i (rw (← e) h)))

-- a field that begins with the digits of a number that is too large is no number's
pub refused_size : {field : Bytes} {value i : ℕ} → Scanned field value i → i < length field → (48 ≤ get_or field i 0) × (get_or field i 0 ≤ 57)
    → most32 < value * 10 + (get_or field i 0 - 48) → NumberReply field None
refused_size {field} {value} {i} s h digit large n l e =
    let more = value * 10 + (get_or field i 0 - 48) in
    let t : take (i + 1) (decimal n) ≡ decimal more = ap (take (i + 1)) (sym e) ∙ (scanned_more s h digit refl).spells (omega arith) in
    omega (arith, decimal_spells n, decimal_spells more, rw t at (spelled_take 0 (i + 1) (decimal n)))
