-- The run of digits at the front of a text.
use mathlib.Core.Path.{◌≡◌, refl, sym, ap, ◌∙◌}
use Prim.Native.Nat.{ℕ, ◌+◌, ◌*◌, ◌-◌, ◌≤◌, ◌<◌, min}
use mathlib.Core.Bool.{Bool, true, false, not, ◌&&◌, ◌||◌}
use mathlib.Core.List.{[], ◌∷◌}
use lib.ListN.{length, get_or, drop, drop_of_length-le}
use lib.Seq.{drop-cons}
use native.Mathlib.Numerals.{add-one}
use native.Mathlib.Omega.{arith}
use lib.Dec.{eqb, ltb}
use borrow.Author.Tests.{lt-ltb, ne_eqb}
use Rattle.rules.specs.Text.{Bytes, is_digit, digits, after_digits, spelled, well_spelled}
use Rattle.lines.specs.Run.{ceiling, run_of}

-- what is spelled before the last digits counts only up to the ceiling
cut : (n d : ℕ) → min ceiling (min ceiling n * 10 + d) ≡ min ceiling (n * 10 + d)
cut n d = omega arith

spelled_cut : (n : ℕ) (ds : Bytes) → min ceiling (spelled (min ceiling n) ds) ≡ min ceiling (spelled n ds)
unfolding spelled
spelled_cut n [] = omega arith
spelled_cut n (d ∷ ds) =
    sym (spelled_cut (min ceiling n * 10 + (d - 48)) ds)
    ∙ ap (λ (m : ℕ). min ceiling (spelled m ds)) (cut n (d - 48))
    ∙ spelled_cut (n * 10 + (d - 48)) ds

-- the digits that were read spell value, and with those from there on the run of the whole text
pub record Counted (s : Bytes) (value long : ℕ) : Type 0 where
  pub least : value ≤ ceiling
  pub spells : min ceiling (spelled value (digits (drop long s))) ≡ min ceiling (spelled 0 (digits s))
  pub many : long + length (digits (drop long s)) ≡ length (digits s)

module _ {s : Bytes} {value long : ℕ} (counted : Counted s value long) where
  -- a run ends where no digits are left
  ended : digits (drop long s) ≡ [] → record { value = value; long = long } ≡ run_of s
  unfolding run_of spelled
  ended e =
      let at_value : value ≡ min ceiling (spelled 0 (digits s)) = (let h = rw e at counted.spells in omega (arith, counted.least)) in
      let at_long : long ≡ length (digits s) = (let h = rw e at counted.many in omega arith) in
      cc

  pub run_whole : length s ≡ long → record { value = value; long = length s } ≡ run_of s
  unfolding digits
  run_whole h = let past : length s ≤ long = omega arith in rw h (ended (rw (drop_of_length-le s past)))

  module _ (h : long < length s) where
    -- or at a byte that is no digit
    pub run_stops : is_digit (get_or s long 0) ≡ false → record { value = value; long = long } ≡ run_of s
    unfolding digits
    run_stops e = ended (rw (drop-cons s long 0 h, e))

    -- and goes on with a digit
    pub run_more : is_digit (get_or s long 0) ≡ true → Counted s (min ceiling (value * 10 + (get_or s long 0 - 48))) (long + 1)
    unfolding digits spelled
    run_more e =
        let d = get_or s long 0 in
        let later = digits (drop (long + 1) s) in
        let one : digits (drop long s) ≡ d ∷ later = rw (drop-cons s long 0 h, e, add-one long) in
        let spells = rw one at counted.spells in
        let many = rw one at counted.many in
        record {
          least = omega arith;
          spells = spelled_cut (value * 10 + (d - 48)) later ∙ spells;
          many = omega arith;
        }

-- the digits of a text are a beginning of it
record Lead (t : Bytes) : Type 0 where
  pub after : after_digits t ≡ drop (length (digits t)) t
  pub fit : length (digits t) ≤ length t
  pub first : 0 < length (digits t) → get_or (digits t) 0 0 ≡ get_or t 0 0

lead : (t : Bytes) → Lead t
unfolding digits after_digits
lead [] = record { after = refl; fit = omega arith; first = λ h. refl }
lead (b ∷ t) = go (is_digit b) refl (lead t)
  where
    go : (d : Bool) → is_digit b ≡ d → Lead t → Lead (b ∷ t)
    go true e ih = record { after = rw e ih.after; fit = rw e (omega (arith, ih.fit)); first = rw e (λ h. refl) }
    go false e ih = record { after = rw e; fit = rw e (omega arith); first = rw e (λ h. absurd (omega arith)) }

pub after_digits_is : (t : Bytes) → after_digits t ≡ drop (length (digits t)) t
after_digits_is t = (lead t).after

pub digits_fit : (t : Bytes) → length (digits t) ≤ length t
digits_fit t = (lead t).fit

pub digits_first : (t : Bytes) → 0 < length (digits t) → get_or (digits t) 0 0 ≡ get_or t 0 0
digits_first t = (lead t).first

-- which digits are well spelled, by how many there are
pub well_spelled_is : (ds : Bytes) → well_spelled ds ≡ (ltb 0 (length ds) && (eqb (length ds) 1 || not (eqb (get_or ds 0 0) 48)))
unfolding well_spelled
well_spelled_is [] = refl
well_spelled_is (d ∷ []) = refl
well_spelled_is (d ∷ e ∷ ds) = rw (lt-ltb 0 (length (d ∷ e ∷ ds)) (omega arith), ne_eqb (length (d ∷ e ∷ ds)) 1 (λ h. omega arith))
