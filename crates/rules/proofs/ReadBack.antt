-- A number's text and its reader: the reader reads the decimal of n as n, up to its end, and what it read as n is the decimal of n.
use mathlib.Core.Path.{◌≡◌, refl, sym, ap, subst, ◌∙◌}
use Prim.Native.Nat.{ℕ, zero, suc, ◌+◌, ◌*◌, ◌-◌, ◌/◌, ◌%◌, ◌<◌, ◌≤◌}
use mathlib.Core.Bool.{Bool, true, false, false≢true}
use mathlib.Core.List.{[], ◌∷◌, ◌++◌, append-nil, append_assoc}
use mathlib.Core.Option.{some}
use mathlib.Core.Logic.{⊎_elim}
use native.Mathlib.Nat.{eq-zero-or-pos}
use native.Mathlib.Omega.{arith}
use lib.Dec.{eqb, leb, leb→le}
use lib.ListN.{take}
use lib.Seq.{take-nil}
use borrow.Author.Tests.{le-leb, ne_eqb, eqb-false, not-true}
use Rattle.rules.specs.Text.{Bytes, is_digit, digits, after_digits, spelled, well_spelled, number}
use Rattle.rules.specs.Decimal.{decimal}
use Rattle.rules.proofs.Decimal.{decimal_low, decimal_high, by_tens, Every, every_none, every_more, every_tail, Digit, decimal_digits}
use Rattle.rules.proofs.Tests.{holds_of, fst, snd}
use Rattle.rules.proofs.Steps.{none≢some, some_inj}

-- digits are passed over whole, whatever text follows them
passed : (ds t : Bytes) → Every Digit ds → (digits (ds ++ t) ≡ ds ++ digits t) × (after_digits (ds ++ t) ≡ after_digits t)
unfolding digits after_digits is_digit
passed [] t p = (refl, refl)
passed (d ∷ ds) t p =
    let e = p.each 0 (omega arith) in
    let r = passed ds t (every_tail p) in
    rw (le-leb 48 d e.least, le-leb d 57 e.most) (ap (λ (l : Bytes). d ∷ l) r.0, r.1)

spelled_last : (m : ℕ) (ds : Bytes) (d : ℕ) → spelled m (ds ++ d ∷ []) ≡ spelled m ds * 10 + (d - 48)
unfolding spelled
spelled_last m [] d = refl
spelled_last m (e ∷ ds) d = spelled_last (m * 10 + (e - 48)) ds d

-- the digits spell the number
pub decimal_spells : (n : ℕ) → spelled 0 (decimal n) ≡ n
unfolding spelled
decimal_spells =
    by_tens (λ n. spelled 0 (decimal n) ≡ n)
    (λ n h. rw (decimal_low n h) (omega arith))
    (λ n h ih. rw (decimal_high n h, spelled_last 0 (decimal (n / 10)) (48 + n % 10), ih) (omega arith))

-- a number has one spelling
pub decimal_one : {m n : ℕ} → decimal m ≡ decimal n → m ≡ n
decimal_one {m} {n} e = sym (decimal_spells m) ∙ ap (spelled 0) e ∙ decimal_spells n

-- the beginning of a text spells no more than the whole
pub spelled_take : (m i : ℕ) (t : Bytes) → spelled m (take i t) ≤ spelled m t
unfolding spelled
spelled_take m i [] = rw take-nil (omega arith)
spelled_take m zero (d ∷ t) = omega (arith, spelled_take (m * 10 + (d - 48)) zero t)
spelled_take m (suc i) (d ∷ t) = spelled_take (m * 10 + (d - 48)) i t

-- a text that begins with another digit than 0
record Starts (t : Bytes) : Type 0 where
  head : ℕ
  tail : Bytes
  split : t ≡ head ∷ tail
  nonzero : eqb head 48 ≡ false

starts : (n : ℕ) → 0 < n → Starts (decimal n)
starts =
    by_tens (λ n. 0 < n → Starts (decimal n))
    (λ n h p. record { head = 48 + n; tail = []; split = decimal_low n h; nonzero = ne_eqb (48 + n) 48 (λ e. omega arith) })
    (λ n h ih p.
    let s = ih (omega arith) in
    record { head = s.head; tail = s.tail ++ (48 + n % 10) ∷ []; split = rw (decimal_high n h, s.split); nonzero = s.nonzero })

well_spelled_lem : (e : ℕ) (ds : Bytes) → eqb e 48 ≡ false → well_spelled (e ∷ ds) ≡ true
unfolding well_spelled
well_spelled_lem e [] h = refl
well_spelled_lem e (d ∷ ds) h = rw h

-- there is no 0 in front of another digit
pub decimal_well : (n : ℕ) → well_spelled (decimal n) ≡ true
unfolding well_spelled
decimal_well n =
    ⊎_elim
    (λ e. rw (decimal_low n (omega arith)))
    (λ h. let s = starts n (omega arith) in rw s.split (well_spelled_lem s.head s.tail s.nonzero))
    (eq-zero-or-pos (n / 10))

-- a text without digits in front is what follows them
no_digits : (t : Bytes) → digits t ≡ [] → after_digits t ≡ t
unfolding digits after_digits
no_digits [] e = refl
no_digits (b ∷ t) e = go (is_digit b) refl
  where
    go : (d : Bool) → is_digit b ≡ d → after_digits (b ∷ t) ≡ b ∷ t
    go true f = let g : b ∷ digits t ≡ [] = rw f at e in cc
    go false f = rw f

-- the number is read back, where no further digit follows it
pub read_back : (n : ℕ) (rest : Bytes) → digits rest ≡ [] → number (decimal n ++ rest) ≡ some (n, rest)
unfolding number
read_back n rest e =
    let p = passed (decimal n) rest (decimal_digits n) in
    rw (p.0, p.1, e, no_digits rest e, append-nil (decimal n), decimal_well n, decimal_spells n)

-- the other way: digits spell a number whose decimal they are
spells_on : (n : ℕ) (ds : Bytes) → 0 < n → Every Digit ds → decimal (spelled n ds) ≡ decimal n ++ ds
unfolding spelled
spells_on n [] h p = rw append-nil
spells_on n (d ∷ ds) h p =
    let e = p.each 0 (omega arith) in
    let m = n * 10 + (d - 48) in
    let q : m / 10 ≡ n = omega arith in
    let r : 48 + m % 10 ≡ d = omega arith in
    spells_on m ds (omega arith) (every_tail p) ∙ rw (decimal_high m (omega arith), q, r, append_assoc)

spells_decimal : (ds : Bytes) → Every Digit ds → well_spelled ds ≡ true → decimal (spelled 0 ds) ≡ ds
unfolding spelled well_spelled
spells_decimal [] p w = absurd (false≢true w)
spells_decimal (d ∷ []) p w =
    let e = p.each 0 (omega arith) in
    let n : 48 + (0 * 10 + (d - 48)) ≡ d = omega arith in
    decimal_low (0 * 10 + (d - 48)) (omega arith) ∙ ap (λ (b : ℕ). b ∷ []) n
spells_decimal (d ∷ f ∷ ds) p w =
    let e = p.each 0 (omega arith) in
    let n : 48 + (0 * 10 + (d - 48)) ≡ d = omega arith in
    spells_on (0 * 10 + (d - 48)) (f ∷ ds) (omega (arith, eqb-false d 48 (not-true (eqb d 48) w))) (every_tail p) ∙ rw (decimal_low (0 * 10 + (d - 48)) (omega arith), n)

is_digit_lem : (b : ℕ) → is_digit b ≡ true → Digit b
unfolding is_digit
is_digit_lem b e = record { least = leb→le 48 b (fst (leb 48 b) (leb b 57) (holds_of e)); most = leb→le b 57 (snd (leb 48 b) (leb b 57) (holds_of e)) }

-- a text is its digits and what follows them
split_digits : (t : Bytes) → Every Digit (digits t) × (t ≡ digits t ++ after_digits t)
unfolding digits after_digits
split_digits [] = (every_none, refl)
split_digits (b ∷ t) = go (is_digit b) refl (split_digits t)
  where
    go : (d : Bool) → is_digit b ≡ d → Every Digit (digits t) × (t ≡ digits t ++ after_digits t)
        → Every Digit (digits (b ∷ t)) × (b ∷ t ≡ digits (b ∷ t) ++ after_digits (b ∷ t))
    go true f r = rw f (every_more (is_digit_lem b f) r.0, ap (λ (l : Bytes). b ∷ l) r.1)
    go false f r = rw f (every_none, refl)

-- what was read is the number's decimal, before what is left
pub number_is : (t : Bytes) (y : ℕ × Bytes) → number t ≡ some y → t ≡ decimal y.0 ++ y.1
unfolding number
number_is t y e = go (well_spelled (digits t)) refl
  where
    go : (w : Bool) → well_spelled (digits t) ≡ w → t ≡ decimal y.0 ++ y.1
    go true f =
        let d = split_digits t in
        subst (λ (z : ℕ × Bytes). t ≡ decimal z.0 ++ z.1) (some_inj (rw f at e)) (rw (spells_decimal (digits t) d.0 f) d.1)
    go false f = absurd (none≢some (rw f at e))
