-- Laws of counts that are kept at the limit: of a sum and of a product it does not matter where the limit is applied.
use mathlib.Core.Path.{◌≡◌, sym, ap, ◌∙◌}
use mathlib.Core.Logic.{⊎_elim}
use Prim.Native.Nat.{ℕ, zero, suc, ◌*◌, ◌-◌, ◌^◌, ◌<◌, ◌≤◌}
use native.Mathlib.Nat.{mul-le-mul, min-eq_left, mul-zero, mul-one, one-mul, mul_assoc, mul_comm, eq-zero-or-pos, le-mul_of_pos_right}
use native.Mathlib.Omega.{arith}
use Rattle.nodes.specs.Nodes.{Kind, a_wait, a_move, counted, nothing_counted, limited}

pub product_fits : (a b : ℕ) → a ≤ 65537 → b ≤ 65537 → a * b < 2 ^ 64
product_fits a b p q = omega (arith, mul-le-mul p q)

-- one factor at the limit: the other is 0, or the product is at the limit too
big : (a b : ℕ) → 65537 ≤ a → limited (limited a * limited b) ≡ limited (a * b)
big a zero p = ap (λ (x : ℕ). limited x) (mul-zero (limited a) ∙ sym (mul-zero a))
big a (suc b) p =
    let q : 0 < limited (suc b) = omega arith in
    let r : 0 < suc b = omega arith in
    omega (arith, le-mul_of_pos_right (limited a) q, le-mul_of_pos_right a r)

limited_mul : (a b : ℕ) → limited (limited a * limited b) ≡ limited (a * b)
limited_mul a b =
    ⊎_elim
    (λ p. ⊎_elim (λ q. small (omega arith) (omega arith)) (λ q. swapped (omega arith)) (eq-zero-or-pos (b - 65537)))
    (λ p. big a b (omega arith))
    (eq-zero-or-pos (a - 65537))
  where
    small : a ≤ 65537 → b ≤ 65537 → limited (limited a * limited b) ≡ limited (a * b)
    small p q = rw (min-eq_left p, min-eq_left q)

    swapped : 65537 ≤ b → limited (limited a * limited b) ≡ limited (a * b)
    swapped q =
        ap (λ (x : ℕ). limited x) (mul_comm (limited a) (limited b))
        ∙ big b a q
        ∙ ap (λ (x : ℕ). limited x) (mul_comm b a)

-- the limit on either side of a sum or a product does not matter
pub limited_left : (k : Kind) (x y : ℕ) → limited (counted k (limited x) y) ≡ limited (counted k x y)
limited_left a_move x y = omega arith
limited_left a_wait x y =
    let e : limited (limited x) ≡ limited x = omega arith in
    sym (limited_mul (limited x) y) ∙ ap (λ (z : ℕ). limited (z * limited y)) e ∙ limited_mul x y

pub limited_right : (k : Kind) (x y : ℕ) → limited (counted k x (limited y)) ≡ limited (counted k x y)
limited_right a_move x y = omega arith
limited_right a_wait x y =
    let e : limited (limited y) ≡ limited y = omega arith in
    sym (limited_mul x (limited y)) ∙ ap (λ (z : ℕ). limited (limited x * z)) e ∙ limited_mul x y

pub counted_assoc : (k : Kind) (x y z : ℕ) → counted k (counted k x y) z ≡ counted k x (counted k y z)
counted_assoc a_move x y z = omega arith
counted_assoc a_wait x y z = mul_assoc x y z

pub counted_nothing : (k : Kind) (x : ℕ) → counted k (nothing_counted k) x ≡ x
counted_nothing a_move x = omega arith
counted_nothing a_wait x = one-mul x

pub counted_last : (k : Kind) (x : ℕ) → counted k x (nothing_counted k) ≡ x
counted_last a_move x = omega arith
counted_last a_wait x = mul-one x
