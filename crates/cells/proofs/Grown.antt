-- What a row takes in: a cell of s exactly where a neighbour of it is there. A set whose rows take nothing in has all that it is linked to.
use mathlib.Core.Path.{◌≡◌, sym, ◌∙◌, subst}
use mathlib.Core.Logic.{◌⊎◌, inl, inr, ⊎_elim}
use mathlib.Core.List.{List}
use Prim.Native.Nat.{ℕ, zero, suc, ◌*◌, ◌/◌, ◌%◌, ◌^◌, ◌<◌, ◌≤◌}
use native.Mathlib.Nat.{not-suc-le-zero, le_refl}
use native.Mathlib.Decide.{dec_lt}
use native.Mathlib.Omega.{arith}
use lib.Bits.{bit_and, bit_or, or_add_and, and_le_l, and_le_r}
use lib.Count.{count_trailing_zeros}
use lib.ListN.{get_or}
use Rattle.std.specs.Int.{bit_at}
use Rattle.cells.specs.Rows.{In}
use Rattle.cells.specs.Growing.{around, grown_row, Near, to_left, to_right, to_up, to_down, to_up_right, to_down_left, Linked, own, next, Framed}
use Rattle.cells.proofs.Smallest.{lowest_bit}
use Rattle.cells.proofs.Bits.{or_l, or_r, or_one, and_both, and_l, and_r, bit_double, bit_double_zero, bit_mod}
use Rattle.std.proofs.lemmas.Nat.Bits.{bit_at-suc}

-- which places of a row touch
data Touch (u h d : ℕ) : ℕ → Type 0 where
  from_left : {c : ℕ} → bit_at h c ≡ 1 → Touch u h d (suc c)
  from_right : {c : ℕ} → bit_at h (suc c) ≡ 1 → Touch u h d c
  from_up : {c : ℕ} → bit_at u c ≡ 1 → Touch u h d c
  from_up_right : {c : ℕ} → bit_at u (suc c) ≡ 1 → Touch u h d c
  from_down : {c : ℕ} → bit_at d c ≡ 1 → Touch u h d c
  from_down_left : {c : ℕ} → bit_at d c ≡ 1 → Touch u h d (suc c)

-- a bit of a word shifted up by one place
up_in : (a k : ℕ) → suc k < 32 → bit_at a k ≡ 1 → bit_at (a * 2 % 2 ^ 32) (suc k) ≡ 1
up_in a k l e = bit_mod 32 (a * 2) (suc k) l ∙ bit_double a k ∙ e

up_out : (a c : ℕ) (P : ℕ → Type 0) → ((k : ℕ) → bit_at a k ≡ 1 → P (suc k)) → c < 32 → bit_at (a * 2 % 2 ^ 32) c ≡ 1 → P c
up_out a zero P f l e =
    let z : ◌≡◌ {A = ℕ} 0 1 = sym (bit_double_zero a) ∙ sym (bit_mod 32 (a * 2) 0 l) ∙ e in
    absurd (omega arith)
up_out a (suc k) P f l e = f k (sym (bit_double a k) ∙ sym (bit_mod 32 (a * 2) (suc k) l) ∙ e)

abbrev sides : ℕ → ℕ
sides h = bit_or (h * 2 % 2 ^ 32) (h / 2)

abbrev above : ℕ → ℕ
above u = bit_or u (u / 2)

abbrev below : ℕ → ℕ
below d = bit_or d (d * 2 % 2 ^ 32)

module _ (u h d c : ℕ) where
  by_sides : bit_at (sides h) c ≡ 1 → bit_at (around u h d) c ≡ 1
  unfolding around
  by_sides e = or_l (sides h) (bit_or (above u) (below d)) c e

  by_above : bit_at (above u) c ≡ 1 → bit_at (around u h d) c ≡ 1
  unfolding around
  by_above e = or_r (sides h) (bit_or (above u) (below d)) c (or_l (above u) (below d) c e)

  by_below : bit_at (below d) c ≡ 1 → bit_at (around u h d) c ≡ 1
  unfolding around
  by_below e = or_r (sides h) (bit_or (above u) (below d)) c (or_r (above u) (below d) c e)

touch_in : (u h d c : ℕ) → c < 32 → Touch u h d c → bit_at (around u h d) c ≡ 1
touch_in u h d (suc c) l (from_left e) = by_sides u h d (suc c) (or_l (h * 2 % 2 ^ 32) (h / 2) (suc c) (up_in h c l e))
touch_in u h d c l (from_right e) = by_sides u h d c (or_r (h * 2 % 2 ^ 32) (h / 2) c (sym (bit_at-suc h c) ∙ e))
touch_in u h d c l (from_up e) = by_above u h d c (or_l u (u / 2) c e)
touch_in u h d c l (from_up_right e) = by_above u h d c (or_r u (u / 2) c (sym (bit_at-suc u c) ∙ e))
touch_in u h d c l (from_down e) = by_below u h d c (or_l d (d * 2 % 2 ^ 32) c e)
touch_in u h d (suc c) l (from_down_left e) = by_below u h d (suc c) (or_r d (d * 2 % 2 ^ 32) (suc c) (up_in d c l e))

touch_out : (u h d c : ℕ) → c < 32 → bit_at (around u h d) c ≡ 1 → Touch u h d c
unfolding around
touch_out u h d c l e =
    ⊎_elim
    (λ p. ⊎_elim (up_out h c (Touch u h d) (λ k q. from_left q) l) (λ q. from_right (bit_at-suc h c ∙ q)) (or_one _ _ c p))
    (λ p.
    ⊎_elim
    (λ q. ⊎_elim (λ r. from_up r) (λ r. from_up_right (bit_at-suc u c ∙ r)) (or_one _ _ c q))
    (λ q. ⊎_elim (λ r. from_down r) (up_out d c (Touch u h d) (λ k r. from_down_left r) l) (or_one _ _ c q))
    (or_one _ _ c p))
    (or_one _ _ c e)

row_keeps : (s u h d c : ℕ) → bit_at h c ≡ 1 → bit_at (grown_row s u h d) c ≡ 1
unfolding grown_row
row_keeps s u h d c e = or_l h (bit_and s (around u h d)) c e

row_le : (s u h d : ℕ) → h ≤ grown_row s u h d
unfolding grown_row
row_le s u h d =
    let t : ℕ = bit_and s (around u h d) in
    omega (arith, or_add_and h t, and_le_r h t)

row_takes : (s u h d c : ℕ) → c < 32 → bit_at s c ≡ 1 → Touch u h d c → bit_at (grown_row s u h d) c ≡ 1
unfolding grown_row
row_takes s u h d c l e t = or_r h (bit_and s (around u h d)) c (and_both s (around u h d) c e (touch_in u h d c l t))

row_out : (s u h d c : ℕ) → bit_at (grown_row s u h d) c ≡ 1 → (bit_at h c ≡ 1) ⊎ ((bit_at s c ≡ 1) × (bit_at (around u h d) c ≡ 1))
unfolding grown_row
row_out s u h d c e = ⊎_elim (λ p. inl p) (λ p. inr (and_l s (around u h d) c p, and_r s (around u h d) c p)) (or_one h (bit_and s (around u h d)) c e)

-- ---- a set of rows a: the row k + 1 of it, with those of the cells s that touch it

abbrev pub grown_at : (s a : List ℕ) → ℕ → ℕ
grown_at s a k = grown_row (get_or s (suc k) 0) (get_or a k 0) (get_or a (suc k) 0) (get_or a (suc (suc k)) 0)

module _ (s a : List ℕ) (k : ℕ) where
  pub at_le : get_or a (suc k) 0 ≤ grown_at s a k
  at_le = row_le (get_or s (suc k) 0) (get_or a k 0) (get_or a (suc k) 0) (get_or a (suc (suc k)) 0)

  pub at_keeps : (c : ℕ) → In a c (suc k) → bit_at (grown_at s a k) c ≡ 1
  at_keeps c e = row_keeps (get_or s (suc k) 0) (get_or a k 0) (get_or a (suc k) 0) (get_or a (suc (suc k)) 0) c e

  -- the places that touch the row are those beside a place that is there
  abbrev TouchAt : ℕ → Type 0
  TouchAt c = Touch (get_or a k 0) (get_or a (suc k) 0) (get_or a (suc (suc k)) 0) c

  near_touch : {c r c' : ℕ} → In a c r → Near c r c' (suc k) → TouchAt c'
  near_touch e to_left = from_right e
  near_touch e to_right = from_left e
  near_touch e to_up = from_down e
  near_touch e to_down = from_up e
  near_touch e to_up_right = from_down_left e
  near_touch e to_down_left = from_up_right e

  touch_linked : (c : ℕ) → In s c (suc k) → TouchAt c → Linked s a c (suc k)
  touch_linked (suc c) i (from_left e) = next (own e) to_right i
  touch_linked c i (from_right e) = next (own e) to_left i
  touch_linked c i (from_up e) = next (own e) to_down i
  touch_linked c i (from_up_right e) = next (own e) to_down_left i
  touch_linked c i (from_down e) = next (own e) to_up i
  touch_linked (suc c) i (from_down_left e) = next (own e) to_up_right i

  module _ (rows : ℕ) (fr : Framed rows s) (c : ℕ) where
    -- what the row then holds is linked to what was there
    pub at_linked : bit_at (grown_at s a k) c ≡ 1 → Linked s a c (suc k)
    at_linked e =
        ⊎_elim (λ p. own p)
        (λ p. touch_linked c p.0 (touch_out (get_or a k 0) (get_or a (suc k) 0) (get_or a (suc (suc k)) 0) c (fr.inside c (suc k) p.0).2 p.1))
        (row_out (get_or s (suc k) 0) (get_or a k 0) (get_or a (suc k) 0) (get_or a (suc (suc k)) 0) c e)

    -- a cell of s beside one that is there is taken in
    pub at_takes : (d r : ℕ) → In a d r → Near d r c (suc k) → In s c (suc k) → bit_at (grown_at s a k) c ≡ 1
    at_takes d r e n i =
        row_takes (get_or s (suc k) 0) (get_or a k 0) (get_or a (suc k) 0) (get_or a (suc (suc k)) 0) c (fr.inside c (suc k) i).2 i (near_touch e n)

-- row k + 1 takes nothing in: every cell of s in it that is beside a place that is there is there
abbrev pub TakesNone : (s a : List ℕ) → ℕ → Type 0
TakesNone s a k = (c d r : ℕ) → In a d r → Near d r c (suc k) → In s c (suc k) → In a c (suc k)

-- so it is where the row grows to itself
pub takes_none : (rows : ℕ) (s a : List ℕ) (k : ℕ) → Framed rows s → grown_at s a k ≡ get_or a (suc k) 0 → TakesNone s a k
takes_none rows s a k fr e c d r i n j = subst (λ (x : ℕ). bit_at x c ≡ 1) e (at_takes s a k rows fr c d r i n j)

-- and still where another row stands below it, from which it takes nothing in
pub takes_none_on : (s a b : List ℕ) (k : ℕ) → TakesNone s a k → ((r : ℕ) → r ≤ suc k → get_or b r 0 ≡ get_or a r 0)
    → ((c : ℕ) → In b c (suc (suc k)) → In s c (suc k) → In a c (suc k)) → ((c : ℕ) → In b c (suc (suc k)) → In s (suc c) (suc k) → In a (suc c) (suc k))
    → TakesNone s b k
takes_none_on s a b k none same up up_right c d r i n j = rw (same (suc k) (le_refl (suc k))) (go n i j)
  where
    go : {c d r : ℕ} → Near d r c (suc k) → In b d r → In s c (suc k) → In a c (suc k)
    go {c} {d} to_left i j = none c d (suc k) (rw (same (suc k) (le_refl (suc k))) at i) to_left j
    go {c} {d} to_right i j = none c d (suc k) (rw (same (suc k) (le_refl (suc k))) at i) to_right j
    go {c} {d} to_up i j = up d i j
    go {c} {d} to_down i j = none c d k (rw (same k (omega arith)) at i) to_down j
    go {c} {d} to_up_right i j = up_right d i j
    go {c} {d} to_down_left i j = none c d k (rw (same k (omega arith)) at i) to_down_left j

-- as where it grows to itself from that row
module _ (rows : ℕ) (s : List ℕ) (fr : Framed rows s) (k h d : ℕ) (e : grown_row (get_or s (suc k) 0) 0 h d ≡ h) (c : ℕ) where
  pub none_up : bit_at d c ≡ 1 → In s c (suc k) → bit_at h c ≡ 1
  none_up i j = subst (λ (x : ℕ). bit_at x c ≡ 1) e (row_takes (get_or s (suc k) 0) 0 h d c (fr.inside c (suc k) j).2 j (from_down i))

  pub none_up_right : bit_at d c ≡ 1 → In s (suc c) (suc k) → bit_at h (suc c) ≡ 1
  none_up_right i j =
      subst (λ (x : ℕ). bit_at x (suc c) ≡ 1) e (row_takes (get_or s (suc k) 0) 0 h d (suc c) (fr.inside (suc c) (suc k) j).2 j (from_down_left i))

-- a set none of whose rows takes anything in has all that its start is linked to
pub closed : (rows : ℕ) (s a r : List ℕ) → Framed rows s → ((k : ℕ) → k < rows → TakesNone s r k) → ((c k : ℕ) → In a c k → In r c k)
    → (c k : ℕ) → Linked s a c k → In r c k
closed rows s a r fr e h c k (own i) = h c k i
closed rows s a r fr e h c zero (next l n i) = absurd (not-suc-le-zero (fr.inside c 0 i).0)
closed rows s a r fr e h c (suc k) (next {c = c₀} {r = k₀} l n i) =
    e k (fr.inside c (suc k) i).1 c c₀ k₀ (closed rows s a r fr e h c₀ k₀ l) n i

-- row 0, where s has no cell, grows to itself
pub top_keeps : (rows : ℕ) (s : List ℕ) (h d : ℕ) → Framed rows s → grown_row (get_or s 0 0) 0 h d < 2 ^ 32 → grown_row (get_or s 0 0) 0 h d ≡ h
unfolding grown_row
top_keeps rows s h d fr w =
    let t : ℕ = bit_and (get_or s 0 0) (around 0 h d) in
    let small : t < 2 ^ 32 = omega (arith, w, or_add_and h t, and_le_l h t) in
    let nothing : 0 < t → ⊥ =
    λ p. not-suc-le-zero (fr.inside (count_trailing_zeros 32 t) 0 (and_l (get_or s 0 0) (around 0 h d) (count_trailing_zeros 32 t) (lowest_bit t p small))).0 in
    go (dec_lt 0 t) nothing
  where
    go : Dec (0 < bit_and (get_or s 0 0) (around 0 h d)) → (0 < bit_and (get_or s 0 0) (around 0 h d) → ⊥) → bit_or h (bit_and (get_or s 0 0) (around 0 h d)) ≡ h
    go (yes p) n = absurd (n p)
    go (no p) n = omega (arith, or_add_and h (bit_and (get_or s 0 0) (around 0 h d)), and_le_r h (bit_and (get_or s 0 0) (around 0 h d)))

-- what is linked to places that are linked to a start is linked to the start
pub linked_through : {s a b : List ℕ} {c k : ℕ} → ((d m : ℕ) → In b d m → Linked s a d m) → Linked s b c k → Linked s a c k
linked_through {c = c} {k = k} f (own i) = f c k i
linked_through f (next l n i) = next (linked_through f l) n i
