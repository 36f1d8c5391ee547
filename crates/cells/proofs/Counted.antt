-- Going through the numbers 1 to n and keeping those of a set: how many they are, and how the list of a set's cells grows.
use mathlib.Core.Path.{◌≡◌, refl, sym, ap, ◌∙◌, subst}
use mathlib.Core.Bool.{Bool, true, false}
use mathlib.Core.Logic.{inl, inr}
use mathlib.Core.List.{List, [], ◌∷◌, ◌++◌}
use Prim.Native.Nat.{ℕ, zero, suc, ◌+◌, ◌*◌, ◌<◌, ◌≤◌}
use native.Mathlib.Nat.{le_refl, le_trans}
use native.Mathlib.Numerals.{add-one}
use native.Mathlib.Decide.{dec_le}
use native.Mathlib.Omega.{arith}
use lib.Dec.{T, T_not}
use lib.ListN.{length, get_or, drop, set, length-append, length-set}
use lib.Seq.{set_at, drop-cons, append_snoc}
use Rattle.rules.specs.Words.{keep, up_to}
use Rattle.rules.specs.Board.{cells, listed}
use Rattle.rules.specs.declared.Board.{Board}
use Rattle.rules.proofs.Tests.{holds_of, decide}
use Rattle.cells.specs.Cells.{Listed}
use Rattle.cells.proofs.Smallest.{keep_one, keep_none}

pub kept_start : (p : ℕ → Bool) → keep p (up_to 0) ≡ []
unfolding keep up_to
kept_start p = refl

module _ (p : ℕ → Bool) (n : ℕ) where
  -- no more are kept of fewer numbers
  kept_le : length (keep p (up_to n)) ≤ length (keep p (up_to (suc n)))
  kept_le = elim (decide (p (suc n))) [
    | inl t ↦ omega (arith, ap length (keep_one p n t), length-append (keep p (up_to n)) (suc n ∷ []))
    | inr t ↦ omega (arith, ap length (keep_none p n (T_not (p (suc n)) t)))
  ]

pub kept_mono : (p : ℕ → Bool) (m n : ℕ) → m ≤ n → length (keep p (up_to m)) ≤ length (keep p (up_to n))
kept_mono p m zero h =
    let e : m ≡ 0 = omega arith in
    rw e (le_refl (length (keep p (up_to 0))))
kept_mono p m (suc n) h = go (dec_le m n) (λ k. kept_mono p m n k)
  where
    go : Dec (m ≤ n) → (m ≤ n → length (keep p (up_to m)) ≤ length (keep p (up_to n))) → length (keep p (up_to m)) ≤ length (keep p (up_to (suc n)))
    go (yes k) ih = le_trans (ih k) (kept_le p n)
    go (no k) ih =
        let e : m ≡ suc n = omega arith in
        rw e (le_refl (length (keep p (up_to (suc n)))))

-- the numbers up to i are gone through, and n of them are of the set
pub record Counting (p : ℕ → Bool) (i n : ℕ) : Type 0 where
  pub low : n ≤ i
  pub counted : n ≡ length (keep p (up_to i))

pub counting_start : (p : ℕ → Bool) → Counting p 0 0
counting_start p = record { low = omega arith; counted = ap length (sym (kept_start p)) }

-- the next number x, which the code looks at: it is counted, or passed
module _ {p : ℕ → Bool} {i n : ℕ} (c : Counting p i n) (x j : ℕ) (next : x ≡ suc i) (passed : j ≡ suc i) where
  kept : p x ≡ true → keep p (up_to (suc i)) ≡ keep p (up_to i) ++ suc i ∷ []
  kept e = keep_one p i (holds_of (rw next at e))

  same : p x ≡ false → keep p (up_to (suc i)) ≡ keep p (up_to i)
  same e = keep_none p i (λ t. subst T (rw next at e) t)

  one_more : p x ≡ true → n + 1 ≡ length (keep p (up_to (suc i)))
  one_more e = omega (arith, ap length (kept e), length-append (keep p (up_to i)) (suc i ∷ []), c.counted)

  pub counting_more : p x ≡ true → Counting p j (n + 1)
  counting_more e = rw passed record { low = omega (arith, c.low); counted = one_more e }

  pub counting_same : p x ≡ false → Counting p j n
  counting_same e = rw passed record { low = omega (arith, c.low); counted = c.counted ∙ ap length (sym (same e)) }

-- all are counted
pub counting_end : (b : Board) {p : ℕ → Bool} {i n : ℕ} → Counting p i n → i ≡ b.columns * b.rows → n ≡ length (listed b p)
unfolding listed cells
counting_end b {p} c e = c.counted ∙ ap (λ (m : ℕ). length (keep p (up_to m))) e

-- the n of them stand in the first places of the room
pub record Writing (p : ℕ → Bool) (i n : ℕ) (room room' : List ℕ) : Type 0 where
  pub counting : Counting p i n
  pub long : length room' ≡ length room
  pub written : room' ≡ keep p (up_to i) ++ drop n room

pub writing_start : (p : ℕ → Bool) (room : List ℕ) → Writing p 0 0 room room
writing_start p room = record { counting = counting_start p; long = refl; written = ap (λ (l : List ℕ). l ++ room) (sym (kept_start p)) }

-- the next number is written, where there is room for all, or passed
module _ (b : Board) {p : ℕ → Bool} {room room' : List ℕ} {i n : ℕ} (w : Writing p i n room room') (x j : ℕ) (next : x ≡ suc i) (passed : j ≡ suc i) where
  module _ (on : x ≤ b.columns * b.rows) (most : length (listed b p) ≤ length room) (e : p x ≡ true) where
    fits : n < length room
    unfolding listed cells
    fits = omega (arith, one_more w.counting x j next passed e, kept_mono p (suc i) (b.columns * b.rows) (omega (arith, on, next)), most)

    pub writing_room : n < length room'
    writing_room = omega (arith, w.long, fits)

    pub writing_more : Writing p j (n + 1) room (set room' n x)
    writing_more =
        record {
          counting = counting_more w.counting x j next passed e;
          long = length-set room' n x ∙ w.long;
          written =
              rw (passed, next)
              (ap (λ (l : List ℕ). set l n (suc i)) (w.written ∙ ap (λ (l : List ℕ). keep p (up_to i) ++ l) (drop-cons room n 0 fits))
              ∙ set_at (keep p (up_to i)) (get_or room n 0) (drop (suc n) room) (suc i) n (sym w.counting.counted)
              ∙ sym (rw (kept w.counting x j next passed e, add-one n) (append_snoc (keep p (up_to i)) (suc i) (drop (suc n) room))));
        }

  pub writing_same : p x ≡ false → Writing p j n room room'
  writing_same e =
      record {
        counting = counting_same w.counting x j next passed e;
        long = w.long;
        written = rw passed (w.written ∙ ap (λ (l : List ℕ). l ++ drop n room) (sym (same w.counting x j next passed e)));
      }

-- all are written
pub writing_end : (b : Board) {p : ℕ → Bool} {room room' : List ℕ} {i n : ℕ} → Writing p i n room room' → i ≡ b.columns * b.rows → Listed (listed b p) room room' n
unfolding listed cells
writing_end b {p} {room} {room'} {i} {n} w e =
    let q = counting_end b w.counting e in
    record {
      number = q;
      written = w.written ∙ ap (λ (m : ℕ). keep p (up_to m) ++ drop n room) e ∙ ap (λ (m : ℕ). keep p (up_to (b.columns * b.rows)) ++ drop m room) q;
    }
