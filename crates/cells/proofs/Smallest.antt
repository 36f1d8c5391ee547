-- The smallest cell of a set: the laws of `smallest`, and how the words give it.
use Rattle.std.specs.Prelude.{if◌then◌else◌}
use mathlib.Core.Path.{◌≡◌, refl, sym, ap, ◌∙◌, subst}
use mathlib.Core.Bool.{Bool}
use mathlib.Core.List.{List, [], ◌∷◌, ◌++◌, append-nil}
use Prim.Native.Nat.{ℕ, zero, suc, ◌+◌, ◌-◌, ◌*◌, ◌^◌, ◌<◌, ◌≤◌}
use native.Mathlib.Nat.{pos_of_ne-zero, mul-le-mul_right, suc-mul}
use native.Mathlib.Decide.{ℕ_discrete, dec_lt, dec_le}
use native.Mathlib.Omega.{arith}
use lib.Count.{count_trailing_zeros}
use lib.Dec.{T}
use lib.ListN.{get_or}
use Rattle.std.specs.Int.{bit_at}
use Rattle.rules.specs.Words.{keep, up_to, first_or_none}
use Rattle.rules.specs.Board.{On, is_cell, cells, cell_at, column_of, row_of, listed, smallest}
use Rattle.rules.specs.declared.Board.{Board}
use Rattle.rules.proofs.Tests.{true_of, false_of}
use Rattle.rules.proofs.Lists.{keep_append}
use Rattle.rules.proofs.Smallest.{smallest_some, smallest_zero, smallest_is}
use Rattle.rules.proofs.Places.{range_cell, cell_place, at_place, column_at, row_at, cell_at_lem}
use Rattle.cells.specs.Cells.{held, Fits}
use Rattle.cells.specs.Rows.{In, Clipped}
use Rattle.cells.proofs.Bits.{no_bit}
use Rattle.std.proofs.lemmas.Nat.Bits.{bit_at-trailing_zeros}
use Rattle.std.specs.Int.{w32}
use Rattle.cells.proofs.Held.{held_cell, held_in, in_held}

-- ---- the first of what is kept

-- one number more: it is kept, or not
pub keep_one : (p : ℕ → Bool) (n : ℕ) → T (p (suc n)) → keep p (up_to (suc n)) ≡ keep p (up_to n) ++ suc n ∷ []
unfolding keep up_to
keep_one p n h = keep_append p (up_to n) (suc n ∷ []) ∙ ap (λ (t : Bool). keep p (up_to n) ++ (if t then suc n ∷ [] else [])) (true_of (p (suc n)) h)

pub keep_none : (p : ℕ → Bool) (n : ℕ) → (T (p (suc n)) → ⊥) → keep p (up_to (suc n)) ≡ keep p (up_to n)
unfolding keep up_to
keep_none p n h =
    keep_append p (up_to n) (suc n ∷ []) ∙ ap (λ (t : Bool). keep p (up_to n) ++ (if t then suc n ∷ [] else [])) (false_of (p (suc n)) h)
    ∙ append-nil (keep p (up_to n))

-- ---- the smallest cell of a set

kept_alike : (p q : ℕ → Bool) (n : ℕ) → ((y : ℕ) → 1 ≤ y → y ≤ n → p y ≡ q y) → keep p (up_to n) ≡ keep q (up_to n)
unfolding keep up_to
kept_alike p q zero f = refl
kept_alike p q (suc n) f =
    keep_append p (up_to n) (suc n ∷ [])
    ∙ ap (λ (l : List ℕ). l ++ keep p (suc n ∷ [])) (kept_alike p q n (λ y l m. f y l (omega arith)))
    ∙ ap (λ (t : Bool). keep q (up_to n) ++ (if t then suc n ∷ [] else [])) (f (suc n) (omega arith) (omega arith))
    ∙ sym (keep_append q (up_to n) (suc n ∷ []))

-- two sets with the same cells of the board have the same list, and the same smallest cell
module _ (b : Board) (s t : ℕ → Bool) (f : (y : ℕ) → T (is_cell b y) → s y ≡ t y) where
  pub listed_same : listed b s ≡ listed b t
  unfolding listed cells
  listed_same = kept_alike s t (b.columns * b.rows) (λ y l m. f y (range_cell b y l m))

  pub smallest_same : smallest b s ≡ smallest b t
  unfolding smallest
  smallest_same = ap first_or_none listed_same

-- a smallest cell that is not 0 is one of the set
pub smallest_held : (b : Board) (set : ℕ → Bool) → (smallest b set ≡ 0 → ⊥) → T (is_cell b (smallest b set)) × T (set (smallest b set))
smallest_held b set h = go (smallest b set) refl
  where
    go : (k : ℕ) → smallest b set ≡ k → T (is_cell b (smallest b set)) × T (set (smallest b set))
    go zero e = absurd (h e)
    go (suc k) e =
        let t = smallest_some b set k e in
        (subst (λ (x : ℕ). T (is_cell b x)) (sym e) t.is_cell_lem, subst (λ (x : ℕ). T (set x)) (sym e) t.in_set)

-- ---- the lowest bit of a word

module _ (n : ℕ) (some : 0 < n) (word : n < 2 ^ 32) where
  pub lowest_bit : bit_at n (count_trailing_zeros 32 n) ≡ 1
  lowest_bit = (bit_at-trailing_zeros w32 n some word).1

  lowest_le : (j : ℕ) → bit_at n j ≡ 1 → count_trailing_zeros 32 n ≤ j
  lowest_le j e = go (dec_le (count_trailing_zeros 32 n) j)
    where
      go : Dec (count_trailing_zeros 32 n ≤ j) → count_trailing_zeros 32 n ≤ j
      go (yes l) = l
      go (no l) = absurd (omega (arith, (bit_at-trailing_zeros w32 n some word).2 j (omega arith)))

-- ---- the first row that is not empty

module _ (b : Board) (s t : List ℕ) (fits : Fits b) (cl : Clipped b s t) where
  -- every held cell has its bit in the clipped words
  clipped_in : (y : ℕ) → T (held b s y) → In t (column_of b y) (row_of b y)
  clipped_in y h = cl.inside (column_of b y) (row_of b y) (held_in b s y h) (cell_place b y fits.some_column (held_cell b s y h))

  -- no row has a cell
  pub rows_empty : ((k : ℕ) → 1 ≤ k → k ≤ b.rows → get_or t k 0 ≡ 0) → smallest b (held b s) ≡ 0
  rows_empty z =
      smallest_zero b (held b s)
      (λ y i h.
      let o = cell_place b y fits.some_column i in
      no_bit (column_of b y) (rw (z (row_of b y) o.top o.bottom) at (clipped_in y h)))

  module _ (i : ℕ) (z : (k : ℕ) → 1 ≤ k → k < i → get_or t k 0 ≡ 0) (small : get_or t i 0 < 2 ^ 32) (some : get_or t i 0 ≡ 0 → ⊥) where
    abbrev low : ℕ
    low = count_trailing_zeros 32 (get_or t i 0)

    low_on : On b low i
    low_on = (cl.only low i (lowest_bit (get_or t i 0) (pos_of_ne-zero some) small)).1

    low_held : T (held b s (cell_at b low i))
    low_held =
        let o = low_on in
        in_held b s (cell_at b low i) (cell_at_lem b low i o)
        (rw (column_at b low i o, row_at b low i o) (cl.only low i (lowest_bit (get_or t i 0) (pos_of_ne-zero some) small)).0)

    -- a held cell stands no lower
    none_lower : (y : ℕ) → y < cell_at b low i → T (held b s y) → ⊥
    unfolding cell_at
    none_lower y l h = go (dec_lt (row_of b y) i) (ℕ_discrete (row_of b y) i)
      where
        o : On b (column_of b y) (row_of b y)
        o = cell_place b y fits.some_column (held_cell b s y h)

        here : In t (column_of b y) (row_of b y)
        here = clipped_in y h

        at : (row_of b y - 1) * b.columns + column_of b y ≡ y
        at = at_place b y (held_cell b s y h)

        go : Dec (row_of b y < i) → Dec (row_of b y ≡ i) → ⊥
        go (yes k) q = no_bit (column_of b y) (rw (z (row_of b y) o.top k) at here)
        go (no k) (yes q) =
            let c : low ≤ column_of b y = lowest_le (get_or t i 0) (pos_of_ne-zero some) small (column_of b y) (rw q at here) in
            let e : (row_of b y - 1) * b.columns ≡ (i - 1) * b.columns = ap (λ (n : ℕ). (n - 1) * b.columns) q in
            omega (arith, at)
        go (no k) (no q) =
            let more : suc (i - 1) * b.columns ≤ (row_of b y - 1) * b.columns = mul-le-mul_right b.columns (omega (arith, low_on.top)) in
            omega (arith, at, low_on.right, suc-mul (i - 1) b.columns, o.left)

    not_lower : (y : ℕ) → T (held b s y) → Dec (y < cell_at b low i) → cell_at b low i ≤ y
    not_lower y h (yes l) = absurd (none_lower y l h)
    not_lower y h (no l) = omega arith

    pub row_found : (i - 1) * b.columns + low ≡ smallest b (held b s)
    unfolding cell_at
    row_found =
        sym
        (smallest_is b (held b s) (cell_at b low i)
        (record { is_cell_lem = cell_at_lem b low i low_on; in_set = low_held; least = λ y c h. not_lower y h (dec_lt y (cell_at b low i)) }))
