-- Whether a set has a cell of the board that another has not: row by row, by the words.
use mathlib.Core.Path.{◌≡◌, sym}
use mathlib.Core.Bool.{Bool, true, false, not, ◌&&◌}
use mathlib.Core.Logic.{◌≢◌}
use mathlib.Core.List.{List}
use Prim.Native.Nat.{ℕ, ◌+◌, ◌-◌, ◌^◌, ◌<◌, ◌≤◌}
use native.Mathlib.Nat.{pos_of_ne-zero}
use native.Mathlib.Omega.{arith}
use lib.Bits.{bit_and, and_le_l}
use lib.Count.{count_trailing_zeros}
use lib.Dec.{T, not_T, T_not}
use lib.ListN.{length, get_or}
use Rattle.std.specs.Bool.{MatchBool}
use Rattle.std.specs.List.{range_with_len, HoldsAt, AllWithin}
use Rattle.std.proofs.lemmas.List.FromFn.{length-range_with_len, get_or-range_with_len}
use Rattle.std.specs.Int.{bit_not}
use Rattle.std.specs.Int.{w32}
use Rattle.rules.specs.declared.Board.{Board}
use Rattle.rules.specs.Board.{On, cells, column_of, row_of, cell_at}
use Rattle.rules.specs.Words.{up_to}
use Rattle.rules.proofs.Tests.{true_of, false_of, both, fst, snd}
use Rattle.rules.proofs.Lists.{any_some, some_any, in_up_to}
use Rattle.rules.proofs.Places.{cell_range, cell_place, column_at, row_at, cell_at_lem}
use Rattle.cells.specs.Cells.{held, some_beyond, Fits}
use Rattle.cells.proofs.Bits.{no_bit, and_both, and_l, and_r, without_in, without_out, mask_in, mask_out}
use Rattle.cells.proofs.Held.{held_cell, held_in, in_held}
use Rattle.cells.proofs.Smallest.{lowest_bit}

module _ (b : Board) (s t : List ℕ) where
  -- what it says
  pub beyond_some : T (some_beyond b s t) → (x : ℕ) × T (held b s x) × (T (held b t x) → ⊥)
  unfolding some_beyond
  beyond_some h =
      let d = any_some (λ x. held b s x && not (held b t x)) (up_to (cells b)) h in
      (d.0, fst (held b s d.0) (not (held b t d.0)) d.2, T_not (held b t d.0) (snd (held b s d.0) (not (held b t d.0)) d.2))

  pub some_beyond_lem : (x : ℕ) → T (held b s x) → (T (held b t x) → ⊥) → T (some_beyond b s t)
  unfolding some_beyond cells
  some_beyond_lem x h n =
      let r = cell_range b x (held_cell b s x h) in
      some_any (λ x. held b s x && not (held b t x)) x (up_to (cells b)) (in_up_to (cells b) x r.0 r.1) (both (held b s x) (not (held b t x)) h (not_T (held b t x) n))

-- of row r, the cells of the columns that the other has not
abbrev pub beyond_in : (s t : List ℕ) → (word r : ℕ) → ℕ
beyond_in s t word r = bit_and (bit_and (get_or s r 0) word) (bit_not w32 (get_or t r 0))

module _ (b : Board) (s t : List ℕ) (fits : Fits b) (small-s : (r : ℕ) → get_or s r 0 < 2 ^ 32) (small-t : (r : ℕ) → get_or t r 0 < 2 ^ 32) where
  abbrev word : ℕ
  word = 2 ^ (b.columns + 1) - 2 ^ 1

  pub row_beyond : (r : ℕ) → 1 ≤ r → r ≤ b.rows → beyond_in s t word r ≢ 0 → some_beyond b s t ≡ true
  row_beyond r l h z =
      let a = bit_and (get_or s r 0) word in
      let small : beyond_in s t word r < 2 ^ 32 = omega (arith, small-s r, and_le_l (get_or s r 0) word, and_le_l a (bit_not w32 (get_or t r 0))) in
      let k = count_trailing_zeros 32 (beyond_in s t word r) in
      let d = lowest_bit (beyond_in s t word r) (pos_of_ne-zero z) small in
      let own = and_l a (bit_not w32 (get_or t r 0)) k d in
      let on = mask_out 1 b.columns k (and_r (get_or s r 0) word k own) in
      let o : On b k r = record { left = on.0; right = on.1; top = l; bottom = h } in
      let x = cell_at b k r in
      true_of (some_beyond b s t)
      (some_beyond_lem b s t x
      (in_held b s x (cell_at_lem b k r o) (rw (column_at b k r o, row_at b k r o) (and_l (get_or s r 0) word k own)))
      (λ i. without_out a (get_or t r 0) k (small-t r) (omega (arith, on.1, fits.few_columns)) d (rw (column_at b k r o, row_at b k r o) at (held_in b t x i))))

  pub rows_within : ((r : ℕ) → 1 ≤ r → r ≤ b.rows → beyond_in s t word r ≡ 0) → some_beyond b s t ≡ false
  rows_within y =
      false_of (some_beyond b s t)
      (λ h.
      let d = beyond_some b s t h in
      let x = d.0 in
      let i = held_cell b s x d.1 in
      let o = cell_place b x fits.some_column i in
      let c = column_of b x in
      let r = row_of b x in
      let own = and_both (get_or s r 0) word c (held_in b s x d.1) (mask_in 1 b.columns c o.left o.right) in
      no_bit c
      (rw (y r o.top o.bottom)
      at (without_in (bit_and (get_or s r 0) word) (get_or t r 0) c (small-t r) (omega (arith, o.right, fits.few_columns)) own (λ e. d.2 (in_held b t x i e)))))

  -- the answer from the rows, by the word as the code has it
  pub rows_told : (w : ℕ) → w ≡ word → (r : Bool) → MatchBool r ((k : ℕ) × (k < length (range_with_len 1 b.rows)) × HoldsAt (λ r. beyond_in s t w r ≢ 0) (range_with_len 1 b.rows) k)
      (AllWithin (λ r. beyond_in s t w r ≡ 0) (range_with_len 1 b.rows) 0 (length (range_with_len 1 b.rows))) → r ≡ some_beyond b s t
  rows_told w e true (k, l, h) =
      let on : k < b.rows = omega (arith, length-range_with_len 1 b.rows) in
      sym (row_beyond (1 + k) (omega arith) (omega arith) (rw (← e, ← get_or-range_with_len 1 b.rows k 0 on) (h 0)))
  rows_told w e false h =
      sym
      (rows_within (λ r l u.
      let on : r - 1 < b.rows = omega arith in
      let is : 1 + (r - 1) ≡ r = omega arith in
      rw (← e) (rw (get_or-range_with_len 1 b.rows (r - 1) 0 on, is) at (h (r - 1) 0 (omega arith) (omega (arith, length-range_with_len 1 b.rows))))))
