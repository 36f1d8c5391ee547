-- Which cells a set holds after each operation: the laws that callers use.
use mathlib.Core.Path.{◌≡◌, refl, sym, ap, ◌∙◌, subst}
use mathlib.Core.Bool.{Bool, true, false, ◌&&◌, ◌||◌}
use mathlib.Core.Logic.{◌≢◌, inl, inr, ⊎_elim}
use mathlib.Core.List.{List}
use Prim.Native.Nat.{ℕ, ◌*◌, ◌%◌, ◌^◌, ◌<◌}
use native.Mathlib.Decide.{ℕ_discrete}
use native.Mathlib.Omega.{arith}
use lib.Bits.{bit_and, bit_or}
use lib.Dec.{T, eqb, eqb→eq, eqb_refl}
use lib.ListN.{length, get_or, set, replicate}
use lib.Seq.{get_or-set_same, get_or-set_other}
use Rattle.std.specs.Int.{bit_at}
use Rattle.rules.specs.Board.{is_cell, column_of, row_of, cell_at}
use Rattle.rules.specs.declared.Board.{Board}
use Rattle.rules.proofs.Tests.{same_test, true_of, false_of, both, fst, snd, left, right, cases}
use Rattle.rules.proofs.Places.{cell_place, at_place}
use Rattle.cells.specs.Cells.{held, Fits}
use Rattle.cells.specs.Rows.{In, RowByRow, PlaceOf}
use Rattle.std.proofs.lemmas.Nat.Bits.{bit_at_set_same, bit_at_set_other}
use borrow.Author.Tests.{ne_eqb}
use Rattle.std.specs.Int.{w32}
use Rattle.cells.proofs.Words.{in_empty, either_in, either_out, both_in, both_out}

module _ (b : Board) (s : List ℕ) (x : ℕ) where
  -- only cells of the board are held
  pub held_cell : T (held b s x) → T (is_cell b x)
  unfolding held
  held_cell h = fst (is_cell b x) (eqb (bit_at (get_or s (row_of b x) 0) (column_of b x)) 1) h

  pub held_in : T (held b s x) → In s (column_of b x) (row_of b x)
  unfolding held
  held_in h =
      eqb→eq (bit_at (get_or s (row_of b x) 0) (column_of b x)) 1 (snd (is_cell b x) (eqb (bit_at (get_or s (row_of b x) 0) (column_of b x)) 1) h)

  pub in_held : T (is_cell b x) → In s (column_of b x) (row_of b x) → T (held b s x)
  unfolding held
  in_held i e =
      both (is_cell b x) (eqb (bit_at (get_or s (row_of b x) 0) (column_of b x)) 1) i
      (subst (λ (n : ℕ). T (eqb n 1)) (sym e) tt)

  -- how the code tests it: a number that is no cell is not held, and a cell is where the bit at its place is set
  pub held_off : is_cell b x ≡ false → false ≡ held b s x
  held_off e = sym (false_of (held b s x) (λ h. subst T e (held_cell h)))

  pub held_test : is_cell b x ≡ true → (c r : ℕ) → PlaceOf b x c r → eqb (bit_at (get_or s r 0) c) 1 ≡ held b s x
  unfolding held
  held_test e c r p = rw (e, p.column_is, p.row_is, held)

-- the empty set
pub held_empty : (b : Board) (x : ℕ) → held b (replicate 21 0) x ≡ false
held_empty b x = false_of (held b (replicate 21 0) x) (λ h. in_empty (column_of b x) (row_of b x) (held_in b (replicate 21 0) x h))

-- the cells of either of two sets, and of both
module _ (b : Board) {s t u : List ℕ} (x : ℕ) where
  pub held_either : RowByRow bit_or s t u → held b u x ≡ (held b s x || held b t x)
  held_either m =
      same_test (held b u x) (held b s x || held b t x)
      (λ h.
      let i = held_cell b u x h in
      ⊎_elim (λ e. left (held b s x) (held b t x) (in_held b s x i e)) (λ e. right (held b s x) (held b t x) (in_held b t x i e))
      (either_out (column_of b x) (row_of b x) m (held_in b u x h)))
      (λ h.
      ⊎_elim
      (λ e. in_held b u x (held_cell b s x e) (either_in (column_of b x) (row_of b x) m (inl (held_in b s x e))))
      (λ e. in_held b u x (held_cell b t x e) (either_in (column_of b x) (row_of b x) m (inr (held_in b t x e))))
      (cases (held b s x) (held b t x) h))

  pub held_both : RowByRow bit_and s t u → held b u x ≡ (held b s x && held b t x)
  held_both m =
      same_test (held b u x) (held b s x && held b t x)
      (λ h.
      let i = held_cell b u x h in
      let e = both_out (column_of b x) (row_of b x) m (held_in b u x h) in
      both (held b s x) (held b t x) (in_held b s x i e.0) (in_held b t x i e.1))
      (λ h.
      let p = fst (held b s x) (held b t x) h in
      let q = snd (held b s x) (held b t x) h in
      in_held b u x (held_cell b s x p) (both_in (column_of b x) (row_of b x) m (held_in b s x p) (held_in b t x q)))

-- one cell more: the bit of its column is set in the word of its row
module _ (b : Board) (s : List ℕ) (x : ℕ) (long : length s ≡ 21) (fits : Fits b) (cell : T (is_cell b x)) where
  abbrev word : ℕ
  word = bit_or (get_or s (row_of b x) 0) (1 * 2 ^ column_of b x % 2 ^ 32)

  abbrev more : List ℕ
  more = set s (row_of b x) word

  row_there : row_of b x < length s
  row_there =
      let o = cell_place b x fits.some_column cell in
      omega (arith, o.bottom, fits.few_rows)

  column_there : column_of b x < 32
  column_there =
      let o = cell_place b x fits.some_column cell in
      omega (arith, o.right, fits.few_columns)

  -- the place of x is in the new set, and any other place is as it was
  more_own : In more (column_of b x) (row_of b x)
  more_own = rw (get_or-set_same s (row_of b x) word 0 row_there) (bit_at_set_same w32 (get_or s (row_of b x) 0) (column_of b x) column_there)

  more_other : (c r : ℕ) → ((c ≡ column_of b x) → (r ≡ row_of b x) → ⊥) → bit_at (get_or more r 0) c ≡ bit_at (get_or s r 0) c
  more_other c r n = go (ℕ_discrete r (row_of b x))
    where
      go : Dec (r ≡ row_of b x) → bit_at (get_or more r 0) c ≡ bit_at (get_or s r 0) c
      go (yes q) =
          rw (q, get_or-set_same s (row_of b x) word 0 row_there)
          (bit_at_set_other w32 (get_or s (row_of b x) 0) (column_of b x) column_there c (λ e. n e q))
      go (no q) = rw (get_or-set_other s (row_of b x) r word 0 q) refl

  apart : (y : ℕ) → T (is_cell b y) → y ≢ x → bit_at (get_or more (row_of b y) 0) (column_of b y) ≡ bit_at (get_or s (row_of b y) 0) (column_of b y)
  apart y i n = more_other (column_of b y) (row_of b y) (λ p q. n (sym (at_place b y i) ∙ same p q ∙ at_place b x cell))
    where
      same : column_of b y ≡ column_of b x → row_of b y ≡ row_of b x → cell_at b (column_of b y) (row_of b y) ≡ cell_at b (column_of b x) (row_of b x)
      same p q = rw (p, q)

  held_more : (y : ℕ) → held b more y ≡ (eqb y x || held b s y)
  held_more y = go (ℕ_discrete y x)
    where
      go : Dec (y ≡ x) → held b more y ≡ (eqb y x || held b s y)
      go (yes e) =
          rw e
          (true_of (held b more x) (in_held b more x cell more_own)
          ∙ sym (ap (λ (t : Bool). t || held b s x) (true_of (eqb x x) (eqb_refl x))))
      go (no n) =
          same_test (held b more y) (held b s y)
          (λ h. let i = held_cell b more y h in in_held b s y i (sym (apart y i n) ∙ held_in b more y h))
          (λ h. let i = held_cell b s y h in in_held b more y i (apart y i n ∙ held_in b s y h))
          ∙ sym (ap (λ (t : Bool). t || held b s y) (ne_eqb y x n))

  -- how the code writes it
  pub held_with : (c r w : ℕ) → PlaceOf b x c r → w ≡ bit_or (get_or s r 0) (1 * 2 ^ c % 2 ^ 32) → (y : ℕ) → held b (set s r w) y ≡ (eqb y x || held b s y)
  held_with c r w p e y = rw (e, p.column_is, p.row_is) (held_more y)
