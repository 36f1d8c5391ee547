-- The sides of a board as blocks of columns and rows.
use mathlib.Core.Path.{◌≡◌, sym, subst}
use mathlib.Core.Bool.{Bool}
use mathlib.Core.List.{List}
use Prim.Native.Nat.{ℕ, ◌≤◌}
use native.Mathlib.Omega.{arith}
use lib.Dec.{T, eqb, eqb→eq, eqb_refl}
use Rattle.rules.specs.Board.{is_cell, column_of, row_of, on_first_side, on_last_side}
use Rattle.rules.specs.declared.Board.{Board}
use Rattle.rules.specs.declared.Player.{Player}
use Rattle.rules.specs.declared.Player.TheVariants.{D, A}
use Rattle.rules.proofs.Places.{cell_place}
use Rattle.cells.specs.Cells.{Fits}
use Rattle.cells.specs.Rows.{In, Block, Side}

equal : (m n : ℕ) → n ≤ m → m ≤ n → T (eqb m n)
equal m n h l =
    let e : m ≡ n = omega arith in
    subst (λ (k : ℕ). T (eqb m k)) e (eqb_refl m)

module _ (b : Board) (fits : Fits b) (n : ℕ) (s : List ℕ) where
  -- one row of the board
  row_side : (test : ℕ → Bool) → ((x : ℕ) → test x ≡ eqb (row_of b x) n) → Block 1 b.columns n n s → Side b test s
  row_side test is k = record { inside = inside_; only = only_ }
    where
      inside_ : (x : ℕ) → T (is_cell b x) → T (test x) → In s (column_of b x) (row_of b x)
      inside_ x i h =
          let o = cell_place b x fits.some_column i in
          let e : row_of b x ≡ n = eqb→eq (row_of b x) n (subst T (is x) h) in
          k.inside (column_of b x) (row_of b x) o.left o.right (omega arith) (omega arith)

      only_ : (x : ℕ) → T (is_cell b x) → In s (column_of b x) (row_of b x) → T (test x)
      only_ x i h =
          let t = k.only (column_of b x) (row_of b x) h in
          subst T (sym (is x)) (equal (row_of b x) n t.2 t.3)

  -- one column of the board
  column_side : (test : ℕ → Bool) → ((x : ℕ) → test x ≡ eqb (column_of b x) n) → Block n n 1 b.rows s → Side b test s
  column_side test is k = record { inside = inside_; only = only_ }
    where
      inside_ : (x : ℕ) → T (is_cell b x) → T (test x) → In s (column_of b x) (row_of b x)
      inside_ x i h =
          let o = cell_place b x fits.some_column i in
          let e : column_of b x ≡ n = eqb→eq (column_of b x) n (subst T (is x) h) in
          k.inside (column_of b x) (row_of b x) (omega arith) (omega arith) o.top o.bottom

      only_ : (x : ℕ) → T (is_cell b x) → In s (column_of b x) (row_of b x) → T (test x)
      only_ x i h =
          let t = k.only (column_of b x) (row_of b x) h in
          subst T (sym (is x)) (equal (column_of b x) n t.0 t.1)

module _ (b : Board) (fits : Fits b) (s : List ℕ) (p : Player) where
  pub first_down : p ≡ D → Block 1 b.columns 1 1 s → Side b (on_first_side b p) s
  unfolding on_first_side
  first_down e k = row_side b fits 1 s (on_first_side b p) (λ x. rw (e, on_first_side)) k

  pub first_across : p ≡ A → Block 1 1 1 b.rows s → Side b (on_first_side b p) s
  unfolding on_first_side
  first_across e k = column_side b fits 1 s (on_first_side b p) (λ x. rw (e, on_first_side)) k

  pub last_down : p ≡ D → Block 1 b.columns b.rows b.rows s → Side b (on_last_side b p) s
  unfolding on_last_side
  last_down e k = row_side b fits b.rows s (on_last_side b p) (λ x. rw (e, on_last_side)) k

  pub last_across : p ≡ A → Block b.columns b.columns 1 b.rows s → Side b (on_last_side b p) s
  unfolding on_last_side
  last_across e k = column_side b fits b.columns s (on_last_side b p) (λ x. rw (e, on_last_side)) k
