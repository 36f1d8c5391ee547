-- What the parts of the code do to the row words.
use Rattle.std.specs.Prelude.{Bool, List, ◌≡◌, ℕ, ◌≤◌, get_or, T}
use Rattle.std.specs.Int.{bit_at}
use Rattle.rules.specs.Board.{On, is_cell, column_of, row_of}
use Rattle.rules.specs.declared.Board.{Board}

-- bit c of word r is set
abbrev pub In : List ℕ → ℕ → ℕ → Type 0
In s c r = bit_at (get_or s r 0) c ≡ 1

-- each row of one set is what f makes of that row of two others
pub record RowByRow (f : ℕ → ℕ → ℕ) (s t out : List ℕ) : Type 0 where
  pub row : (r : ℕ) → get_or out r 0 ≡ f (get_or s r 0) (get_or t r 0)

-- column c and row r are those of the cell x, and stand inside the words
pub record PlaceOf (b : Board) (x c r : ℕ) : Type 0 where
  pub column_is : c ≡ column_of b x
  pub row_is : r ≡ row_of b x
  pub few_columns : c ≤ 19
  pub few_rows : r ≤ 19

-- the bits set are those of columns left to right in rows top to bottom
pub record Block (left right top bottom : ℕ) (s : List ℕ) : Type 0 where
  pub inside : (c r : ℕ) → left ≤ c → c ≤ right → top ≤ r → r ≤ bottom → In s c r
  pub only : (c r : ℕ) → In s c r → (left ≤ c) × (c ≤ right) × (top ≤ r) × (r ≤ bottom)

-- t has the bits of s that stand on the board
pub record Clipped (b : Board) (s t : List ℕ) : Type 0 where
  pub inside : (c r : ℕ) → In s c r → On b c r → In t c r
  pub only : (c r : ℕ) → In t c r → In s c r × On b c r

-- the bits set are those of the places of the board whose cells pass the test
pub record Side (b : Board) (test : ℕ → Bool) (s : List ℕ) : Type 0 where
  pub inside : (x : ℕ) → T (is_cell b x) → T (test x) → In s (column_of b x) (row_of b x)
  pub only : (x : ℕ) → T (is_cell b x) → In s (column_of b x) (row_of b x) → T (test x)
