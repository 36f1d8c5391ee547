-- A set of cells as 21 row words: which cells of a board it holds.
use Rattle.std.specs.Prelude.{Bool, not, ◌&&◌, List, ◌++◌, ◌≡◌, ℕ, ◌+◌, ◌*◌, ◌<◌, ◌≤◌, T, eqb, length, get_or, drop}
use Rattle.std.specs.Int.{bit_at}
use Rattle.rules.specs.Words.{among, any, up_to}
use Rattle.rules.specs.Board.{cells, is_cell, column_of, row_of}
use Rattle.rules.specs.declared.Board.{Board}

-- x is a cell of the board, and bit c of word r is set, where c is its column and r its row
unfoldable pub held : Board → List ℕ → ℕ → Bool
held b rows x = is_cell b x && eqb (bit_at (get_or rows (row_of b x) 0) (column_of b x)) 1

-- some cell of the board is in one set and not in the other
unfoldable pub some_beyond : Board → (rows other : List ℕ) → Bool
some_beyond b s t = any (λ x. held b s x && not (held b t x)) (up_to (cells b))

-- the set is that of these cells
pub record Holds (b : Board) (rows xs : List ℕ) : Type 0 where
  pub same : (x : ℕ) → held b rows x ≡ among xs x

-- a board whose cells have their place in the words, with a border on every side
pub record Fits (b : Board) : Type 0 where
  pub some_column : 1 ≤ b.columns
  pub few_columns : b.columns ≤ 19
  pub some_row : 1 ≤ b.rows
  pub few_rows : b.rows ≤ 19

-- the cells stand in the first places of the room, whose other places are as they were, and n is their number
pub record Listed (cells room room' : List ℕ) (n : ℕ) : Type 0 where
  pub number : n ≡ length cells
  pub written : room' ≡ cells ++ drop (length cells) room

-- x is the first of the four numbers of a row from row i up to row j
pub record StandsIn (t : List ℕ) (i j x : ℕ) : Type 0 where
  pub at : ℕ
  pub from : i ≤ at
  pub to : at < j
  pub is : get_or t (4 * at) 0 ≡ x

-- these rows are in the list, and the first number of each is a cell of the board or 0
abbrev pub RowsHold : Board → List ℕ → (i j : ℕ) → Type 0
RowsHold b t i j = (k : ℕ) → i ≤ k → k < j → (4 * k + 3 < length t) × (get_or t (4 * k) 0 ≤ cells b)

-- the set is that of the cells in these rows
pub record HeldInRows (b : Board) (t : List ℕ) (i j : ℕ) (rows : List ℕ) : Type 0 where
  pub stands : (x : ℕ) → 1 ≤ x → T (held b rows x) → StandsIn t i j x
  pub is_held : (x : ℕ) → 1 ≤ x → StandsIn t i j x → T (held b rows x)
