-- "The board": its cells, their numbers and their neighbours, and the sides that a player joins.
use Rattle.std.specs.Prelude.{ℕ, ◌+◌, ◌*◌, ◌-◌, ◌/◌, ◌%◌, ◌≤◌, Bool, ◌&&◌, List, [], ◌∷◌, ◌++◌, eqb, leb, if◌then◌else◌}
use Rattle.rules.specs.Words.{keep, up_to, first_or_none}
use Rattle.rules.specs.declared.Board.{Board}
use Rattle.rules.specs.declared.Player.{Player}
use Rattle.rules.specs.declared.Player.TheVariants.{D, A}

-- column c, row r is on the board: as a test, and as a statement
unfoldable pub on_board : Board → ℕ → ℕ → Bool
on_board b c r = (leb 1 c && leb c b.columns) && (leb 1 r && leb r b.rows)

pub record On (b : Board) (c r : ℕ) : Type 0 where
  pub left : 1 ≤ c
  pub right : c ≤ b.columns
  pub top : 1 ≤ r
  pub bottom : r ≤ b.rows

-- the cell number is (r-1) times the columns, plus c, from 1
unfoldable pub cell_at : Board → ℕ → ℕ → ℕ
cell_at b c r = (r - 1) * b.columns + c

-- columns times rows: the number of cells, and the last cell's number
unfoldable pub cells : Board → ℕ
cells b = b.columns * b.rows

-- x is a cell of the board; 0 means no cell
unfoldable pub is_cell : Board → ℕ → Bool
is_cell b x = leb 1 x && leb x (cells b)

-- the column and the row of a cell
unfoldable pub column_of : Board → ℕ → ℕ
column_of b x = (x - 1) % b.columns + 1

unfoldable pub row_of : Board → ℕ → ℕ
row_of b x = (x - 1) / b.columns + 1

-- the cell at column c, row r, where it is on the board
unfoldable pub there : Board → ℕ → ℕ → List ℕ
there b c r = if on_board b c r then cell_at b c r ∷ [] else []

-- neighbours of the cell at column c, row r: (c-1, r), (c+1, r), (c, r-1), (c, r+1), (c+1, r-1), (c-1, r+1)
unfoldable pub around : Board → ℕ → ℕ → List ℕ
around b c r = there b (c - 1) r ++ there b (c + 1) r ++ there b c (r - 1) ++ there b c (r + 1) ++ there b (c + 1) (r - 1) ++ there b (c - 1) (r + 1)

unfoldable pub neighbours : Board → ℕ → List ℕ
neighbours b x = around b (column_of b x) (row_of b x)

-- player D joins row 1 to the last row, player A joins the first column to the last
unfoldable pub on_first_side : Board → Player → ℕ → Bool
on_first_side b D x = eqb (row_of b x) 1
on_first_side b A x = eqb (column_of b x) 1

unfoldable pub on_last_side : Board → Player → ℕ → Bool
on_last_side b D x = eqb (row_of b x) b.rows
on_last_side b A x = eqb (column_of b x) b.columns

-- a set of cells is a test; its cells in ascending order
unfoldable pub listed : Board → (ℕ → Bool) → List ℕ
listed b set = keep set (up_to (cells b))

-- the smallest cell of a set; 0 where it has none
unfoldable pub smallest : Board → (ℕ → Bool) → ℕ
smallest b set = first_or_none (listed b set)
