-- Cells as the code tests them. (Cell numbers against columns and rows: `rules`' Places.)
use mathlib.Core.Path.{◌≡◌}
use Prim.Native.Nat.{ℕ, ◌*◌, ◌<◌, ◌≤◌}
use native.Mathlib.Nat.{mul-le-mul}
use native.Mathlib.Omega.{arith}
use borrow.Author.Tests.{le-leb, lt-leb}
use lib.Dec.{leb}
use Rattle.rules.specs.Board.{cells, is_cell}
use Rattle.rules.specs.Unread.{BoardSize}
use Rattle.rules.specs.declared.Board.{Board}
use Rattle.cells.specs.Cells.{Fits}

-- the number of cells
pub few_cells : (b : Board) → Fits b → b.columns * b.rows ≤ 361
few_cells b f = mul-le-mul {n₂ = 19} {m₂ = 19} f.few_columns f.few_rows

module _ (b : Board) (x : ℕ) where
  pub cell_some : 1 ≤ x → leb x (b.columns * b.rows) ≡ is_cell b x
  unfolding is_cell cells
  cell_some h = rw (le-leb 1 x h, is_cell)

  pub cell_none : x < 1 → leb 1 x ≡ is_cell b x
  unfolding is_cell cells
  cell_none h = rw (lt-leb 1 x h, is_cell)

-- a board of document 01 fits
pub size_fits : {b : Board} → BoardSize b → Fits b
size_fits z =
    record { some_column = z.columns.0; few_columns = omega (arith, z.columns.1); some_row = z.rows.0; few_rows = omega (arith, z.rows.1) }
