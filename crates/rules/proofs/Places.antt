-- Cell numbers against columns and rows: each cell of a board has one column and one row, and they have one cell.
use mathlib.Core.Path.{◌≡◌, ap, ◌∙◌}
use mathlib.Core.Bool.{◌&&◌}
use Prim.Native.Nat.{ℕ, ◌+◌, ◌-◌, ◌*◌, ◌/◌, ◌<◌, ◌≤◌}
use native.Mathlib.Nat.{mod-lt, div-lt_iff_lt-mul, div-add-mod', mul_comm}
use native.Mathlib.Omega.{arith}
use lib.Arith.{digits_div, digits_mod}
use lib.Dec.{T, leb, leb→le, le→leb}
use Rattle.rules.specs.Board.{On, on_board, cell_at, cells, is_cell, column_of, row_of}
use Rattle.rules.specs.declared.Board.{Board}
use Rattle.rules.proofs.Tests.{both, fst, snd}
use Rattle.rules.proofs.Joining.{cell_on_lem}

-- on the board, as a test
pub on_test : (b : Board) (c r : ℕ) → On b c r → T (on_board b c r)
unfolding on_board
on_test b c r o =
    both (leb 1 c && leb c b.columns) (leb 1 r && leb r b.rows)
    (both (leb 1 c) (leb c b.columns) (le→leb 1 c o.left) (le→leb c b.columns o.right))
    (both (leb 1 r) (leb r b.rows) (le→leb 1 r o.top) (le→leb r b.rows o.bottom))

pub test_on : (b : Board) (c r : ℕ) → T (on_board b c r) → On b c r
unfolding on_board
test_on b c r h =
    let p = fst (leb 1 c && leb c b.columns) (leb 1 r && leb r b.rows) h in
    let q = snd (leb 1 c && leb c b.columns) (leb 1 r && leb r b.rows) h in
    record {
      left = leb→le 1 c (fst (leb 1 c) (leb c b.columns) p);
      right = leb→le c b.columns (snd (leb 1 c) (leb c b.columns) p);
      top = leb→le 1 r (fst (leb 1 r) (leb r b.rows) q);
      bottom = leb→le r b.rows (snd (leb 1 r) (leb r b.rows) q);
    }

module _ (b : Board) (x : ℕ) where
  pub cell_range : T (is_cell b x) → (1 ≤ x) × (x ≤ b.columns * b.rows)
  unfolding is_cell cells
  cell_range h =
      (leb→le 1 x (fst (leb 1 x) (leb x (b.columns * b.rows)) h), leb→le x (b.columns * b.rows) (snd (leb 1 x) (leb x (b.columns * b.rows)) h))

  pub range_cell : 1 ≤ x → x ≤ b.columns * b.rows → T (is_cell b x)
  unfolding is_cell cells
  range_cell l h = both (leb 1 x) (leb x (b.columns * b.rows)) (le→leb 1 x l) (le→leb x (b.columns * b.rows) h)

  -- a cell's place is on the board
  pub cell_place : 1 ≤ b.columns → T (is_cell b x) → On b (column_of b x) (row_of b x)
  unfolding column_of row_of
  cell_place f h =
      let r = cell_range h in
      let below : (x - 1) / b.columns < b.rows = (div-lt_iff_lt-mul {k = b.columns} {x = x - 1} {y = b.rows} f).1 (omega (arith, mul_comm b.columns b.rows)) in
      record { left = omega arith; right = omega (arith, mod-lt (x - 1) f); top = omega arith; bottom = omega arith }

  -- the cell at a cell's place is that cell
  pub at_place : T (is_cell b x) → cell_at b (column_of b x) (row_of b x) ≡ x
  unfolding column_of row_of cell_at
  at_place h =
      let r = cell_range h in
      let e : (x - 1) / b.columns + 1 - 1 ≡ (x - 1) / b.columns = omega arith in
      rw e (omega (arith, div-add-mod' (x - 1) b.columns))

module _ (b : Board) (c r : ℕ) (o : On b c r) where
  before : cell_at b c r - 1 ≡ (r - 1) * b.columns + (c - 1)
  unfolding cell_at
  before = omega (arith, o.left)

  -- the place of the cell at a place is that place
  pub column_at : column_of b (cell_at b c r) ≡ c
  unfolding column_of
  column_at =
      rw before
      (ap (λ (n : ℕ). n + 1) (digits_mod (r - 1) {m = b.columns} {r = c - 1} (omega (arith, o.left, o.right)))
      ∙ omega (arith, o.left))

  pub row_at : row_of b (cell_at b c r) ≡ r
  unfolding row_of
  row_at =
      rw before
      (ap (λ (n : ℕ). n + 1) (digits_div (r - 1) {m = b.columns} {r = c - 1} (omega (arith, o.left, o.right)))
      ∙ omega (arith, o.top))

  pub cell_at_lem : T (is_cell b (cell_at b c r))
  cell_at_lem = cell_on_lem b c r (on_test b c r o)
