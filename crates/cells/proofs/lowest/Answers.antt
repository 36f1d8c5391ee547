-- `cells::lowest` meets its contract: the rows above the one that is found are empty, so the smallest cell is in that one.
use Rattle.std.proofs.Common.{rules, tests, arith, ◌≡◌, sym, ℕ, ◌*◌, ◌+◌, ◌^◌, ◌<◌, ◌≤◌, ◌≢◌, Some, None, List, get_or, w32, Fits}
use Rattle.std.proofs.lemmas.Iterator.{first_from_Range}
use Rattle.std.proofs.lemmas.Nat.Bits.{bit_at-trailing_zeros}
use native.Mathlib.Nat.{mul-le-mul, pos_of_ne-zero}
use Rattle.cells.proofs.Smallest.{rows_empty, row_found}
use Rattle.cells.proofs.lowest.Goals as goal

-- a row of the board that is not empty, and those above it are
record Found (rows : List ℕ) (end row : ℕ) : Type 0 where
  from : 1 ≤ row
  to : row < end
  some : get_or rows row 0 ≢ 0
  above : (k : ℕ) → 1 ≤ k → k < row → get_or rows k 0 ≡ 0
  word : get_or rows row 0 < 2 ^ 32

found : (c : goal.In-Some) → Found c.args.inside.rows (c.args.grid.board.rows + 1) c.in-Some.row
found c =
    let rows = c.args.inside.rows in
    let t = first_from_Range _ _ _ (Some c.in-Some.row) (λ k. get_or rows k 0 ≢ 0) (λ k. get_or rows k 0 ≡ 0) c.in-Some.ensures.ran (λ x q k. search (rules, tests)) (λ x q k. search (rules, tests)) in
    let word : Fits w32 (get_or rows c.in-Some.row 0) = search rules in
    record { from = t.0; to = t.1; some = t.2; above = t.3; word = word.fits }

pub overflow_sub-result : goal.overflow_sub-result
overflow_sub-result c = omega (arith, (found c).from)

pub overflow_add-result : goal.overflow_add-result
overflow_add-result c =
    let b = c.args.grid.board in
    let f = found c.before.before in
    let low = (bit_at-trailing_zeros w32 (get_or c.args.inside.rows c.in-Some.row 0) (pos_of_ne-zero f.some) f.word).0 in
    let few : (k : ℕ) → k ≤ 19 → k * b.columns ≤ 19 * 19 = λ k h. mul-le-mul {n₂ = 19} {m₂ = 19} h c.args.grid.fits.few_columns in
    record { fits = omega (arith, low, few, f.to, c.args.grid.fits.few_rows) }

pub returns-in-Some : goal.returns-in-Some
returns-in-Some c =
    let f = found c.before.before in
    λ s k. row_found c.args.grid.board s c.args.inside.rows c.args.grid.fits k c.in-Some.row f.above f.word f.some

pub returns-in-None : goal.returns-in-None
returns-in-None c =
    let t = first_from_Range _ _ _ None (λ k. get_or c.args.inside.rows k 0 ≢ 0) (λ k. get_or c.args.inside.rows k 0 ≡ 0) c.in-None.ensures.ran (λ x q k. search (rules, tests)) (λ x q k. search (rules, tests)) in
    λ s k. sym (rows_empty c.args.grid.board s c.args.inside.rows c.args.grid.fits k (λ j a b. t j a (omega arith)))
