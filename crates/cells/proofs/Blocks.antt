-- A block of columns and rows as words: 2 ^ (right + 1) - 2 ^ left has the bits left to right.
use mathlib.Core.Path.{◌≡◌}
use mathlib.Core.List.{List}
use Prim.Native.Nat.{ℕ, ◌+◌, ◌-◌, ◌^◌, ◌<◌, ◌≤◌}
use native.Mathlib.Decide.{dec_le}
use native.Mathlib.Omega.{arith}
use lib.Bits.{bit_and}
use lib.ListN.{get_or, replicate}
use borrow.Rule.Slice.PartMut.{put_mid}
use Rattle.std.proofs.Common.{rules}
use Rattle.std.proofs.lemmas.List.{places}
use Rattle.rules.specs.declared.Board.{Board}
use Rattle.cells.specs.Rows.{In, RowByRow, Block, Clipped}
use Rattle.cells.proofs.Bits.{no_bit, mask_in, mask_out}
use Rattle.cells.proofs.Words.{both_in, both_out}

-- rows of which those from top to bottom have the word, and the others nothing
pub record Banded (top bottom word : ℕ) (rows : List ℕ) : Type 0 where
  pub within : (r : ℕ) → top ≤ r → r ≤ bottom → get_or rows r 0 ≡ word
  pub above : (r : ℕ) → r < top → get_or rows r 0 ≡ 0
  pub below : (r : ℕ) → bottom < r → get_or rows r 0 ≡ 0

-- so it is where they are filled in
pub banded : (top bottom word : ℕ) → top ≤ bottom → bottom ≤ 19
    → Banded top bottom word (put_mid top (bottom + 1 - top) (replicate 21 0) (replicate (bottom + 1 - top) word))
banded top bottom word h low =
    record { within = λ r t u. search (rules, places); above = λ r l. search (rules, places); below = λ r l. search (rules, places) }

pub block_filled : (left right top bottom : ℕ) (rows : List ℕ) → Banded top bottom (2 ^ (right + 1) - 2 ^ left) rows → Block left right top bottom rows
block_filled left right top bottom rows b =
    record { inside = λ c r l m t u. rw (b.within r t u) (mask_in left right c l m); only = λ c r e. only_ c r e (dec_le top r) (dec_le r bottom) }
  where
    only_ : (c r : ℕ) → In rows c r → Dec (top ≤ r) → Dec (r ≤ bottom) → (left ≤ c) × (c ≤ right) × (top ≤ r) × (r ≤ bottom)
    only_ c r e (yes t) (yes u) =
        let w = mask_out left right c (rw (b.within r t u) at e) in
        (w.0, w.1, t, u)
    only_ c r e (yes t) (no u) = absurd (no_bit c (rw (b.below r (omega arith)) at e))
    only_ c r e (no t) u = absurd (no_bit c (rw (b.above r (omega arith)) at e))

-- what a set has in common with the board's block are its places on the board
pub clipped_block : (b : Board) {s t out : List ℕ} → RowByRow bit_and s t out → Block 1 b.columns 1 b.rows t → Clipped b s out
clipped_block b m k =
    record {
      inside = λ c r e o. both_in c r m e (k.inside c r o.left o.right o.top o.bottom);
      only =
          λ c r e.
          let p = both_out c r m e in
          let q = k.only c r p.1 in
          (p.0, record { left = q.0; right = q.1; top = q.2; bottom = q.3 });
    }
