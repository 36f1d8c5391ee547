-- How the joining test grows the reached set of places, a row at a time, until no row takes anything in.
use Rattle.std.specs.Prelude.{List, ℕ, suc, ◌*◌, ◌/◌, ◌%◌, ◌^◌, ◌<◌, ◌≤◌}
use Rattle.std.specs.Int.Bits.{bit_and, bit_or}
use Rattle.cells.specs.Rows.{In}

-- the places in a row that touch one of the row h itself, of the row u above or of the row d below
unfoldable pub around : ℕ → ℕ → ℕ → ℕ
around u h d = bit_or (bit_or (h * 2 % 2 ^ 32) (h / 2)) (bit_or (bit_or u (u / 2)) (bit_or d (d * 2 % 2 ^ 32)))

-- a row h with those of the row's cells s that touch it, or the rows above and below
unfoldable pub grown_row : ℕ → ℕ → ℕ → ℕ → ℕ
unfolding around
grown_row s u h d = bit_or h (bit_and s (around u h d))

-- the six neighbours of a place (column, row), the second place
pub data Near : ℕ → ℕ → ℕ → ℕ → Type 0 where
  to_left : {c r : ℕ} → Near (suc c) r c r
  to_right : {c r : ℕ} → Near c r (suc c) r
  to_up : {c r : ℕ} → Near c (suc r) c r
  to_down : {c r : ℕ} → Near c r c (suc r)
  to_up_right : {c r : ℕ} → Near c (suc r) (suc c) r
  to_down_left : {c r : ℕ} → Near (suc c) r c (suc r)

-- what a set grows to, inside s: its own places, and step by step their neighbours in s
pub data Linked (s a : List ℕ) : ℕ → ℕ → Type 0 where
  own : {c r : ℕ} → In a c r → Linked s a c r
  next : {c r c' r' : ℕ} → Linked s a c r → Near c r c' r' → In s c' r' → Linked s a c' r'

-- no place of s is in row 0 or beyond the first rows, nor above bit 31
pub record Framed (rows : ℕ) (s : List ℕ) : Type 0 where
  pub inside : (c r : ℕ) → In s c r → (1 ≤ r) × (r ≤ rows) × (c < 32)

-- r is all that a grows to inside s
pub record Closure (s a r : List ℕ) : Type 0 where
  pub sound : (c k : ℕ) → In r c k → Linked s a c k
  pub whole : (c k : ℕ) → Linked s a c k → In r c k
