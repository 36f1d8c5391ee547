-- A cell's number on the board, from the tests that the code makes, and what it says of the cell that a line names.
use mathlib.Core.Path.{◌≡◌, refl}
use Prim.Native.Nat.{ℕ}
use mathlib.Core.Bool.{Bool, true, false}
use mathlib.Core.Option.{Option, some}
use Rattle.std.specs.Prelude as code
use Rattle.rules.specs.Board.{On, on_board, cell_at}
use Rattle.rules.specs.Lines.{Place}
use Rattle.rules.specs.Reading.{within, cell_of}
use Rattle.rules.specs.declared.Board.{Board}
use Rattle.rules.proofs.Places.{on_test, test_on}
use Rattle.rules.proofs.Tests.{true_of, false_of}
use Rattle.reading.specs.Numbered.{numbered}

module _ (b : Board) (c r : ℕ) where
  pub off_board : (On b c r → ⊥) → code.None ≡ numbered b (some (record { column = c; row = r }))
  unfolding within
  off_board f = rw (false_of (on_board b c r) (λ h. f (test_on b c r h)))

  pub on_board_lem : On b c r → code.Some (cell_at b c r) ≡ numbered b (some (record { column = c; row = r }))
  unfolding within cell_of
  on_board_lem i = rw (true_of (on_board b c r) (on_test b c r i))

-- a number was given: the cell is on the board, and has it
pub record NumberedOn (b : Board) (p : Option Place) (n : ℕ) : Type 0 where
  pub inside : within b p ≡ true
  pub number : cell_of b p ≡ n

pub numbered_on : (b : Board) (p : Option Place) (n : ℕ) → code.Some n ≡ numbered b p → NumberedOn b p n
numbered_on b p n h = go (within b p) refl
  where
    go : (t : Bool) → within b p ≡ t → NumberedOn b p n
    go true e = let k : code.Some n ≡ code.Some (cell_of b p) = rw e at h in record { inside = e; number = cc }
    go false e = let k : code.Some n ≡ code.None = rw e at h in cc

-- none was given: the cell is off the board
pub numbered_off : (b : Board) (p : Option Place) → code.None ≡ numbered b p → within b p ≡ false
numbered_off b p h = go (within b p) refl
  where
    go : (t : Bool) → within b p ≡ t → within b p ≡ false
    go true e = let k : code.None ≡ code.Some (cell_of b p) = rw e at h in cc
    go false e = e
