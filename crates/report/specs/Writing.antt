-- Text in a room of bytes that is lent.
use Rattle.std.specs.Prelude.{◌≡◌, ℕ, ◌+◌, ◌≤◌, ◌++◌, length, take, drop}
use Rattle.rules.specs.Text.{Bytes}

-- the text stands in the room from the place `at` on, all else there is as it was, and `end` is the place after the text
pub record Wrote (text room : Bytes) (at : ℕ) (room' : Bytes) (end : ℕ) : Type 0 where
  pub fits : at + length text ≤ length room
  pub ends : end ≡ at + length text
  pub pasted : room' ≡ take at room ++ text ++ drop (at + length text) room

-- the text is so written, in `most` bytes at most
pub record WroteWithin (most : ℕ) (text room : Bytes) (at : ℕ) (room' : Bytes) (end : ℕ) : Type 0 where
  pub wrote : Wrote text room at room' end
  pub short : end ≤ at + most
