-- The lent memory: as it is filled before a request, and as the entries are to leave it.
use Rattle.std.specs.Prelude.{◌≡◌, List, ℕ, ◌<◌, ◌≤◌, length, replicate, take, drop}

-- all numbers of a list are the value
abbrev pub AllAre : ℕ → List ℕ → Type 0
AllAre value l = l ≡ replicate (length l) value

-- the numbers are the filling, all of whose bits are 1
abbrev pub Filled : List ℕ → Type 0
Filled l = AllAre 4294967295 l

-- a workspace that was filled: fewer than 8,192 numbers are unchanged, otherwise the first 8,192 are 0 and the others unchanged
pub record WorkspaceLaid (l : List ℕ) : Type 0 where
  pub unchanged : length l < 8192 → Filled l
  pub cleared : 8192 ≤ length l → AllAre 0 (take 8192 l)
  pub others : 8192 ≤ length l → Filled (drop 8192 l)

-- a room that was filled: so many first places are written, and none on a refusal
pub record RoomLaid (number written : ℕ) (l : List ℕ) : Type 0 where
  pub there : written ≤ length l
  pub others : Filled (drop written l)
  pub refused : ¬ (number ≡ 0) → written ≡ 0
