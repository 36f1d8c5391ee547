-- Document 02, C-16: live moves, the tree without the others, and how many the others are.
use Rattle.std.specs.Prelude.{ℕ, ◌+◌, Bool, true, not, cond, List, [], ◌∷◌, ◌++◌}
use Rattle.std.proofs.Math.Option.{Option, none, some}
use Rattle.rules.specs.Words.{keep, any, total, one_if}
use Rattle.rules.specs.Tree.{Waits, no_waits, wait, Moves, no_moves, move, Wait, Sheet, every_wait}
use Rattle.rules.specs.Fair.{in_move}

-- the cells of nodes, as a list
unfoldable mutual
  pub cells_of_waits : Waits → List ℕ
  cells_of_waits no_waits = []
  cells_of_waits (wait line ms ws) = cells_of_moves ms ++ cells_of_waits ws

  pub cells_of_moves : Moves → List ℕ
  cells_of_moves no_moves = []
  cells_of_moves (move line c ws ms) = (c ∷ cells_of_waits ws) ++ cells_of_moves ms

-- the cells common to all moves before one, live or not; none where there is no move before it
abbrev pub Shared : Type 0
Shared = Option (List ℕ)

-- with one move more
unfoldable pub and_this : Shared → (c : ℕ) → Waits → Shared
and_this none c ws = some (c ∷ cells_of_waits ws)
and_this (some xs) c ws = some (keep (in_move c ws) xs)

-- "Call a move live if it is the root or the first under its wait, or if some cell common to all moves before it isn't in it."
-- (proofs/Live: `live_exactly`)
unfoldable pub is_live : Shared → (c : ℕ) → Waits → Bool
is_live none c ws = true
is_live (some xs) c ws = any (λ x. not (in_move c ws x)) xs

-- the tree without the moves that aren't live
unfoldable mutual
  pub living : Waits → Waits
  living no_waits = no_waits
  living (wait line ms ws) = wait line (living_after none ms) (living ws)

  pub living_after : Shared → Moves → Moves
  living_after before no_moves = no_moves
  living_after before (move line c ws ms) =
      cond (is_live before c ws) (move line c (living ws) (living_after (and_this before c ws) ms)) (living_after (and_this before c ws) ms)

-- how many of these moves of a wait aren't live, given the moves before them; and how many moves of the sheet, wherever they stand
unfoldable pub idle_under : Shared → Moves → ℕ
idle_under before no_moves = 0
idle_under before (move line c ws ms) = one_if (not (is_live before c ws)) + idle_under (and_this before c ws) ms

abbrev pub idle_at : Wait → ℕ
idle_at w = idle_under none w.moves

unfoldable pub idle_count : Sheet → ℕ
idle_count s = total idle_at (every_wait s)
