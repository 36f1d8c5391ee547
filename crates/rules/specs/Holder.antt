-- What the holder may choose, which is more than the answering rule: stronger than document 01 asks.
use Rattle.std.specs.Prelude.{◌≡◌, ◌≢◌, ℕ, suc, ◌≤◌, ◌<◌, Bool, not, ◌&&◌, ◌||◌, T}
use Rattle.std.proofs.Math.Option.{none, some}
use Rattle.rules.specs.Text.{Bytes}
use Rattle.rules.specs.Tree.{Waits, no_waits, wait, Moves, no_moves, move, Sheet, wait_count}
use Rattle.rules.specs.Reading.{got}
use Rattle.rules.specs.Fair.{in_waits, in_moves, in_move, holding}
use Rattle.rules.specs.Live.{Shared, and_this, is_live}
use Rattle.rules.specs.Choice.{PlaceIn, cell_there, waits_there, Choice, the_first, one_later, taken}
use Rattle.rules.specs.Answering.{Game, answer, start, is_over, is_empty, next}
use Rattle.rules.specs.Entries.{accepted}

-- x belongs to the cells of the chosen wait, or of the chosen move
abbrev pub wait_holds : ℕ → (ws : Waits) → Choice ws → Bool
wait_holds x no_waits k = absurd k
wait_holds x (wait line ms ws) (the_first p) = in_moves ms x
wait_holds x (wait line ms ws) (one_later k) = wait_holds x ws k

abbrev pub move_holds : ℕ → (ws : Waits) → Choice ws → Bool
move_holds x no_waits k = absurd k
move_holds x (wait line ms ws) (the_first p) = in_move (cell_there ms p) (waits_there ms p) x
move_holds x (wait line ms ws) (one_later k) = move_holds x ws k

-- the move at the place is live, given the moves before these; and so is the chosen move
unfoldable pub live_there : Shared → (ms : Moves) → PlaceIn ms → Bool
live_there before no_moves p = absurd p
live_there before (move line c ws ms) (the_first u) = is_live before c ws
live_there before (move line c ws ms) (one_later p) = live_there (and_this before c ws) ms p

unfoldable pub live_choice : (ws : Waits) → Choice ws → Bool
live_choice no_waits k = absurd k
live_choice (wait line ms ws) (the_first p) = live_there none ms p
live_choice (wait line ms ws) (one_later k) = live_choice ws k

-- What the holder may answer to x: a live move that does not hold x, under the open wait that holds x or, where none does, under any
unfoldable pub allowed : ℕ → (ws : Waits) → Choice ws → Bool
allowed x ws k = live_choice ws k && (not (move_holds x ws k) && (wait_holds x ws k || not (in_waits ws x)))

-- Games of n rounds from g to h in which the holder takes any allowed move: each opponent move is made before the sides are
-- joined, on a cell empty at that moment
pub data Chosen (s : Sheet) : Game → ℕ → Game → Type 0 where
  no_round : {g : Game} → Chosen s g 0 g
  round : {g h : Game} {n : ℕ} (x : ℕ) (k : Choice g.open_waits) → T (not (is_over s g)) → T (is_empty s g x) → T (allowed x g.open_waits k)
      → Chosen s (next g x k) n h → Chosen s g (suc n) h

-- A game after n rounds: they are no more than the sheet has waits, and fewer until the sides are joined; until then the opponent
-- has an empty cell to move to; and at most one open wait holds a given cell
pub record Covered (s : Sheet) (n : ℕ) (g : Game) : Type 0 where
  pub within : n ≤ wait_count s
  pub not_yet : T (not (is_over s g)) → n < wait_count s
  pub has_cell : T (not (is_over s g)) → (x : ℕ) × T (is_empty s g x)
  pub one_wait : (x : ℕ) → holding g.open_waits x ≤ 1

-- the holder has an allowed choice, the rule's answer, and every allowed choice is a cell that was empty and is not the opponent's
-- new one
pub record HasChoice (s : Sheet) (g : Game) : Type 0 where
  pub offered : T (not (is_over s g)) → (x : ℕ) → T (is_empty s g x)
      → (k : Choice g.open_waits) × (answer x g.open_waits ≡ some k) × T (allowed x g.open_waits k)
  pub to_empty : (x : ℕ) (k : Choice g.open_waits) → T (allowed x g.open_waits k)
      → T (is_empty s g (taken g.open_waits k)) × (taken g.open_waits k ≢ x)

-- Demand 3, whatever allowed moves the holder takes
abbrev pub Demand3Chosen : Type 0
Demand3Chosen = (workspace : ℕ) (t : Bytes) (s : Sheet) → accepted workspace t ≡ got s → (n : ℕ) (g : Game) → Chosen s (start s) n g
    → Covered s n g × HasChoice s g
