-- How a choice is written down: one of the open waits, and a move under it.
use Rattle.std.specs.Prelude.{ℕ, Bool, cond}
use Rattle.std.proofs.Math.Option.{Option, none, some, map}
use Rattle.rules.specs.Tree.{Waits, no_waits, wait, Moves, no_moves, move, and_then}

-- one of several: the first, or one later
pub data OneOf (First Later : Type 0) : Type 0 where
  the_first : First → OneOf First Later
  one_later : Later → OneOf First Later

-- A place among the moves of a wait; the cell of the move there, and the waits under it
abbrev pub PlaceIn : Moves → Type 0
PlaceIn no_moves = ⊥
PlaceIn (move line c ws ms) = OneOf (Unit {0}) (PlaceIn ms)

abbrev pub cell_there : (ms : Moves) → PlaceIn ms → ℕ
cell_there no_moves p = absurd p
cell_there (move line c ws ms) (the_first u) = c
cell_there (move line c ws ms) (one_later p) = cell_there ms p

abbrev pub waits_there : (ms : Moves) → PlaceIn ms → Waits
waits_there no_moves p = absurd p
waits_there (move line c ws ms) (the_first u) = ws
waits_there (move line c ws ms) (one_later p) = waits_there ms p

-- A choice: one of the open waits, and a move under it
abbrev pub Choice : Waits → Type 0
Choice no_waits = ⊥
Choice (wait line ms ws) = OneOf (PlaceIn ms) (Choice ws)

-- the cell of the chosen move
abbrev pub taken : (ws : Waits) → Choice ws → ℕ
taken no_waits k = absurd k
taken (wait line ms ws) (the_first p) = cell_there ms p
taken (wait line ms ws) (one_later k) = taken ws k

-- the open waits after it: its wait closes, and the waits under its move open. (They open in its place, so that the order of lines stays.)
abbrev pub opened : (ws : Waits) → Choice ws → Waits
opened no_waits k = absurd k
opened (wait line ms ws) (the_first p) = and_then (waits_there ms p) ws
opened (wait line ms ws) (one_later k) = wait line ms (opened ws k)

-- The first move that passes a test, and such a move under the first wait that passes a test
abbrev pub first_move : (ℕ → Waits → Bool) → (ms : Moves) → Option (PlaceIn ms)
first_move test no_moves = none
first_move test (move line c ws ms) = cond (test c ws) (some (the_first tt)) (map one_later (first_move test ms))

abbrev pub first_under : (ℕ → Moves → Bool) → (ℕ → Waits → Bool) → (ws : Waits) → Option (Choice ws)
first_under which test no_waits = none
first_under which test (wait line ms ws) =
    cond (which line ms) (map the_first (first_move test ms)) (map one_later (first_under which test ws))
