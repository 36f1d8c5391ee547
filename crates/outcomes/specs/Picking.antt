-- What picking the outcome with a number asks for and answers.
use Rattle.std.specs.Prelude.{◌≡◌, ℕ, ◌<◌, ◌≤◌, ◌||◌, List, [], ◌++◌, get_or}
use Rattle.rules.specs.declared.Board.{Board}
use Rattle.rules.specs.Sizes.{most_outcomes}
use Rattle.rules.specs.Words.{among}
use Rattle.rules.specs.Tree.{Waits, Moves, stone}
use Rattle.rules.specs.Outcomes.{count_of_waits, count_of_moves, outcomes_of_waits, outcomes_of_moves}
use Rattle.cells.specs.Cells.{held}
use Rattle.nodes.specs.Nodes.{a_wait, a_move, nodes_of_waits, nodes_of_moves}
use Rattle.nodes.specs.Table.{WeighedOn, At}

-- the number is one of an outcome, and there are not too many outcomes
pub record Number (number count : ℕ) : Type 0 where
  pub below : number < count
  pub few : count ≤ most_outcomes

-- a move with the cell c and the waits ws stands weighed at node i, and has an outcome with this number
pub record MovePick (b : Board) (t : List ℕ) (i number c : ℕ) (ws : Waits) : Type 0 where
  pub at : At (WeighedOn b t) a_move i c (nodes_of_waits ws)
  pub numbered : Number number (count_of_waits ws)

-- a wait with the moves ms stands weighed at node i, and has an outcome with this number
pub record WaitPick (b : Board) (t : List ℕ) (i number : ℕ) (ms : Moves) : Type 0 where
  pub at : At (WeighedOn b t) a_wait i 0 (nodes_of_moves ms)
  pub numbered : Number number (count_of_moves ms)

-- some such move, and some such wait
abbrev pub SomeMovePick : Board → List ℕ → (i number : ℕ) → Type 0
SomeMovePick b t i number = (c : ℕ) × (ws : Waits) × MovePick b t i number c ws

abbrev pub SomeWaitPick : Board → List ℕ → (i number : ℕ) → Type 0
SomeWaitPick b t i number = (ms : Moves) × WaitPick b t i number ms

-- these cells are added to a set
pub record Adds (b : Board) (before after new : List ℕ) : Type 0 where
  pub held_are : (x : ℕ) → held b after x ≡ (held b before x || among new x)

-- the cells of the outcome are added, whatever move, or wait, stands there
abbrev pub MovePicked : Board → List ℕ → (i number : ℕ) → (before after : List ℕ) → Type 0
MovePicked b t i number before after = (c : ℕ) (ws : Waits) → MovePick b t i number c ws → Adds b before after (stone c ++ get_or (outcomes_of_waits ws) number [])

abbrev pub WaitPicked : Board → List ℕ → (i number : ℕ) → (before after : List ℕ) → Type 0
WaitPicked b t i number before after = (ms : Moves) → WaitPick b t i number ms → Adds b before after (get_or (outcomes_of_moves ms) number [])
