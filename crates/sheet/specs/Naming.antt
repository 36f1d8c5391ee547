-- What the steps of outcome promise.
use Rattle.std.specs.Prelude.{◌≡◌, ℕ, ◌<◌, ◌≤◌, not, List, ltb, length}
use Rattle.std.specs.Prelude as code
use Rattle.rules.specs.Sizes.{most_outcomes}
use Rattle.rules.specs.Tree.{Sheet, own_cells}
use Rattle.rules.specs.Reading.{Result, got}
use Rattle.rules.specs.Outcomes.{outcome_count}
use Rattle.rules.specs.Entries.{◌>>=◌, refuse_if, fair, outcome_cells, OutcomeReply, outcome_shown, room_after}
use Rattle.rules.specs.declared.Board.{Board}
use Rattle.rules.specs.declared.Named.{Named}
use Rattle.rules.specs.declared.Verdict.{Verdict}
use Rattle.rules.specs.declared.Verdict.TheVariants.{Done, NoSuchOutcome, ShortRoom}
use Rattle.cells.specs.Cells.{Holds}
use Rattle.nodes.specs.Sheets.{HoldsLiving}

-- 14, or the cells of an outcome
unfoldable pub listing : Sheet → (number room : ℕ) → Result (List ℕ)
listing s i room = do
  _ ← refuse_if (ltb room (length (outcome_cells s i))) ShortRoom
  got (outcome_cells s i)

-- 20, 10, 24, 11, 12, 18, and then that
unfoldable pub naming : Sheet → (number room : ℕ) → Result (List ℕ)
naming s i room = do
  s ← fair s
  _ ← refuse_if (not (ltb i (outcome_count s))) NoSuchOutcome
  listing s i room

-- the table holds a sheet without its moves that aren't live, which has an outcome with the number, and not too many, and the set its own
-- set-up stones
pub record HasOutcome (t : List ℕ) (b : Board) (own : List ℕ) (s : Sheet) (number : ℕ) : Type 0 where
  pub holds : HoldsLiving t b s
  pub own_held : Holds b own (own_cells s.set_up)
  pub few : outcome_count s ≤ most_outcomes
  pub numbered : number < outcome_count s

pub record SomeOutcome (t : List ℕ) (b : Board) (own : List ℕ) (number : ℕ) : Type 0 where
  pub sheet : Sheet
  pub has : HasOutcome t b own sheet number

-- an answer as outcome returns it: on a refusal no cells
abbrev pub as_named : code.Result ℕ Verdict → Named
as_named (code.Ok n) = record { verdict = Done; cells = n }
as_named (code.Err v) = record { verdict = v; cells = 0 }

-- the reply that is handed back, and the room after it
pub record NamedKept (o : OutcomeReply) (room : List ℕ) (r : Named) (room' : List ℕ) : Type 0 where
  pub reply_is : r ≡ outcome_shown o
  pub room_is : room' ≡ room_after o.cells room
