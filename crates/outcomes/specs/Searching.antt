-- The first outcome of a move that does not join, and how many are passed over: the walk over the choices, wait by wait.
use Rattle.std.specs.Prelude.{◌≡◌, ℕ, ◌+◌, ◌<◌, ◌≤◌, List, ◌++◌, map, T}
use Rattle.std.specs.Prelude as code
use Rattle.rules.specs.declared.Board.{Board}
use Rattle.rules.specs.declared.Player.{Player}
use Rattle.rules.specs.declared.Verdict.{Verdict}
use Rattle.rules.specs.declared.Verdict.TheVariants.{NotJoined}
use Rattle.rules.specs.Sizes.{most_outcomes}
use Rattle.rules.specs.Board.{is_cell}
use Rattle.rules.specs.Tree.{Waits, no_waits, wait, Moves, stone}
use Rattle.rules.specs.Outcomes.{count_of_waits, outcomes_of_waits}
use Rattle.rules.specs.Passing.{passed_from, UnlikeWaits}
use Rattle.rules.specs.Reading.{Result, got, refused}
use Rattle.rules.specs.Answer.{as_result}
use Rattle.rules.specs.Entries.{◌>>=◌, refuse_unjoined}
use Rattle.cells.specs.Cells.{Holds}
use Rattle.nodes.specs.Nodes.{Nodes, Kind, other, a_wait, a_move, size, count_of, nodes_of_waits, nodes_of_moves}
use Rattle.nodes.specs.Table.{cell_in, WeighedRow, WeighedOn, Each, At}

-- a move's cell is one of the board, a wait's is 0
abbrev pub CellOf : Kind → Board → ℕ → Type 0
CellOf a_move b c = T (is_cell b c)
CellOf a_wait b c = c ≡ 0

-- a node of waits is weighed, has its cell, and at least one outcome
pub record Seated (b : Board) (t : List ℕ) (k : Kind) (i c : ℕ) (u : Nodes) : Type 0 where
  pub weight : WeighedRow t k i c u
  pub on : CellOf k b c
  pub some : 1 ≤ count_of (other k) u

-- what stands from node i up to the end: the waits ws that are left, and between them moves that are passed over
pub data Ahead (b : Board) (t : List ℕ) (end : ℕ) : ℕ → Waits → Type 0 where
  no_more : {i : ℕ} → i ≡ end → Ahead b t end i no_waits
  wait_ahead : {i line : ℕ} {ms : Moves} {ws : Waits} → At (Seated b t) a_wait i 0 (nodes_of_moves ms) → Ahead b t end (i + 1 + size (nodes_of_moves ms)) ws
      → Ahead b t end i (wait line ms ws)
  move_past : {i c : ℕ} (us : Waits) {ws : Waits} → At (Seated b t) a_move i c (nodes_of_waits us) → Ahead b t end (i + 1 + size (nodes_of_waits us)) ws → Ahead b t end i ws

abbrev pub SomeAhead : List ℕ → (end i : ℕ) → Type 0
SomeAhead t end i = (b : Board) × (ws : Waits) × Ahead b t end i ws

-- node r is the first of these waits, or the end
pub record WaitNext (b : Board) (t : List ℕ) (end i r : ℕ) (ws : Waits) : Type 0 where
  pub ahead : Ahead b t end r ws
  pub on : i ≤ r
  pub is_wait_lem : r < end → cell_in t r ≡ 0

-- the waits ws are left from node i on, with moves on lines of their own; their outcomes are so many, and the first has the number
pub record Going (b : Board) (t : List ℕ) (end i many number : ℕ) (ws : Waits) : Type 0 where
  pub ahead : Ahead b t end i ws
  pub unlike : UnlikeWaits ws
  pub many_are : many ≡ count_of_waits ws
  pub few : number + many ≤ most_outcomes

abbrev pub SomeGoing : Board → List ℕ → (end i many number : ℕ) → Type 0
SomeGoing b t end i many number = (ws : Waits) × Going b t end i many number ws

-- the outcomes that go on from the cells xs by those of the waits
abbrev pub going_on : List ℕ → List (List ℕ) → List (List ℕ)
going_on xs os = map (λ o. xs ++ o) os

-- what is to be answered of them by the waits ws: 13 at the first that does not join, or how many are passed over
unfoldable pub walked : Board → Player → (number : ℕ) → List ℕ → Waits → Result ℕ
walked b p number xs ws = do
  _ ← refuse_unjoined b p number (going_on xs (outcomes_of_waits ws))
  got (passed_from b p xs ws)

-- what the answer stands for: how many were passed over, or 13
abbrev pub answer_of : code.Result ℕ Verdict → Result ℕ
answer_of = as_result (λ passed. passed)

-- the same of a search, which tells the number of the outcome alone
abbrev pub found_as : code.Result ℕ ℕ → Result ℕ
found_as (code.Ok passed) = got passed
found_as (code.Err number) = refused (NotJoined number)

-- the answer is right whatever waits are left, and whatever cells the set has
abbrev pub SearchFound : Board → Player → List ℕ → (end i many number : ℕ) → List ℕ → code.Result ℕ ℕ → Type 0
SearchFound b p t end i many number rows r =
    (ws : Waits) (xs : List ℕ) → Going b t end i many number ws → Holds b rows xs → walked b p number xs ws ≡ found_as r

-- a move with the cell c and the waits ws stands weighed at node i, with moves on lines of their own under it, and has not too many
-- outcomes
pub record Countable (b : Board) (t : List ℕ) (i c : ℕ) (ws : Waits) : Type 0 where
  pub at : At (WeighedOn b t) a_move i c (nodes_of_waits ws)
  pub seated : Each (Seated b t) a_wait (i + 1) (nodes_of_waits ws)
  pub unlike : UnlikeWaits ws
  pub few : count_of_waits ws ≤ most_outcomes

abbrev pub SomeCountable : Board → List ℕ → ℕ → Type 0
SomeCountable b t i = (c : ℕ) × (ws : Waits) × Countable b t i c ws

-- the answer is right whatever move stands there, and whatever cells the set has
abbrev pub UnjoinedFound : Board → Player → List ℕ → ℕ → List ℕ → code.Result ℕ Verdict → Type 0
UnjoinedFound b p t i rows r =
    (c : ℕ) (ws : Waits) (xs : List ℕ) → Countable b t i c ws → Holds b rows xs → walked b p 0 (xs ++ stone c) ws ≡ answer_of r
