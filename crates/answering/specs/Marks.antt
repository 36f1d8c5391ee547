-- The open waits as the table has them: a node's count is 1 at an open wait, and 0 at every other node.
use Rattle.std.specs.Prelude.{◌≡◌, ◌≢◌, ℕ, ◌+◌, ◌*◌, ◌<◌, ◌≤◌, List, length, Option, MatchOption}
use Rattle.rules.specs.Tree.{Waits, no_waits, wait, Moves}
use Rattle.rules.specs.declared.Board.{Board}
use Rattle.nodes.specs.Nodes.{a_wait, size, nodes_of_moves}
use Rattle.nodes.specs.Table.{count_in, end_in, At}
use Rattle.answering.specs.Rows.{EndedOn, Clear, LinedMoves}

-- the wait at node j is open, and no node under it is
pub record OpenWait (f : ℕ) (b : Board) (t : List ℕ) (j line : ℕ) (ms : Moves) : Type 0 where
  pub mark : count_in t j ≡ 1
  pub at : At (EndedOn b t) a_wait j 0 (nodes_of_moves ms)
  pub clear : Clear t (j + 1) (j + 1 + size (nodes_of_moves ms))
  pub line_is : line ≡ j + f
  pub lined : LinedMoves f (j + 1) ms

-- the open waits among the nodes from i up to n, in the order of their lines
pub data Open (f : ℕ) (b : Board) (t : List ℕ) (n : ℕ) : ℕ → Waits → Type 0 where
  none_open : {i : ℕ} → i ≤ n → Clear t i n → Open f b t n i no_waits
  open_at : {i line : ℕ} {ms : Moves} {ws : Waits} (j : ℕ) → i ≤ j → Clear t i j → OpenWait f b t j line ms
      → Open f b t n (j + 1 + size (nodes_of_moves ms)) ws → Open f b t n i (wait line ms ws)

-- these waits of the table are open
pub record Opens (f : ℕ) (b : Board) (t : List ℕ) (ws : Waits) : Type 0 where
  pub room : 3 < length t
  pub within : 4 * end_in t 0 ≤ length t
  pub root : count_in t 0 ≡ 0
  pub marks : Open f b t (end_in t 0) 1 ws

-- some waits are open, whatever the board
pub record SomeOpen (t : List ℕ) : Type 0 where
  pub first : ℕ
  pub board : Board
  pub waits : Waits
  pub are_open : Opens first board t waits

-- the first node from `from` on that is marked as an open wait, if there is one before the end of the root
abbrev pub FirstOpen : List ℕ → (from : ℕ) → Option ℕ → Type 0
FirstOpen t from r =
    MatchOption r ((k : ℕ) → from ≤ k → k < end_in t 0 → count_in t k ≢ 1)
    (λ i. (from ≤ i) × (i < end_in t 0) × (count_in t i ≡ 1) × ((k : ℕ) → from ≤ k → k < i → count_in t k ≢ 1))
