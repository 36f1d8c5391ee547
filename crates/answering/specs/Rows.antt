-- The rows of a held sheet up to their counts, which mark the open waits while a sheet is played.
use Rattle.std.specs.Prelude.{◌≡◌, ℕ, ◌+◌, ◌*◌, ◌<◌, ◌≤◌, List, length, set}
use Rattle.rules.specs.Board.{cells}
use Rattle.rules.specs.Tree.{Waits, no_waits, wait, Moves, no_moves, move}
use Rattle.rules.specs.declared.Board.{Board}
use Rattle.nodes.specs.Nodes.{Nodes, no_nodes, node, Kind, size, nodes_of_waits, nodes_of_moves}
use Rattle.nodes.specs.Table.{cell_in, under_in, end_in, count_in, Row}

-- node i and all nodes under it are in the table
abbrev pub Within : List ℕ → ℕ → Type 0
Within t i = (4 * i + 3 < length t) × (4 * end_in t i ≤ length t)

-- node i has its cell, the number of nodes right under it, and the node after all under it
pub record Ended (t : List ℕ) (k : Kind) (i c : ℕ) (u : Nodes) : Type 0 where
  pub row : Row t k i c u
  pub end : end_in t i ≡ i + 1 + size u

-- besides, its cell is one of the board, or 0
pub record EndedOn (b : Board) (t : List ℕ) (k : Kind) (i c : ℕ) (u : Nodes) : Type 0 where
  pub row : Row t k i c u
  pub end : end_in t i ≡ i + 1 + size u
  pub on : c ≤ cells b

-- two tables that differ in their counts alone
pub record SameRows (t v : List ℕ) : Type 0 where
  pub long : length v ≡ length t
  pub cell : (i : ℕ) → cell_in v i ≡ cell_in t i
  pub under : (i : ℕ) → under_in v i ≡ under_in t i
  pub end : (i : ℕ) → end_in v i ≡ end_in t i

-- and in those of the nodes before the end of the root alone
pub record Remarked (t v : List ℕ) : Type 0 where
  pub rows : SameRows t v
  pub later : (i : ℕ) → end_in t 0 ≤ i → count_in v i ≡ count_in t i

-- the table with the mark of node i stored
abbrev pub with_mark : List ℕ → (i mark : ℕ) → List ℕ
with_mark t i q = set t (4 * i + 3) q

-- the nodes from `from` up to `to` are not marked
pub record Clear (t : List ℕ) (from to : ℕ) : Type 0 where
  pub clear : (i : ℕ) → from ≤ i → i < to → count_in t i ≡ 0

-- the marks of the first n nodes are cleared
pub record Cleared (t : List ℕ) (n : ℕ) (v : List ℕ) : Type 0 where
  pub rows : SameRows t v
  pub clear : Clear v 0 n
  pub later : (i : ℕ) → n ≤ i → count_in v i ≡ count_in t i

-- the nodes side by side from i on are marked
unfoldable pub marked : Nodes → ℕ → List ℕ → List ℕ
marked no_nodes i t = t
marked (node c u a) i t = marked a (i + 1 + size u) (with_mark t i 1)

-- the line of each node is so much past its number as that of the first node, f
unfoldable mutual
  pub LinedWaits : (first : ℕ) → ℕ → Waits → Type 0
  LinedWaits f i no_waits = Unit {0}
  LinedWaits f i (wait line ms ws) = (line ≡ i + f) × LinedMoves f (i + 1) ms × LinedWaits f (i + 1 + size (nodes_of_moves ms)) ws

  pub LinedMoves : (first : ℕ) → ℕ → Moves → Type 0
  LinedMoves f i no_moves = Unit {0}
  LinedMoves f i (move line c ws ms) = (line ≡ i + f) × LinedWaits f (i + 1) ws × LinedMoves f (i + 1 + size (nodes_of_waits ws)) ms

-- the waits u under the root are marked, and no other nodes of the table
pub record Started (t : List ℕ) (u : Nodes) (v : List ℕ) : Type 0 where
  pub table : List ℕ
  pub cleared : Cleared t (end_in t 0) table
  pub opened : v ≡ marked u 1 table
