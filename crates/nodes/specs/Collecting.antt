-- What collecting the cells of a node answers.
use Rattle.std.specs.Prelude.{◌≡◌, ℕ, ◌+◌, ◌≤◌, ◌||◌, List}
use Rattle.rules.specs.declared.Board.{Board}
use Rattle.cells.specs.Cells.{held}
use Rattle.nodes.specs.Nodes.{Nodes, Kind, size, in_node}
use Rattle.nodes.specs.Table.{RowOn, WeighedOn, At}

-- the cells of node i, which has the cell c and the nodes u under it, are added to a set, and the node after all under it is told
pub record Collects (k : Kind) (b : Board) (i c : ℕ) (u : Nodes) (before after : List ℕ) (next : ℕ) : Type 0 where
  pub held_are : (x : ℕ) → 1 ≤ x → held b after x ≡ (held b before x || in_node k c u x)
  pub next_is : next ≡ i + 1 + size u

-- so it is whatever node stands there
abbrev pub CollectsAny : Kind → Board → List ℕ → ℕ → (before after : List ℕ) → (next : ℕ) → Type 0
CollectsAny k b t i before after next = (c : ℕ) (u : Nodes) → At (RowOn b t) k i c u → Collects k b i c u before after next

-- a set has the cells of whatever node stands weighed at node i
abbrev pub CellsAny : Board → List ℕ → ℕ → List ℕ → Type 0
CellsAny b t i rows = (k : Kind) (c : ℕ) (u : Nodes) → At (WeighedOn b t) k i c u → (x : ℕ) → 1 ≤ x → held b rows x ≡ in_node k c u x
