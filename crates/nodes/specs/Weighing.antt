-- The table with the ends and the counts stored, and what weighing a node answers.
use Rattle.std.specs.Prelude.{◌≡◌, ℕ, ◌+◌, List}
use Rattle.nodes.specs.Nodes.{Nodes, no_nodes, node, alone, Kind, other, size, count_of, limited}
use Rattle.nodes.specs.Table.{with_weight, Row, At}

-- the table t with the end and the count of node i, which has the nodes u under it
abbrev pub with_own : Kind → Nodes → ℕ → List ℕ → List ℕ
with_own k u i t = with_weight t i (i + 1 + size u) (limited (count_of (other k) u))

-- the table t after the nodes from number i on are weighed, each after all under it
unfoldable pub weighed : Kind → Nodes → ℕ → List ℕ → List ℕ
weighed k no_nodes i t = t
weighed k (node c u a) i t = weighed k a (i + 1 + size u) (with_own k u i (weighed (other k) u (i + 1) t))

-- node i, with its cell and the nodes under it, is weighed: its number of outcomes, the node after all under it, and the table
pub record Weighs (k : Kind) (t : List ℕ) (i c : ℕ) (u : Nodes) (count next : ℕ) (out : List ℕ) : Type 0 where
  pub count_is : count ≡ limited (count_of (other k) u)
  pub next_is : next ≡ i + 1 + size u
  pub table_is : out ≡ weighed k (alone c u) i t

-- so it is whatever node stands there
abbrev pub WeighsAny : Kind → List ℕ → ℕ → (count next : ℕ) → List ℕ → Type 0
WeighsAny k t i count next out = (c : ℕ) (u : Nodes) → At (Row t) k i c u → Weighs k t i c u count next out
