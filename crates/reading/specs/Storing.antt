-- Reading into the table: what the reading of rules comes to without its tree, and the table after it, refused or not.
use Rattle.std.specs.Prelude.{ℕ, zero, suc, List}
use Rattle.rules.specs.Lines.{reader_of, kind_under}
use Rattle.rules.specs.Reading.{Result, refused, got, Spot, Node, node_line}
use Rattle.rules.specs.declared.Board.{Board}
use Rattle.nodes.specs.Table.{with_node}
use Rattle.rules.specs.declared.LineKind.{LineKind}

-- the spot after what was read, or the refusal; and the table
pub record Stored : Type 0 where
  pub reply : Result Spot
  pub table : List ℕ

-- one node after another, each with all under it
unfoldable pub store_all : ℕ → (Spot → List ℕ → Stored) → Spot → List ℕ → Stored
store_all zero one s t = record { reply = got s; table = t }
store_all (suc n) one s t =
    elim (one s t).reply [ refused v ↦ record { reply = refused v; table = (one s t).table } | got u ↦ store_all n one u (one s t).table ]

-- the nodes under a line that was read, after the line is stored
unfoldable pub store_under : (Spot → List ℕ → Stored) → Spot → List ℕ → Result (Node × Spot) → Stored
store_under one s t (refused v) = record { reply = refused v; table = t }
store_under one s t (got x) = store_all x.0.under one x.1 (with_node t s.nodes x.0.cell x.0.under)

-- a node of the kind with all under it, where so many levels are left, its own among them
unfoldable pub store_node : (levels : ℕ) → LineKind → Board → Spot → List ℕ → Stored
store_node zero k b s t = store_under (λ u v. record { reply = got u; table = v }) s t (node_line b (reader_of k) zero s)
store_node (suc levels) k b s t = store_under (store_node levels (kind_under k) b) s t (node_line b (reader_of k) (suc levels) s)
