-- The nodes of a held sheet counted, and its moves among them.
use Rattle.std.specs.List.{filter, range_with_len}
use mathlib.Core.Path.{◌≡◌, refl, ap, ◌∙◌}
use mathlib.Core.Bool.{Bool, true, false}
use mathlib.Core.List.{List}
use Prim.Native.Nat.{ℕ, suc, ◌+◌, ◌*◌, ◌<◌}
use native.Mathlib.Omega.{arith}
use lib.ListN.{length}
use Rattle.rules.specs.declared.Board.{Board}
use Rattle.rules.specs.Tree.{Move, Sheet, every_move, move_count, every_wait, wait_count}
use Rattle.rules.proofs.WellRead.{nodes_of_waits_lem}
use Rattle.nodes.specs.Table.{end_in, is_move_at}
use Rattle.nodes.specs.Order.{TreeNode, is_move, is_wait, moves_among}
use Rattle.nodes.specs.Sheets.{HoldsSheet}
use Rattle.nodes.proofs.Order.{waits_length, moves_of_waits_lem}
use Rattle.nodes.proofs.Sheets.{sheet_end}
use Rattle.nodes.proofs.Trees.{waits_size}
use Rattle.fair.specs.Faults.{NodeAt}
use Rattle.fair.proofs.WhichKind.{of_move, of_wait}
use Rattle.fair.proofs.Laid.{Laid, laid_end, laid_node, tree_of, sheet_laid}

-- the test of a node tells its kind
abbrev is_a_move : TreeNode → Bool
is_a_move (is_move m) = true
is_a_move (is_wait w) = false

kind_told : {b : Board} {t : List ℕ} {i : ℕ} (n : TreeNode) → NodeAt b t i n → (test : Bool) → is_move_at t i ≡ test → test ≡ is_a_move n
kind_told n a true e = of_move e (λ k. true ≡ is_a_move k) (λ m at. refl) n a
kind_told n a false e = of_wait e (λ k. false ≡ is_a_move k) (λ w at g. refl) n a

-- so it passes the moves among nodes that stand one after another
moves_passed : {b : Board} {t : List ℕ} {first i : ℕ} {ns : List TreeNode} → Laid b t first i ns → length (filter (is_move_at t) (range_with_len i (length ns))) ≡ length (moves_among ns)
unfolding moves_among
moves_passed laid_end = refl
moves_passed (laid_node {n = is_move m} a l o) = rw (kind_told _ a _ refl) (ap suc (moves_passed o))
moves_passed (laid_node {n = is_wait w} a l o) = rw (kind_told _ a _ refl) (moves_passed o)

module _ {t : List ℕ} {b : Board} {s : Sheet} (h : HoldsSheet t b s) where
  -- nodes that are no moves are waits
  pub sheet_waits : end_in t 0 ≡ move_count s + wait_count s
  unfolding move_count wait_count every_move every_wait
  sheet_waits = omega (arith, sheet_end h, waits_size s.root.waits, nodes_of_waits_lem s.root.waits)

  -- each has its row in the table
  pub node_room : {i end : ℕ} → end ≡ end_in t 0 → i < end → 4 * i + 3 < length t
  node_room e p = omega (arith, e, p, sheet_waits, h.well.few_nodes, h.long)

  pub moves_counted : {end : ℕ} → end ≡ end_in t 0 → length (filter (is_move_at t) (range_with_len 0 end)) ≡ move_count s
  unfolding move_count every_move moves_among
  moves_counted {end} e =
      let all : end ≡ length (tree_of s) = omega (arith, e, sheet_end h, waits_length s.root.waits) in
      rw all (moves_passed (sheet_laid s h)) ∙ ap (λ (ms : List Move). suc (length ms)) (moves_of_waits_lem s.root.waits)
