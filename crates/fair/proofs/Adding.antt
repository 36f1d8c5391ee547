-- A loop over the nodes of a held sheet that adds up what each gives.
use mathlib.Core.Path.{◌≡◌}
use mathlib.Core.List.{List, [], ◌∷◌}
use Prim.Native.Nat.{ℕ, ◌+◌, ◌≤◌, ◌<◌}
use native.Mathlib.Omega.{arith}
use lib.ListN.{length}
use Rattle.rules.specs.declared.Board.{Board}
use Rattle.rules.specs.Words.{total}
use Rattle.rules.specs.Tree.{Sheet}
use Rattle.nodes.specs.Table.{end_in}
use Rattle.nodes.specs.Order.{TreeNode}
use Rattle.nodes.specs.Sheets.{HoldsSheet}
use Rattle.nodes.proofs.Order.{waits_length}
use Rattle.nodes.proofs.Sheets.{sheet_end}
use Rattle.fair.specs.Faults.{NodeAt, SomeTreeNode}
use Rattle.fair.proofs.Laid.{Laid, laid_node, tree_of, sheet_laid}

-- what is added up: what each node gives, and the sum
pub record Sum : Type 1 where
  pub gives : TreeNode → ℕ
  pub all : Sheet → ℕ
  pub is_all : (s : Sheet) → all s ≡ total gives (tree_of s)

module _ (S : Sum) where
  -- so much was added up before node i; the other nodes stand from there on
  pub record Rest (b : Board) (t : List ℕ) (i end sum : ℕ) (s : Sheet) : Type 0 where
    pub rest : List TreeNode
    pub laid : Laid b t s.root.line i rest
    pub to_end : i + length rest ≡ end
    pub added : sum + total S.gives rest ≡ S.all s

  pub record Adding (b : Board) (t : List ℕ) (i end sum : ℕ) : Type 0 where
    pub so_far : i ≤ end
    pub rests : (s : Sheet) → HoldsSheet t b s → Rest b t i end sum s

  pub adding_starts : (b : Board) (t : List ℕ) (end : ℕ) → end ≡ end_in t 0 → Adding b t 0 end 0
  adding_starts b t end e =
      record {
        so_far = omega arith;
        rests =
            λ s h.
            record {
              rest = tree_of s;
              laid = sheet_laid s h;
              to_end = omega (arith, e, sheet_end h, waits_length s.root.waits);
              added = omega (arith, S.is_all s);
            };
      }

  -- a node is met
  record Met (b : Board) (t : List ℕ) (i end sum : ℕ) (s : Sheet) : Type 0 where
    node : TreeNode
    at : NodeAt b t i node
    others : List TreeNode
    laid : Laid b t s.root.line (i + 1) others
    to_end : i + 1 + length others ≡ end
    added : sum + (S.gives node + total S.gives others) ≡ S.all s

  meet : {b : Board} {t : List ℕ} {i end sum : ℕ} {s : Sheet} → i < end → Rest b t i end sum s → Met b t i end sum s
  unfolding total
  meet {b} {t} {i} {end} {sum} {s} h r = go r.rest r.laid r.to_end r.added
    where
      go : (ns : List TreeNode) → Laid b t s.root.line i ns → i + length ns ≡ end → sum + total S.gives ns ≡ S.all s → Met b t i end sum s
      go [] l e c = absurd (omega arith)
      go (n ∷ ns) (laid_node a line l) e c = record { node = n; at = a; others = ns; laid = l; to_end = omega arith; added = c }

  module _ {b : Board} {t : List ℕ} {i end sum : ℕ} (c : Adding b t i end sum) where
    pub adding_node : i < end → {s : Sheet} → HoldsSheet t b s → SomeTreeNode b t i
    adding_node h {s} k = let m = meet h (c.rests s k) in record { node = m.node; at = m.at }

    -- what it gives is added
    module _ (h : i < end) {x : ℕ} (is : (n : TreeNode) → NodeAt b t i n → x ≡ S.gives n) where
      pub adding_again : Adding b t (i + 1) end (sum + x)
      adding_again =
          record {
            so_far = omega arith;
            rests = λ s k.
                let m = meet h (c.rests s k) in
                record { rest = m.others; laid = m.laid; to_end = m.to_end; added = omega (arith, m.added, is m.node m.at) };
          }

      pub adding_few : (s : Sheet) → HoldsSheet t b s → sum + x ≤ S.all s
      adding_few s k =
          let m = meet h (c.rests s k) in
          omega (arith, m.added, is m.node m.at)

    pub adding_done : end ≤ i → (s : Sheet) → HoldsSheet t b s → sum ≡ S.all s
    unfolding total
    adding_done h s k = go (c.rests s k).rest (c.rests s k).to_end (c.rests s k).added
      where
        go : (ns : List TreeNode) → i + length ns ≡ end → sum + total S.gives ns ≡ S.all s → sum ≡ S.all s
        go [] e q = omega arith
        go (n ∷ ns) e q = absurd (omega arith)
