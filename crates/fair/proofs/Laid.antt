-- The nodes of a held sheet, in the order of their lines, are the nodes of the table from 0 on, each on its line.
use mathlib.Core.Path.{◌≡◌, refl, ap, ap₂, subst, ◌∙◌}
use mathlib.Core.Logic.{◌≢◌}
use Prim.Native.Nat.{ℕ, zero, suc, ◌+◌, ◌≤◌}
use native.Mathlib.Omega.{arith}
use mathlib.Core.List.{List, [], ◌∷◌, ◌++◌, map, map-append}
use Rattle.rules.specs.declared.Board.{Board}
use Rattle.rules.specs.Words.{◌∈◌, at_head, in_tail}
use Rattle.rules.specs.Tree.{Waits, no_waits, wait, Moves, no_moves, move, Wait, Move, Sheet, every_wait, move_count, wait_count}
use Rattle.rules.specs.Plain.{lines_of_waits, lines_of_moves, lines_of, up_from}
use Rattle.rules.proofs.Places.{cell_range}
use Rattle.nodes.specs.Table.{WeighedOn}
use Rattle.nodes.specs.Order.{TreeNode, is_move, in_order_waits, in_order_moves, moves_among, waits_among, InOrder, at_end, at_move, at_wait}
use Rattle.nodes.specs.Sheets.{HoldsSheet}
use Rattle.nodes.proofs.Order.{move_in_order, moves_of_waits_lem, waits_of_waits_lem}
use Rattle.nodes.proofs.Sheets.{sheet_weighed, sheet_cells}
use Rattle.fair.specs.Faults.{line_of, NodeAt, move_at, wait_at}

-- the tree's nodes stand from node i on, each on its line
pub data Laid (b : Board) (t : List ℕ) (first : ℕ) : ℕ → List TreeNode → Type 0 where
  laid_end : {i : ℕ} → Laid b t first i []
  laid_node : {i : ℕ} {n : TreeNode} {ns : List TreeNode} → NodeAt b t i n → line_of n ≡ i + first → Laid b t first (i + 1) ns → Laid b t first i (n ∷ ns)

-- the lines of the nodes are those that rules lists
mutual
  unfolding in_order_waits lines_of_waits

  pub waits_lines : (ws : Waits) → map line_of (in_order_waits ws) ≡ lines_of_waits ws
  waits_lines no_waits = refl
  waits_lines (wait line ms ws) =
      ap (λ (l : List ℕ). line ∷ l) (map-append line_of (in_order_moves ms) (in_order_waits ws) ∙ ap₂ (λ (a b : List ℕ). a ++ b) (moves_lines ms) (waits_lines ws))

  pub moves_lines : (ms : Moves) → map line_of (in_order_moves ms) ≡ lines_of_moves ms
  moves_lines no_moves = refl
  moves_lines (move line c ws ms) =
      ap (λ (l : List ℕ). line ∷ l) (map-append line_of (in_order_waits ws) (in_order_moves ms) ∙ ap₂ (λ (a b : List ℕ). a ++ b) (waits_lines ws) (moves_lines ms))

-- the first of lines in order, and the others
record FirstLine (first i l : ℕ) (ls : List ℕ) : Type 0 where
  here : l ≡ i + first
  many : ℕ
  others : ls ≡ up_from (i + 1 + first) many

first_line_lem : (first i n l : ℕ) (ls : List ℕ) → (l ∷ ls) ≡ up_from (i + first) n → FirstLine first i l ls
unfolding up_from
first_line_lem first i zero l ls e = absurd (let z : ◌≡◌ {A = ℕ} 0 1 = cc in omega arith)
first_line_lem first i (suc n) l ls e =
    let others : ls ≡ up_from (suc (i + first)) n = cc in
    let same : suc (i + first) ≡ i + 1 + first = omega arith in
    record { here = cc; many = n; others = others ∙ ap (λ (k : ℕ). up_from k n) same }

-- below the root moves have cells, and waits have moves
laid_from : {b : Board} {t : List ℕ} {i : ℕ} {ns : List TreeNode} (first n : ℕ) → 1 ≤ i → InOrder (WeighedOn b t) i ns → map line_of ns ≡ up_from (i + first) n
    → ((m : Move) → m ∈ moves_among ns → 1 ≤ m.cell) → ((w : Wait) → w ∈ waits_among ns → w.moves ≢ no_moves) → Laid b t first i ns
unfolding moves_among waits_among
laid_from first n p at_end e f g = laid_end
laid_from first n p (at_move a o) e f g =
    let l = first_line_lem first _ n _ _ e in
    laid_node (move_at a (λ _. f _ at_head)) l.here (laid_from first l.many (omega arith) o l.others (λ m h. f m (in_tail h)) g)
laid_from first n p (at_wait a o) e f g =
    let l = first_line_lem first _ n _ _ e in
    laid_node (wait_at a p (g _ at_head)) l.here (laid_from first l.many (omega arith) o l.others f (λ w h. g w (in_tail h)))

-- of a held sheet
abbrev pub tree_of : Sheet → List TreeNode
tree_of s = is_move s.root ∷ in_order_waits s.root.waits

pub sheet_laid : {t : List ℕ} {b : Board} (s : Sheet) → HoldsSheet t b s → Laid b t s.root.line 0 (tree_of s)
unfolding lines_of every_wait
sheet_laid {t} {b} s h = go (move_in_order s.root 0 (sheet_weighed h))
  where
    go : InOrder (WeighedOn b t) 0 (tree_of s) → Laid b t s.root.line 0 (tree_of s)
    go (at_move a o) =
        let from : s.root.line ≡ 0 + s.root.line = omega arith in
        let l =
        first_line_lem s.root.line 0 _ _ _
        (ap (λ (ls : List ℕ). s.root.line ∷ ls) (waits_lines s.root.waits) ∙ h.well.in_order
        ∙ ap (λ (n : ℕ). up_from n (move_count s + wait_count s)) from) in
        laid_node (move_at a (λ p. absurd (omega arith))) l.here
        (laid_from s.root.line l.many (omega arith) o l.others
        (λ m k. (cell_range b m.cell (sheet_cells h m (subst (λ (l : List Move). m ∈ l) (moves_of_waits_lem s.root.waits) k))).0)
        (λ w k. h.well.some_moves w (subst (λ (l : List Wait). w ∈ l) (waits_of_waits_lem s.root.waits) k)))
