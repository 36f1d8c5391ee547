-- A held sheet: its tree stands in the table on its board, and where it ends.
use mathlib.Core.Path.{◌≡◌, ap, ◌∙◌, subst, subst⁻¹}
use mathlib.Core.Logic.{◌≢◌, ◌⊎◌}
use Prim.Native.Nat.{ℕ, suc}
use native.Mathlib.Omega.{arith}
use mathlib.Core.List.{List}
use lib.Dec.{T}
use Rattle.rules.specs.declared.Board.{Board}
use Rattle.rules.specs.Board.{is_cell}
use Rattle.rules.specs.Words.{◌∈◌}
use Rattle.rules.specs.Tree.{Waits, no_moves, Wait, Move, Sheet, moves_of_waits, waits_of_waits, every_wait}
use Rattle.rules.specs.Live.{living, idle_count}
use Rattle.rules.specs.Outcomes.{outcome_count}
use Rattle.rules.proofs.Living.{living_cells, living_some, none_idle}
use Rattle.cells.proofs.Places.{size_fits}
use Rattle.cells.specs.Cells.{Fits}
use Rattle.nodes.specs.Nodes.{a_move, nodes_of_waits, size, limited}
use Rattle.nodes.specs.Table.{end_in, count_in, Row, RowOn, WeighedOn, At}
use Rattle.nodes.specs.Sheets.{HoldsTree, HoldsSheet, HoldsLiving}
use Rattle.nodes.proofs.Table.{stand_of_weighed, weighed_on_at}
use Rattle.nodes.proofs.Trees.{waits_count, root_on_board}

-- whatever waits of the root stand there
module _ {t : List ℕ} {b : Board} {s : Sheet} {ws : Waits} (h : HoldsTree t b s ws) where
  -- the board fits a set of cells
  pub sheet_fits : Fits b
  sheet_fits =
      subst Fits h.on (size_fits h.well.size)

  -- they stand there, from node 0 on
  pub sheet_stands : At (Row t) a_move 0 s.root.cell (nodes_of_waits ws)
  sheet_stands = record { here = h.root.here.row; below = stand_of_weighed h.root.below }

  -- where they end
  pub sheet_end : end_in t 0 ≡ suc (size (nodes_of_waits ws))
  sheet_end = omega (arith, h.root.here.end)

  -- where their moves have cells of the board
  module _ (cells : (m : Move) → m ∈ moves_of_waits ws → T (is_cell b m.cell)) where
    tree_on_board : At (RowOn b t) a_move 0 s.root.cell (nodes_of_waits ws)
    tree_on_board =
        root_on_board b s.root.cell ws
        (subst (λ (z : Board). (s.root.cell ≡ 0) ⊎ T (is_cell z s.root.cell)) h.on h.well.root_on_board)
        cells sheet_stands

    -- they have their ends and counts too
    tree_weighed : At (WeighedOn b t) a_move 0 s.root.cell (nodes_of_waits ws)
    tree_weighed = weighed_on_at h.root tree_on_board

module _ {t : List ℕ} {b : Board} {s : Sheet} (h : HoldsSheet t b s) where
  -- the sheet's moves have cells of the board, but for a root without a cell
  pub sheet_cells : (m : Move) → m ∈ moves_of_waits s.root.waits → T (is_cell b m.cell)
  sheet_cells = subst (λ (z : Board). (m : Move) → m ∈ moves_of_waits s.root.waits → T (is_cell z m.cell)) h.on h.well.on_board_lem

  pub sheet_weighed : At (WeighedOn b t) a_move 0 s.root.cell (nodes_of_waits s.root.waits)
  sheet_weighed = tree_weighed h sheet_cells

-- what is left without the moves that aren't live: its moves have cells of the board, and its waits have moves
module _ {t : List ℕ} {b : Board} {s : Sheet} (h : HoldsLiving t b s) where
  pub living_on_board : (m : Move) → m ∈ moves_of_waits (living s.root.waits) → T (is_cell b m.cell)
  living_on_board =
      subst (λ (z : Board). (m : Move) → m ∈ moves_of_waits (living s.root.waits) → T (is_cell z m.cell)) h.on
      (living_cells (λ c. T (is_cell s.board c)) s.root.waits h.well.on_board_lem)

  pub living_full : (w : Wait) → w ∈ waits_of_waits (living s.root.waits) → w.moves ≢ no_moves
  unfolding every_wait
  living_full = living_some s.root.waits h.well.some_moves

  pub living_weighed : At (WeighedOn b t) a_move 0 s.root.cell (nodes_of_waits (living s.root.waits))
  living_weighed = tree_weighed h living_on_board

  -- the root's count is the number of outcomes, kept at the limit
  pub living_count : count_in t 0 ≡ limited (outcome_count s)
  unfolding outcome_count
  living_count = h.root.here.count ∙ ap (λ (n : ℕ). limited n) (waits_count (living s.root.waits))

  -- where every move is live it is the sheet
  pub living_whole : idle_count s ≡ 0 → HoldsSheet t b s
  living_whole e = subst (HoldsTree t b s) (none_idle s e) h

-- and the other way round
pub whole_living : {t : List ℕ} {b : Board} {s : Sheet} → HoldsSheet t b s → idle_count s ≡ 0 → HoldsLiving t b s
whole_living {t} {b} {s} h e = subst⁻¹ (HoldsTree t b s) (none_idle s e) h
