-- A held sheet is thinned and weighed again.
use mathlib.Core.Path.{◌∙◌}
use mathlib.Core.List.{List}
use Prim.Native.Nat.{ℕ, ◌≤◌}
use native.Mathlib.Omega.{arith}
use lib.ListN.{length}
use Rattle.rules.specs.declared.Board.{Board}
use Rattle.rules.specs.Sizes.{least_workspace}
use Rattle.rules.specs.Tree.{Sheet}
use Rattle.rules.specs.Live.{living}
use Rattle.nodes.specs.Nodes.{a_move, nodes_of_waits}
use Rattle.nodes.specs.Table.{Row, WeighedOn, SomeNode}
use Rattle.nodes.specs.Sheets.{HoldsSheet, HoldsLiving, SomeSheet}
use Rattle.nodes.specs.Weighing.{WeighsAny}
use Rattle.nodes.proofs.Sheets.{sheet_weighed}
use Rattle.nodes.proofs.Weighing.{weighs_at, weighs_long}
use Rattle.live.specs.Thinning.{StandsTo, MoveThinnedAny}

module _ {t : List ℕ} {b : Board} where
  pub some_weighed : SomeSheet t b → SomeNode (WeighedOn b t) a_move 0
  some_weighed s = record { cell = s.sheet.root.cell; under = nodes_of_waits s.sheet.root.waits; at = sheet_weighed s.held }

  module _ {out : ℕ} {v : List ℕ} (h : MoveThinnedAny b t 0 0 out v) where
    left : {s : Sheet} → HoldsSheet t b s → StandsTo v a_move 0 s.root.cell (nodes_of_waits (living s.root.waits)) out
    left {s} k = h.thinned s.root.cell s.root.waits (sheet_weighed k)

    -- what is left stands in the table
    pub thinned_stands : SomeSheet t b → SomeNode (Row v) a_move 0
    thinned_stands s = record { cell = s.sheet.root.cell; under = nodes_of_waits (living s.sheet.root.waits); at = (left s.held).stands }

    pub thinned_long : SomeSheet t b → length v ≤ least_workspace
    thinned_long s = omega (arith, h.moved.kept.long, s.held.long)

    -- and is held once it is weighed
    pub thinned_holds : {count next : ℕ} {w : List ℕ} → WeighsAny a_move v 0 count next w → (s : Sheet) → HoldsSheet t b s → HoldsLiving w b s
    thinned_holds g s k =
        let m = (left k).stands in
        let d = g s.root.cell (nodes_of_waits (living s.root.waits)) m in
        record { long = weighs_long d ∙ h.moved.kept.long ∙ k.long; on = k.on; well = k.well; root = weighs_at d m }
