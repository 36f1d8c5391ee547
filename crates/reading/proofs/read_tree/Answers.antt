-- Refused, text after the tree, or read.
use mathlib.Core.Path.{sym, ap}
use lib.ListN.{length}
use Rattle.std.proofs.lemmas.Bool.{eqb-true, eqb-false}
use Rattle.std.proofs.lemmas.List.{nil_from_length}
use Rattle.std.proofs.lemmas.Result.{err_from_is_err_and}
use Rattle.reading.proofs.Body.{tree_refused, tree_before_text, tree_got}
use Rattle.reading.proofs.read_tree.Goals as goal

pub returns-in_err-after : goal.returns-in_err-after
returns-in_err-after c =
    let p = err_from_is_err_and c.from_residual.result c.from_residual.ensures.1 in
    rw (p.1, p.2) (tree_refused _ _ _ c.requires c.told-table _ _ c.in_err-after.ensures)

pub returns-then-not-is_empty : goal.returns-then-not-is_empty
returns-then-not-is_empty c =
    tree_before_text _ _ _ c.requires c.told-table _ _ c.in_ok-after.ensures (λ e. eqb-false _ _ (sym c.if-not-is_empty.ensures) (ap length e))

pub returns : goal.returns
returns c = tree_got _ _ _ c.requires c.told-table _ _ c.in_ok-after.ensures (nil_from_length _ (eqb-true _ _ (sym c.if-not-is_empty.ensures)))
