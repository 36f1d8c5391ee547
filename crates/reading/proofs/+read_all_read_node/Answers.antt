-- A node is its line and all nodes under it; all nodes of a kind are one after another.
use mathlib.Core.Path.{subst}
use Prim.Native.Nat.{◌+◌, ◌-◌}
use native.Mathlib.Omega.{arith}
use Rattle.std.proofs.lemmas.Result.{err_from_is_err_and}
use Rattle.reading.specs.Storing.{Stored}
use Rattle.reading.specs.Kept.{ReadKept}
use Rattle.reading.proofs.Storing.{going_on, going_refused, going_done, node_line_refused, node_stored}
use Rattle.reading.proofs.+read_all_read_node.Goals as goal

pub read_all-returns-in_err-here : goal.read_all-returns-in_err-here
read_all-returns-in_err-here t c =
    let p = err_from_is_err_and c.from_residual.result c.from_residual.ensures.1 in
    rw (p.1, p.2) (going_refused c.loop.invariant (c.args.many - (c.loop.counter + 1)) (omega arith) _ _ c.in_err-here.ensures)

pub read_all-loop-preserved : goal.read_all-loop-preserved
read_all-loop-preserved t c = going_on c.loop.invariant _ (omega arith) _ _ c.in_ok-here.ensures

pub read_all-returns : goal.read_all-returns
read_all-returns t c = going_done c.loop.invariant (omega arith)

pub read_node-returns-in_err-said : goal.read_node-returns-in_err-said
read_node-returns-in_err-said t c =
    let p = err_from_is_err_and c.from_residual.result c.from_residual.ensures.1 in
    rw (p.1, p.2) (node_line_refused _ _ _ _ _ _ c.in_err-said.ensures)

pub read_node-returns : goal.read_node-returns
read_node-returns t c =
    let k = c.read_all.ensures in
    subst (λ (z : Stored). ReadKept z c.read_all.result c.read_all.new.table)
    (node_stored _ _ _ _ _ _ c.in_ok-said.ensures)
    (rw (c.set_node.ensures, c.kind_below.ensures) at k)
