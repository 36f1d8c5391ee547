-- Too short, or the table is run on and cleared.
use Rattle.std.proofs.Common.{refl}
use Rattle.sheet.proofs.Table.{ran_none, ran_some}
use Rattle.sheet.proofs.on_table.Goals as goal

pub returns-in_err-table : goal.returns-in_err-table
returns-in_err-table g c = rw c.from_residual.ensures (ran_none _ _ _ c.in_err-table.ensures.cases)

pub returns : goal.returns
returns g c =
    let first = c.in_ok-table.ensures.cases in
    ran_some _ _ _ _ _ _ _ _ first.enough first.same
    (record { shown = _; shows = refl; left = _; called = c.run-answer.ensures; leaves = refl }) c.clear.ensures
