-- Where every move is live the table stays as it is.
use Rattle.std.proofs.Common.{arith}
use Rattle.nodes.proofs.Sheets.{whole_living}
use Rattle.live.proofs.keep_live.Goals as goal

pub returns-else-idle-ne0 : goal.returns-else-idle-ne0
returns-else-idle-ne0 c s h e = record { holds = whole_living h (omega (arith, e, c.if-idle-ne0.false)); idle_is = e }
