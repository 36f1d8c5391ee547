-- A turn writes a tab and the next number.
use Rattle.std.proofs.Common.{arith}
use Rattle.report.proofs.Line.{writing_start, writing_more}
use Rattle.report.proofs.write_fields.Goals as goal

pub loop-number-init : goal.loop-number-init
loop-number-init c = writing_start (omega arith)

pub loop-number-preserved : goal.loop-number-preserved
loop-number-preserved c = writing_more c.loop-number.invariant c.loop-number-test.true c.write_byte-after_tab.ensures c.write_number-end.ensures
