-- The line is that of what is told of the verdict.
use Rattle.report.proofs.Line.{wrote_report}
use Rattle.report.proofs.report.Goals as goal

pub returns : goal.returns
returns c = wrote_report c.from-told.ensures c.write_line.ensures
