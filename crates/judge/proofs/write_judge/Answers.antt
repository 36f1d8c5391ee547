-- The verdict's line is the sheet's.
use Rattle.report.proofs.Line.{wrote_judge}
use Rattle.judge.proofs.write_judge.Goals as goal

pub returns : goal.returns
returns c = rw c.told-workspace at (wrote_judge c.judge-verdict.ensures c.report.ensures)
