-- The first number, the others, those that are listed and the line feed stand one after another.
use Rattle.report.proofs.Line.{wrote_line}
use Rattle.report.proofs.write_line.Goals as goal

pub returns : goal.returns
returns c = wrote_line _ _ _ c.write_number-after.ensures c.write_fields-middle.ensures c.write_fields-last.ensures c.write_byte.ensures
