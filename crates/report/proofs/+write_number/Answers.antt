-- A number below ten is its digit; from ten on the last digit follows the tenth part.
use Rattle.std.proofs.Common.{arith}
use Rattle.report.proofs.Numbers.{number_low, last_fits, number_high}
use Rattle.report.proofs.+write_number.Goals as goal

pub returns-then-n-lt10 : goal.returns-then-n-lt10
returns-then-n-lt10 t c = number_low c.if-n-lt10.true c.digit.ensures c.write_byte.ensures

pub write_byte-requires-2 : goal.write_byte-requires-2
write_byte-requires-2 t c = last_fits {n = c.args.n} (omega arith) c.requires c.write_number-last.ensures

pub returns : goal.returns
returns t c = number_high {n = c.args.n} (omega arith) c.if-n-lt10.false c.digit-2.ensures c.write_number-last.ensures c.write_byte-2.ensures
