-- `cells::word_of` meets its contract: 1 shifted up by less than the width is a power of two.
use Rattle.std.proofs.Common.{◌+◌, arith}
use Rattle.std.proofs.lemmas.Nat.{one_shl}
use lib.Pow.{pow_mono}
use Rattle.cells.proofs.word_of.Goals as goal

pub overflow_sub-result : goal.overflow_sub-result
overflow_sub-result c = rw (one_shl c.args.left 32 (omega arith), one_shl (c.args.right + 1) 32 (omega arith)) (pow_mono (omega arith))

pub returns : goal.returns
returns c = rw (one_shl c.args.left 32 (omega arith), one_shl (c.args.right + 1) 32 (omega arith))
