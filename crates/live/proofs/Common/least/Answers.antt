-- 0 where none is left, else the smallest of the set.
use Rattle.std.proofs.Common.{arith}
use Rattle.cells.specs.Cells.{held}
use Rattle.fair.proofs.Search.{smallest_low}
use Rattle.live.proofs.Sharing.{least_spent, least_left}
use Rattle.live.proofs.Common.least.Goals as goal

pub returns-in-Left : goal.returns-in-Left
returns-in-Left c =
    let low = smallest_low _ (held c.args.grid.board c.in-Left.cells.rows) c.args.grid.fits in
    record { least = least_left _ c.in-Left.is c.least.ensures; low = omega (arith, c.least.ensures, low) }

pub returns-in_default : goal.returns-in_default
returns-in_default c = record { least = least_spent c.in_default.not-Left; low = omega arith }
