-- `cells::common` meets its contract: the closure makes each row.
use Rattle.std.proofs.Common.{rules, arith, refl, get_or}
use lib.Bits.{bit_and}
use Rattle.cells.proofs.Words.{made_by_row, from_fn_made}
use Rattle.cells.proofs.common.Goals as goal

pub returns : goal.returns
returns c =
    made_by_row bit_and c.args.a.rows c.args.b.rows c.from_fn.result refl (search rules) (search rules) (search rules)
    (λ r l. from_fn_made _ (λ k. bit_and (get_or c.args.a.rows k 0) (get_or c.args.b.rows k 0)) (λ i y q k. search rules) _ 0 21 c.from_fn.ensures.items.each r (omega arith) (omega arith))
