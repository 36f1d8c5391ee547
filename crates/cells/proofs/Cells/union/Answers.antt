-- `cells::Cells::union` meets its contract: the closure makes each row.
use Rattle.std.proofs.Common.{rules, arith, refl, get_or}
use lib.Bits.{bit_or}
use Rattle.cells.proofs.Words.{made_by_row, from_fn_made}
use Rattle.cells.proofs.Held.{held_either}
use Rattle.cells.proofs.Cells.union.Goals as goal

pub returns : goal.returns
returns c =
    let made = made_by_row bit_or c.args.self.rows c.args.other.rows c.from_fn.result refl (search rules) (search rules) (search rules)
    (λ r l. from_fn_made _ (λ k. bit_or (get_or c.args.self.rows k 0) (get_or c.args.other.rows k 0)) (λ i y q k. search rules) _ 0 21 c.from_fn.ensures.items.each r (omega arith) (omega arith)) in
    λ b x. held_either b x made
