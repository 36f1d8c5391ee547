-- The text is too long, its first line is no header, its body is refused, or the table holds the sheet.
use Rattle.std.proofs.Common.{refl, arith}
use Rattle.std.proofs.lemmas.Result.{err_from_is_err_and}
use Rattle.loading.proofs.Reading.{text_long, text_headless, header_fits, text_refused, tree_stands, text_held}
use Rattle.loading.proofs.read_sheet.Goals as goal

pub returns-then-sheet-gt-MOST_BYTES : goal.returns-then-sheet-gt-MOST_BYTES
returns-then-sheet-gt-MOST_BYTES c = text_long _ _ c.if-sheet-gt-MOST_BYTES.true

pub returns-in_default : goal.returns-in_default
returns-in_default c = text_headless _ (omega arith) _ c.in_default.ensures.same

pub invariant_of-grid : goal.invariant_of-grid
invariant_of-grid c = record { fits = header_fits _ _ _ c.in-Some.ensures.same }

pub returns-in_err-set_up : goal.returns-in_err-set_up
returns-in_err-set_up c =
    let p = err_from_is_err_and c.from_residual.result c.from_residual.ensures.1 in
    rw (p.1, p.2) (text_refused _ (omega arith) _ _ _ c.in-Some.ensures.same _ _ _ c.in_err-set_up.ensures)

pub weigh_move-requires-clause-stands : goal.weigh_move-requires-clause-stands
weigh_move-requires-clause-stands c = tree_stands _ (omega arith) _ _ _ c.in-Some.ensures.same _ _ _ c.in_ok-set_up.ensures

pub returns : goal.returns
returns c =
    text_held _ (omega arith) _ _ _ c.in-Some.ensures.same _ _ _ c.in_ok-set_up.ensures _ _ _ c.read_body.array_long c.weigh_move.ensures
    (omega (arith, c.in-Some.ensures.shorter)) _ refl
