-- No set-up line, off the board, named before, or one stone more.
use mathlib.Core.Path.{refl, sym, ◌∙◌}
use Rattle.std.proofs.lemmas.Result.{err_from_is_err_and}
use Rattle.reading.proofs.Refusing.{refused_with}
use Rattle.reading.proofs.SettingUp.{stone_off, stone_cell, stone_twice, stone_got}
use Rattle.reading.proofs.stone_here.Goals as goal

pub returns-in_err-cell : goal.returns-in_err-cell
returns-in_err-cell c = λ cs h line.
    let p = err_from_is_err_and c.from_residual.result c.from_residual.ensures.1 in
    let e = c.in_err-cell.ensures in
    rw (p.1, p.2, refused_with e.ok_part e.value) (stone_off _ _ _ c.in-Some.text c.in-Some.ensures (sym e.ok_part ∙ c.number_at.ensures) cs line, refl)

pub returns-then-has : goal.returns-then-has
returns-then-has c = λ cs h line.
    (stone_twice _ _ _ c.in-Some.text c.in-Some.ensures _ (sym c.in_ok-cell.ensures.ok_part ∙ c.number_at.ensures) cs _ _ h line c.if-has.ensures, refl)

pub put_stone-requires : goal.put_stone-requires
put_stone-requires c = stone_cell _ _ _ (sym c.in_ok-cell.ensures.ok_part ∙ c.number_at.ensures)

pub returns : goal.returns
returns c = λ cs h line.
    stone_got _ _ _ _ c.in-Some.ensures _ (sym c.in_ok-cell.ensures.ok_part ∙ c.number_at.ensures) cs _ _ h line _ _ c.if-has.ensures _
    (c.put_stone.ensures cs h)
