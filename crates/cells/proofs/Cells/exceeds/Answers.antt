-- `cells::Cells::exceeds` meets its contract: some row of the board has a cell that the other set has not.
use Rattle.std.proofs.Common.{rules, tests, arith, ◌≡◌, ◌≢◌, refl, List, ℕ, ◌+◌, get_or, w32}
use mir.Val as val
use Rattle.std.proofs.lemmas.Iterator.{cases_from_any, YieldsList-from_range}
use Rattle.cells.proofs.Beyond.{beyond_in, rows_told}
use Rattle.cells.proofs.Cells.exceeds.Goals as goal

pub returns : goal.returns
returns c =
    let b = c.args.grid.board in
    let s : List ℕ = c.args.self.rows in
    let t : List ℕ = c.args.other.rows in
    let w : ℕ = c.word_of-word.result in
    rows_told b s t c.args.grid.fits (λ r. let f : val.Fits w32 (get_or s r 0) = search rules in f.fits) (λ r. let f : val.Fits w32 (get_or t r 0) = search rules in f.fits) w c.word_of-word.ensures _
    (cases_from_any _ _ _ (λ r. beyond_in s t w r ≢ 0) (λ r. beyond_in s t w r ≡ 0) c.any.ensures.ran (YieldsList-from_range 1 (b.rows + 1) b.rows refl (omega arith)) (λ x q k. search (rules, tests))
    (λ x q k. search (rules, tests)))
