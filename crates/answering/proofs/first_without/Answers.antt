-- `answering::first_without` meets its contract: the moves that hold the cell are left behind, one after another.
use Rattle.std.proofs.Common.{arith, sym, ◌∙◌}
use Rattle.answering.proofs.Searching.{dodging_room, dodging_on, dodging_again, dodging_done}
use Rattle.answering.proofs.first_without.Goals as goal

pub holds-requires : goal.holds-requires
holds-requires c = dodging_room c.loop-next.invariant c.requires.1

pub end_at-next-requires : goal.end_at-next-requires
end_at-next-requires c = (dodging_room c.loop-next.invariant c.requires.1).0

pub loop-next-smaller : goal.loop-next-smaller
loop-next-smaller c =
    let s = c.requires.1 in
    omega (arith, dodging_on c.loop-next.invariant s, (dodging_room c.loop-next.invariant s).0, c.end_at-next.ensures)

pub loop-next-preserved : goal.loop-next-preserved
loop-next-preserved c =
    let d = dodging_again c.loop-next.invariant c.requires.0 (sym c.loop-next-test.true ∙ c.holds.ensures) in
    rw c.end_at-next.ensures d

pub returns : goal.returns
returns c = dodging_done c.loop-next.invariant c.requires.0 (sym c.loop-next-test.false ∙ c.holds.ensures)
