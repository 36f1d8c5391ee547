-- Each open wait is tested and left behind whole.
use Rattle.std.proofs.Common.{arith, sym, ◌∙◌}
use Rattle.answering.proofs.Searching.{looking_starts, looking_wait, looking_on, looking_found, looking_again, looking_done}
use Rattle.answering.proofs.touched.Goals as goal

pub loop-wait-init : goal.loop-wait-init
loop-wait-init c = looking_starts

pub holds-requires : goal.holds-requires
holds-requires c = looking_wait c.loop-wait.invariant c.in-Some.ensures c.requires.1

pub returns-then-holds : goal.returns-then-holds
returns-then-holds c = looking_found c.loop-wait.invariant c.in-Some.ensures c.requires.0 (sym c.if-holds.true ∙ c.holds.ensures)

pub loop-wait-smaller : goal.loop-wait-smaller
loop-wait-smaller c = omega (arith, c.in-Some.ensures, looking_on c.loop-wait.invariant c.in-Some.ensures c.requires.1, c.end_at-from.ensures)

pub loop-wait-preserved : goal.loop-wait-preserved
loop-wait-preserved c =
    let d = looking_again c.loop-wait.invariant c.in-Some.ensures c.requires.0 (sym c.if-holds.false ∙ c.holds.ensures) in
    rw c.end_at-from.ensures d

pub returns : goal.returns
returns c = looking_done c.loop-wait.invariant c.in_default.ensures
