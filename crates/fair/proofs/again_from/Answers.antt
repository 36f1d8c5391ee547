-- A move that has the branch is the one that was looked for.
use Rattle.std.proofs.Common.{refl, arith}
use Rattle.fair.proofs.Rows.{span_room}
use Rattle.fair.proofs.Branches.{move_ahead, asks_again, asking_starts, asking_left, asking_found, asking_again, asking_ends}
use Rattle.fair.proofs.again_from.Goals as goal

pub loop-j-init : goal.loop-j-init
loop-j-init c = asking_starts

pub same_branch-requires : goal.same_branch-requires
same_branch-requires c = (c.requires.0, move_ahead (asking_left (asks_again _) c.loop-j.invariant c.requires.1) c.loop-j-test.true)

pub returns-then-same_branch : goal.returns-then-same_branch
returns-then-same_branch c = asking_found (asks_again _) c.loop-j.invariant c.loop-j-test.true refl (λ rest. c.same_branch.ensures) c.if-same_branch.true

pub end_at-j-requires : goal.end_at-j-requires
end_at-j-requires c = span_room (move_ahead (asking_left (asks_again _) c.loop-j.invariant c.requires.1) c.loop-j-test.true)

pub loop-j-smaller : goal.loop-j-smaller
loop-j-smaller c =
    omega (arith, c.loop-j-test.true, (move_ahead (asking_left (asks_again _) c.loop-j.invariant c.requires.1) c.loop-j-test.true).onward, c.end_at-j.ensures)

pub loop-j-preserved : goal.loop-j-preserved
loop-j-preserved c =
    asking_again (asks_again _) c.loop-j.invariant c.loop-j-test.true c.end_at-j.ensures (λ rest. c.same_branch.ensures) c.if-same_branch.false

pub returns : goal.returns
returns c = asking_ends (asks_again _) c.loop-j.invariant c.loop-j-test.false
