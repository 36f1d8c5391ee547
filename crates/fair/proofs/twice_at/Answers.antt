-- A move whose branch comes again is one that is there twice.
use Rattle.std.proofs.Common.{arith}
use Rattle.fair.proofs.Rows.{span_room}
use Rattle.fair.proofs.Branches.{move_ahead, moves_ahead, asks_twice, asking_starts, asking_left, asking_found, asking_again, asking_ends, fork_moves}
use Rattle.fair.proofs.twice_at.Goals as goal

pub loop-j-init : goal.loop-j-init
loop-j-init c = asking_starts

pub end_at-next-requires : goal.end_at-next-requires
end_at-next-requires c = span_room (move_ahead (asking_left asks_twice c.loop-j.invariant (fork_moves c.requires.its c.requires.at c.end_at-end.ensures)) c.loop-j-test.true)

pub again_from-requires : goal.again_from-requires
again_from-requires c =
    let left = asking_left asks_twice c.loop-j.invariant (fork_moves c.requires.its c.requires.at c.end_at-end.ensures) in
    (move_ahead left c.loop-j-test.true, moves_ahead left c.loop-j-test.true c.end_at-next.ensures)

pub returns-then-again_from : goal.returns-then-again_from
returns-then-again_from c = λ w a.
    asking_found asks_twice c.loop-j.invariant c.loop-j-test.true c.end_at-next.ensures c.again_from.ensures c.if-again_from.true
    (fork_moves w a c.end_at-end.ensures)

pub loop-j-smaller : goal.loop-j-smaller
loop-j-smaller c =
    let left = asking_left asks_twice c.loop-j.invariant (fork_moves c.requires.its c.requires.at c.end_at-end.ensures) in
    omega (arith, c.loop-j-test.true, (move_ahead left c.loop-j-test.true).onward, c.end_at-next.ensures)

pub loop-j-preserved : goal.loop-j-preserved
loop-j-preserved c = asking_again asks_twice c.loop-j.invariant c.loop-j-test.true c.end_at-next.ensures c.again_from.ensures c.if-again_from.false

pub returns : goal.returns
returns c = λ w a. asking_ends asks_twice c.loop-j.invariant c.loop-j-test.false (fork_moves w a c.end_at-end.ensures)
