-- It stops where no move is left, or none that is left is live.
use Rattle.std.proofs.Common.{arith, ◌∙◌, subst}
use Rattle.std.specs.Prelude as code
use mathlib.Core.Logic.{inl, inr}
use Rattle.nodes.proofs.Walk.{walking_child}
use Rattle.fair.specs.Faults.{IsFault}
use Rattle.live.proofs.Asking.{Stops}
use Rattle.live.proofs.Idle.{one_live, none_live, counting_starts, counting_again, counting_done}
use Rattle.live.proofs.look.Goals.{then-and_this, else-and_this, else-loop-test, then-loop-test+in-Spent}
use Rattle.live.proofs.look.Goals as goal

pub loop-init : goal.loop-init
loop-init c = counting_starts c.under_at-under.ensures

pub and_this-requires : goal.and_this-requires
and_this-requires c =
    let w = c.loop.invariant.walk in
    record { stands = walking_child w c.loop-test.true c.requires.stands; below = omega (arith, w.on) }

pub end_at-next-requires : goal.end_at-next-requires
end_at-next-requires c =
    let n = walking_child c.loop.invariant.walk c.loop-test.true c.requires.stands in
    n.at.here.weight.row.room

pub loop-preserved : goal.loop-preserved
loop-preserved c =
    let w = c.loop.invariant in
    let m = c.and_this in
    let again = counting_again w c.loop-test.true c.requires.stands c.if-and_this.live m.ensures c.end_at-next.ensures in
    elim c.if-and_this.branch [
      | then-and_this y ↦ again (y.live-is ∙ one_live _ m.result y.if-and_this.true)
      | else-and_this y ↦ again (y.live-is ∙ none_live _ m.result y.if-and_this.false)
    ]

pub returns-in-Some : goal.returns-in-Some
returns-in-Some c w a some_move =
    let why : Stops c.loop.common c.under_at-under.result c.loop.counter =
    elim c.loop-test.branch [ else-loop-test y ↦ inl y.loop-test.false | then-loop-test+in-Spent y ↦ inr y.in-Spent.is ] in
    subst (λ k. IsFault c.args.i k (code.Some c.in-Some.fault)) (counting_done c.loop.invariant why c.least.ensures.least w a some_move).0 c.in-Some.ensures

pub returns-in-None : goal.returns-in-None
returns-in-None c w a some_move =
    let why : Stops c.loop.common c.under_at-under.result c.loop.counter =
    elim c.loop-test.branch [ else-loop-test y ↦ inl y.loop-test.false | then-loop-test+in-Spent y ↦ inr y.in-Spent.is ] in
    let done = counting_done c.loop.invariant why c.least.ensures.least w a some_move in
    (subst (λ k. IsFault c.args.i k code.None) done.0 c.in-None.ensures, done.1)
