-- The first node that has a fault is found, or none has one.
use Rattle.std.proofs.Common.{arith, rules, ◌≡◌}
use mathlib.Core.Path.{subst⁻¹}
use Rattle.std.specs.Prelude as code
use Rattle.rules.specs.Fair.{not_elusive}
use Rattle.rules.proofs.Living.{idle_few}
use Rattle.fair.specs.Faults.{at_waits, FaultAt}
use Rattle.fair.proofs.FirstTold.{none_again}
use Rattle.fair.proofs.Search.{least_first, tree_elusive}
use Rattle.fair.proofs.Adding.{adding_starts, adding_again, adding_few, adding_done}
use Rattle.live.specs.Looking.{ElusiveFound}
use Rattle.live.proofs.Idle.{idle_sum}
use Rattle.live.proofs.not_elusive.Goals as goal

pub loop-i-init : goal.loop-i-init
loop-i-init c = (λ j p. absurd (omega (arith, p)), adding_starts idle_sum _ _ _ c.end_at-end.ensures)

pub returns-in_err-idle : goal.returns-in_err-idle
returns-in_err-idle c s h =
    let gave : c.from_residual.result ≡ code.Err c.in_err-idle.field-0.0 = search rules in
    subst⁻¹ (ElusiveFound s) gave
    (least_first (at_waits not_elusive) tree_elusive c.end_at-end.ensures {r = code.Some c.in_err-idle.field-0.0}
    (c.loop-i.i, c.loop-i-test.true, c.in_err-idle.ensures, c.loop-i.invariant.0) s h)

pub overflow_add-idle : goal.overflow_add-idle
overflow_add-idle c =
    let s = c.requires in
    omega (arith, adding_few idle_sum c.loop-i.invariant.1 c.loop-i-test.true c.in_ok-idle.ensures.1 s.sheet s.held, idle_few s.sheet, s.held.well.few_nodes)

pub loop-i-preserved : goal.loop-i-preserved
loop-i-preserved c =
    let l = c.loop-i.invariant in (
      none_again (λ j. FaultAt (at_waits not_elusive) c.args.grid.board c.args.t.now j code.None) l.0 c.in_ok-idle.ensures.0,
      adding_again idle_sum l.1 c.loop-i-test.true c.in_ok-idle.ensures.1,
    )

pub returns : goal.returns
returns c s h =
    let l = c.loop-i.invariant in
    (least_first (at_waits not_elusive) tree_elusive c.end_at-end.ensures {r = code.None} (λ j p. l.0 j (omega (arith, p, c.loop-i-test.false))) s h, adding_done idle_sum l.1 c.loop-i-test.false s h)
