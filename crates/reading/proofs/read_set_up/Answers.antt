-- The two sets grow by a stone a line, until no set-up line stands there or one is refused.
use mathlib.Core.Path.{sym, ap}
use mathlib.Core.List.{[]}
use native.Mathlib.Omega.{arith}
use lib.ListN.{length}
use Rattle.std.proofs.lemmas.Result.{err_from_is_err_and}
use Rattle.rules.specs.Reading as R
use Rattle.reading.proofs.SettingUp.{setting_on, setting_done, setting_refused}
use Rattle.reading.proofs.read_set_up.Goals as goal

pub loop-after-init : goal.loop-after-init
loop-after-init c =
    let e = c.front_of-here.ensures in
    record {
      set_up = [];
      most = length c.args.body.now;
      same = ap (λ (s : R.Spot). R.read_set_up (length c.args.body.now) c.args.grid.board [] s.text) (sym e);
      enough = omega (arith, ap (λ (s : R.Spot). length s.text) e);
      low = omega (arith, ap (λ (s : R.Spot). length s.text) e, ap (λ (s : R.Spot). s.line) e);
      held = c.empty-stones.ensures _;
      line_is = ap (λ (s : R.Spot). s.line) e;
      no_nodes_lem = ap (λ (s : R.Spot). s.nodes) e;
    }

pub returns-in_err-after : goal.returns-in_err-after
returns-in_err-after c =
    let g = c.loop-after.invariant in
    let p = err_from_is_err_and c.from_residual.result c.from_residual.ensures.1 in
    rw (p.1, p.2) (setting_refused g _ (c.in_err-after.ensures g.set_up g.held g.line_is).0)

pub loop-after-preserved : goal.loop-after-preserved
loop-after-preserved c =
    let g = c.loop-after.invariant in
    let k = c.in_ok-after.ensures g.set_up g.held g.line_is in
    setting_on g _ _ (rw c.in-Some.is at k)

pub returns : goal.returns
returns c =
    let g = c.loop-after.invariant in
    let k = c.in_ok-after.ensures g.set_up g.held g.line_is in
    let none = rw c.in_default.is at k in
    rw none.1 (setting_done g none.0)
