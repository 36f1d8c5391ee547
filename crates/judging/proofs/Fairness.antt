-- What a check tells of a held sheet, from what a search, or the table, tells.
use Rattle.std.specs.Prelude as code
use Rattle.std.specs.Result.{IfOk, MatchResult, IsErrAnd}
use Rattle.std.proofs.lemmas.Result.{err_from_is_err_and}
use mathlib.Core.Path.{◌≡◌, refl, sym, ap, ap₂, ◌∙◌}
use mathlib.Core.Bool.{◌||◌}
use mathlib.Core.List.{List}
use mathlib.Core.Option.{Option}
use Prim.Native.Nat.{ℕ, ◌+◌, ◌≤◌, ◌<◌}
use lib.ListN.{length}
use native.Mathlib.Omega.{arith}
use borrow.Author.Tests.{lt-ltb, le-ltb}
use Rattle.rules.specs.Sizes.{most_nodes, most_outcomes}
use Rattle.rules.specs.Tree.{Sheet, set_up_cells}
use Rattle.rules.specs.Reading.{refused, got}
use Rattle.rules.specs.Fair.{Fault, first_on_set_up, first_not_elusive}
use Rattle.rules.specs.Live.{idle_count}
use Rattle.rules.specs.Outcomes.{outcome_count}
use Rattle.rules.specs.Entries.{◌>>=◌, refuse_if, refuse_fault}
use Rattle.rules.specs.declared.Board.{Board}
use Rattle.rules.specs.declared.Verdict.{Verdict}
use Rattle.rules.specs.declared.Verdict.TheVariants.{OnSetUp, NotElusive, TooManyOutcomes}
use Rattle.rules.proofs.Lists.{none_long}
use Rattle.rules.proofs.SetUp.{either_side}
use Rattle.rules.proofs.Given.{bare_free}
use Rattle.rules.proofs.Living.{idle_few}
use Rattle.cells.specs.Cells.{held, Holds}
use Rattle.nodes.specs.Table.{count_in}
use Rattle.nodes.specs.Sheets.{HoldsSheet, HoldsSetUp}
use Rattle.nodes.specs.declared.head.SetUp.{SetUp}
use Rattle.nodes.proofs.Sheets.{living_count}
use Rattle.fair.specs.Faults.{FaultFound}
use Rattle.fair.specs.declared.Fault as answered
use Rattle.live.specs.Looking.{ElusiveFound}
use Rattle.live.specs.Thinning.{KeepsLive}
use Rattle.judging.specs.Checked.{checked, from_count, Passed}

-- what was found is refused, on the line of its node; where nothing was found, the sheet passes
module _ (verdict : ℕ → ℕ → Verdict) {s : Sheet} {fault : Option Fault} where
  pub found_told : (f : answered.Fault) {first line : ℕ} → FaultFound s fault (code.Some f) → first ≡ s.root.line → line ≡ f.node + first → refused (verdict line f.cell) ≡ refuse_fault verdict fault
  unfolding refuse_fault
  found_told f h on l = rw (l, on) (ap (refuse_fault verdict) h.seen)

  pub no_fault : FaultFound s fault code.None → got tt ≡ refuse_fault verdict fault
  unfolding refuse_fault
  no_fault h = ap (refuse_fault verdict) h.seen

-- 11: the fault that was found is refused so; else the moves that aren't live are told
pub elusive_told : (s : Sheet) {first : ℕ} (found : code.Result ℕ answered.Fault) (r : code.Result ℕ Verdict) (Told : answered.Fault → Verdict → Type 0)
    → ElusiveFound s found → first ≡ s.root.line → ((f : answered.Fault) (v : Verdict) → Told f v → v ≡ NotElusive (f.node + first) f.cell)
    → MatchResult found (λ idle. r ≡ code.Ok idle) (λ f. IsErrAnd r (Told f))
    → (checked r ≡ refuse_fault NotElusive (first_not_elusive s)) × IfOk r (λ idle. idle ≡ idle_count s)
elusive_told s (code.Ok idle) r Told k on told e = rw e (no_fault NotElusive k.0, k.1)
elusive_told s (code.Err f) r Told k on told e =
    let q = err_from_is_err_and r e in
    rw (q.1, told f q.0 q.2) (found_told NotElusive f k on refl, tt)

-- the two sets together are all set-up stones
pub all_stones : {b : Board} {s : Sheet} {u : SetUp} → HoldsSetUp b s u → (rows : List ℕ) → ((x : ℕ) → held b rows x ≡ (held b u.stones.own.rows x || held b u.stones.opp.rows x))
    → Holds b rows (set_up_cells s.set_up)
all_stones {s = s} h rows e =
    record { same = λ x. e x ∙ ap₂ ◌||◌ (h.stones.own_held.same x) (h.stones.opp_held.same x) ∙ sym (either_side s.set_up x) }

-- where the first node stands on line 2 no stone was set up, so no move is on one
pub none_told : {t : List ℕ} {b : Board} {s : Sheet} → HoldsSheet t b s → (first : ℕ) → first ≡ s.root.line → first ≡ 2 → got tt ≡ refuse_fault OnSetUp (first_on_set_up s)
unfolding refuse_fault
none_told {s = s} h first on e =
    let none-set-up : length s.set_up ≡ 0 = omega (arith, e, on, h.well.first_line_lem) in
    ap (refuse_fault OnSetUp) (sym (bare_free s (none_long s.set_up none-set-up)))

-- 12: the table has the count of outcomes, kept at one past the most
module _ {t : List ℕ} {b : Board} {s : Sheet} {idle : ℕ} (h : KeepsLive t b s idle) (count : ℕ) (e : count ≡ count_in t 0) where
  pub many_told : most_outcomes < count → from_count s ≡ refused TooManyOutcomes
  unfolding from_count refuse_if ◌>>=◌
  many_told l = rw (lt-ltb most_outcomes (outcome_count s) (omega (arith, e, living_count h.holds)))

  pub few_told : count ≤ most_outcomes → Passed t b s (from_count s) count idle
  unfolding from_count refuse_if ◌>>=◌
  few_told l =
      let same : count ≡ outcome_count s = omega (arith, e, living_count h.holds) in
      record { passes = rw (le-ltb most_outcomes (outcome_count s) (omega (arith, same))); counted = same; few = l; keeps = h }

-- there are no more idle moves than nodes
pub idle_low : {t : List ℕ} {b : Board} {s : Sheet} {idle : ℕ} → KeepsLive t b s idle → idle ≤ most_nodes
idle_low {s = s} h = omega (arith, h.idle_is, idle_few s, h.holds.well.few_nodes)
