-- 13 after the other checks of a held sheet, and what judge replies.
use Rattle.std.specs.Prelude as code
use mathlib.Core.Path.{◌≡◌, sym, ap, ◌∙◌}
use mathlib.Core.List.{List}
use Prim.Native.Nat.{ℕ}
use native.Mathlib.Omega.{arith}
use Rattle.rules.specs.Tree.{Sheet, own_cells, at_start, move_count, wait_count}
use Rattle.rules.specs.Live.{living}
use Rattle.rules.specs.Reading.{Result, refused, got}
use Rattle.rules.specs.Outcomes.{outcomes, outcome_count}
use Rattle.rules.specs.Passing.{passed_over}
use Rattle.rules.specs.Entries.{◌>>=◌, refuse_unjoined, fair, counts, judged}
use Rattle.rules.specs.declared.Board.{Board}
use Rattle.rules.specs.declared.Player.{Player}
use Rattle.rules.specs.declared.Verdict.{Verdict}
use Rattle.rules.specs.declared.Verdict.TheVariants as verdict
use Rattle.rules.proofs.Given.{fault_joined}
use Rattle.rules.proofs.LineOrder.{unlike_lines}
use Rattle.rules.proofs.Looking.{passed_sheet}
use Rattle.cells.specs.Cells.{Holds}
use Rattle.nodes.proofs.Sheets.{living_on_board, living_full, living_weighed}
use Rattle.outcomes.specs.Searching.{walked, answer_of, Countable, UnjoinedFound}
use Rattle.outcomes.proofs.GoingOn.{walked_got, walked_refused}
use Rattle.outcomes.proofs.Seating.{waits_seated}
use Rattle.judging.specs.Checked.{passing, Passed, TellsAll}
use Rattle.judging.specs.declared.Accepted.{Accepted}

pub countable : {t : List ℕ} {b : Board} {s : Sheet} {count idle : ℕ} → Passed t b s (fair s) count idle → Countable b t 0 s.root.cell (living s.root.waits)
unfolding outcome_count
countable {b = b} {s = s} f =
    let h = f.keeps.holds in
    record {
      at = living_weighed h;
      seated = waits_seated b (living s.root.waits) (living_on_board h) (living_full h) h.root.below;
      unlike = unlike_lines s f.keeps.holds.well;
      few = omega (arith, f.counted, f.few);
    }

-- 13 of a fair sheet, for the player with the own stones
module _ {t : List ℕ} {b : Board} {s : Sheet} {p : Player} {count idle : ℕ} (same : s.player ≡ p) (is_fair : Passed t b s (fair s) count idle) {own : List ℕ} (stones : Holds b own (own_cells s.set_up)) where
  walk : (u : code.Result ℕ Verdict) → UnjoinedFound b p t 0 own u → walked s.board s.player 0 (at_start s) (living s.root.waits) ≡ answer_of u
  unfolding at_start
  walk u found = rw (is_fair.keeps.holds.on, same) (found s.root.cell (living s.root.waits) (own_cells s.set_up) (countable is_fair) stones)

  passing_is : (w : Result (Unit {0})) → refuse_unjoined s.board s.player 0 (outcomes s) ≡ w → passing s ≡ (w >>= λ v. got s)
  unfolding ◌>>=◌
  passing_is w q = rw is_fair.passes (fault_joined s w q)

  pub accept_unjoined : (v : Verdict) → UnjoinedFound b p t 0 own (code.Err v) → passing s ≡ refused v
  unfolding outcomes ◌>>=◌
  accept_unjoined v found = passing_is (refused v) (walked_refused s.board s.player 0 (at_start s) (living s.root.waits) v (walk (code.Err v) found))

  pub accept_got : (k : ℕ) → UnjoinedFound b p t 0 own (code.Ok k) → Passed t b s (passing s) count idle × (k ≡ passed_over s)
  unfolding outcomes ◌>>=◌
  accept_got k found =
      let told = walked_got s.board s.player 0 (at_start s) (living s.root.waits) k (walk (code.Ok k) found) in
      (record { passes = passing_is (got tt) told.0; counted = is_fair.counted; few = is_fair.few; keeps = is_fair.keeps }, sym (passed_sheet s ∙ told.1))

-- what judge replies of a sheet that passes
pub judged_accepted : (t : List ℕ) (b : Board) (s : Sheet) (a : Accepted) {moves waits : ℕ} → TellsAll t b s (code.Ok a) → moves ≡ move_count s → waits ≡ wait_count s
    → verdict.Accepted (record { moves = moves; waits = waits; outcomes = a.outcomes; passed = a.passed; idle = a.idle }) ≡ judged (passing s)
unfolding judged counts
judged_accepted t b s a i m w = rw (m, w, i.0.counted, i.1, i.0.keeps.idle_is) (sym (ap judged i.0.passes))
