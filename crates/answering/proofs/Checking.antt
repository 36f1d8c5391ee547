-- The three refusals of a move, by their tests, and what is known of a move by what was answered.
use mathlib.Core.Path.{◌≡◌}
use mathlib.Core.Bool.{Bool, true, false, ◌||◌}
use Prim.Native.Nat.{ℕ}
use native.Mathlib.Omega.{arith}
use Rattle.std.specs.Prelude as code
use Rattle.std.specs.Prelude.{MatchResult}
use Rattle.rules.specs.Board.{is_cell}
use Rattle.rules.specs.Joining.{joined}
use Rattle.rules.specs.Reading.{Result, refused, got}
use Rattle.rules.specs.Answer.{as_result}
use Rattle.rules.specs.Entries.{refuse_if, ◌>>=◌}
use Rattle.rules.specs.declared.Board.{Board}
use Rattle.rules.specs.declared.Player.{Player}
use Rattle.rules.specs.declared.Verdict.{Verdict}
use Rattle.rules.specs.declared.Verdict.TheVariants.{AfterOver, NoSuchCell, CellTaken}
use Rattle.answering.specs.declared.Stopped.{Stopped}
use Rattle.answering.specs.Playing.{checked}

module _ (b : Board) (p : Player) (mine theirs : ℕ → Bool) (x : ℕ) where
  pub after_over : joined b p mine ≡ true → checked b p mine theirs x ≡ refused AfterOver
  unfolding checked refuse_if ◌>>=◌
  after_over e = rw e

  pub no_such_cell : joined b p mine ≡ false → is_cell b x ≡ false → checked b p mine theirs x ≡ refused NoSuchCell
  unfolding checked refuse_if ◌>>=◌
  no_such_cell e f = rw (e, f)

  pub cell_taken : joined b p mine ≡ false → is_cell b x ≡ true → (mine x || theirs x) ≡ true → checked b p mine theirs x ≡ refused CellTaken
  unfolding checked refuse_if ◌>>=◌
  cell_taken e f g = rw (e, f, g)

  pub not_refused : joined b p mine ≡ false → is_cell b x ≡ true → (mine x || theirs x) ≡ false → checked b p mine theirs x ≡ got tt
  unfolding checked refuse_if ◌>>=◌
  not_refused e f g = rw (e, f, g)

-- what is known of a move by what was answered: that it was refused, and the verdict at its place, or that it is fine
pub refused_with : (r : code.Result (Unit {0}) Verdict) {q : Result (Unit {0})} {v : Stopped} {place : ℕ} → as_result (λ x. x) r ≡ q
    → MatchResult r (λ x. ◌≡◌ {A = code.Result (Unit {0}) Stopped} (code.Err v) (code.Ok x)) (λ e. v ≡ record { verdict = e; place = place })
    → (e : Verdict) × (refused e ≡ q) × (v ≡ record { verdict = e; place = place })
refused_with (code.Ok x) e h = let z : ◌≡◌ {A = ℕ} 0 1 = cc h in absurd (omega arith)
refused_with (code.Err v) e h = (v, e, h)

pub fine : (r : code.Result (Unit {0}) Verdict) {q : Result (Unit {0})} → as_result (λ x. x) r ≡ q → true ≡ code.is_ok r → got tt ≡ q
fine (code.Ok x) e k = e
fine (code.Err v) e k = let z : ◌≡◌ {A = ℕ} 0 1 = cc k in absurd (omega arith)
