-- A check tells one thing of a sheet.
use Rattle.std.specs.Prelude as code
use mathlib.Core.Path.{◌≡◌, refl, sym, ◌∙◌}
use mathlib.Core.List.{List}
use Prim.Native.Nat.{ℕ}
use Rattle.rules.specs.declared.Board.{Board}
use Rattle.rules.specs.declared.Verdict.{Verdict}
use Rattle.rules.specs.Tree.{Sheet}
use Rattle.rules.specs.Reading.{Result}
use Rattle.rules.proofs.Steps.{not_refused}
use Rattle.judging.specs.Checked.{Tells, TellsAll}
use Rattle.judging.specs.declared.Accepted.{Accepted}
use Rattle.judging.specs.declared.Fair.{Fair}

pub one_told : (t t' : List ℕ) (b : Board) (s : Sheet) (check : Result Sheet) (r r' : code.Result Fair Verdict) → Tells t b s check r → Tells t' b s check r' → r ≡ r'
one_told t t' b s check (code.Ok f) (code.Ok g) x y =
    let many : f.outcomes ≡ g.outcomes = x.counted ∙ sym y.counted in
    let idle : f.idle ≡ g.idle = x.keeps.idle_is ∙ sym y.keeps.idle_is in
    rw (many, idle) refl
one_told t t' b s check (code.Ok f) (code.Err v) x y = absurd (not_refused (sym y ∙ x.passes))
one_told t t' b s check (code.Err v) (code.Ok g) x y = absurd (not_refused (sym x ∙ y.passes))
one_told t t' b s check (code.Err v) (code.Err u) x y = let e = sym x ∙ y in cc

pub one_told_all : (t t' : List ℕ) (b : Board) (s : Sheet) (r r' : code.Result Accepted Verdict) → TellsAll t b s r → TellsAll t' b s r' → r ≡ r'
one_told_all t t' b s (code.Ok a) (code.Ok z) x y =
    let many : a.outcomes ≡ z.outcomes = x.0.counted ∙ sym y.0.counted in
    let passed : a.passed ≡ z.passed = x.1 ∙ sym y.1 in
    let idle : a.idle ≡ z.idle = x.0.keeps.idle_is ∙ sym y.0.keeps.idle_is in
    rw (many, passed, idle) refl
one_told_all t t' b s (code.Ok a) (code.Err v) x y = absurd (not_refused (sym y ∙ x.0.passes))
one_told_all t t' b s (code.Err v) (code.Ok z) x y = absurd (not_refused (sym x ∙ y.0.passes))
one_told_all t t' b s (code.Err v) (code.Err u) x y = let e = sym x ∙ y in cc
