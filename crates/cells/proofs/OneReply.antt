-- The words of a set are private to this crate, so others see its cells alone: sets that hold the same cells of a board are told alike.
use mathlib.Core.Path.{◌≡◌, ap, fun_ext}
use Prim.Native.Nat.{ℕ}
use mathlib.Core.List.{List}
use Rattle.rules.specs.Board.{smallest, listed}
use Rattle.rules.specs.Joining.{joined}
use Rattle.rules.specs.declared.Board.{Board}
use Rattle.rules.specs.declared.Player.{Player}
use Rattle.cells.specs.Cells.{held}

-- what `has`, `least`, `joins`, `count` and `list` tell of two sets
pub record ToldAlike (b : Board) (s t : List ℕ) : Type 0 where
  pub has : (x : ℕ) → held b s x ≡ held b t x
  pub least : smallest b (held b s) ≡ smallest b (held b t)
  pub joins : (p : Player) → joined b p (held b s) ≡ joined b p (held b t)
  pub lists : listed b (held b s) ≡ listed b (held b t)

pub told_alike : (b : Board) (s t : List ℕ) → ((x : ℕ) → held b s x ≡ held b t x) → ToldAlike b s t
told_alike b s t h =
    let same : held b s ≡ held b t = fun_ext h in
    record { has = h; least = ap (smallest b) same; joins = λ p. ap (joined b p) same; lists = ap (listed b) same }
