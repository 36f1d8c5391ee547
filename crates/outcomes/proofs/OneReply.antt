-- The walk over a move's outcomes has one answer.
use Rattle.std.specs.Prelude as code
use mathlib.Core.Path.{◌≡◌, sym, ◌∙◌}
use Prim.Native.Nat.{ℕ}
use mathlib.Core.List.{List}
use Rattle.rules.specs.declared.Board.{Board}
use Rattle.rules.specs.declared.Player.{Player}
use Rattle.rules.specs.declared.Verdict.{Verdict}
use Rattle.rules.proofs.Steps.{not_refused}
use Rattle.outcomes.specs.Searching.{answer_of, SomeCountable, UnjoinedFound}
use Rattle.outcomes.proofs.Searching.{set_holds}

one_answer : (r r' : code.Result ℕ Verdict) → answer_of r ≡ answer_of r' → r ≡ r'
one_answer (code.Err v) (code.Err w) e = cc
one_answer (code.Err v) (code.Ok k) e = absurd (not_refused e)
one_answer (code.Ok k) (code.Err v) e = absurd (not_refused (sym e))
one_answer (code.Ok k) (code.Ok j) e = cc

pub one_unjoined : (b : Board) (p : Player) (t rows : List ℕ) (i : ℕ) (r r' : code.Result ℕ Verdict) → SomeCountable b t i → UnjoinedFound b p t i rows r → UnjoinedFound b p t i rows r' → r ≡ r'
one_unjoined b p t rows i r r' s f g =
    let h = set_holds b rows in
    one_answer r r' (sym (f s.0 s.1 _ s.2 h) ∙ g s.0 s.1 _ s.2 h)
