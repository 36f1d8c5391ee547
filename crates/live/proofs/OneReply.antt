-- 11 finds one thing of a sheet: two answers that the contract of `not_elusive` allows are equal.
use Prim.Native.Nat.{ℕ}
use mathlib.Core.Path.{◌≡◌, sym, ap, ◌∙◌}
use Rattle.rules.specs.Tree.{Sheet}
use Rattle.rules.proofs.Steps.{none≢some}
use Rattle.std.specs.Prelude as code
use Rattle.fair.specs.declared.Fault.{Fault}
use Rattle.fair.proofs.OneReply.{one_fault}
use Rattle.live.specs.Looking.{ElusiveFound}

pub one_elusive : (s : Sheet) (r r' : code.Result ℕ Fault) → ElusiveFound s r → ElusiveFound s r' → r ≡ r'
one_elusive s (code.Err f) (code.Err g) p q =
    let e = one_fault (code.Some f) (code.Some g) p q in
    let same : f ≡ g = cc in
    ap code.Err same
one_elusive s (code.Err f) (code.Ok n) p q = absurd (none≢some (q.0.seen ∙ sym p.seen))
one_elusive s (code.Ok m) (code.Err g) p q = absurd (none≢some (p.0.seen ∙ sym q.seen))
one_elusive s (code.Ok m) (code.Ok n) p q = ap code.Ok (p.1 ∙ sym q.1)
