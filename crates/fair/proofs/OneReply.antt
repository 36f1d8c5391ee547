-- A search tells one fault of a sheet: two answers that the contracts of `on_set_up`, `not_apart` and `branch_twice` allow are equal.
use mathlib.Core.Path.{◌≡◌, refl, sym, ap, ap₂, ◌∙◌}
use mathlib.Core.Option.{Option}
use Prim.Native.Nat.{ℕ, ◌+◌}
use native.Mathlib.Omega.{arith}
use Rattle.rules.specs.Tree.{Sheet}
use Rattle.rules.specs.Fair.{Fault}
use Rattle.rules.proofs.Steps.{none≢some, some_inj}
use Rattle.fair.specs.Faults.{fault_seen, bare, FaultFound}
use Rattle.fair.specs.declared.Fault as answered
use Rattle.std.specs.Prelude as code

pub one_fault : {s : Sheet} {f : Option Fault} (r r' : code.Option answered.Fault) → FaultFound s f r → FaultFound s f r' → r ≡ r'
one_fault {s} r r' p q = same r r' (p.seen ∙ sym q.seen)
  where
    same : (r r' : code.Option answered.Fault) → fault_seen s.root.line r ≡ fault_seen s.root.line r' → r ≡ r'
    same (code.Some f) (code.Some g) e =
        let lines : f.node + s.root.line ≡ g.node + s.root.line = ap (λ (z : Fault). z.line) (some_inj e) in
        let nodes : f.node ≡ g.node = omega (arith, lines) in
        ap₂ (λ (i c : ℕ). code.Some (record { node = i; cell = c })) nodes (ap (λ (z : Fault). z.cell) (some_inj e))
    same (code.Some f) code.None e = absurd (none≢some (sym e))
    same code.None (code.Some g) e = absurd (none≢some e)
    same code.None code.None e = refl

-- 24 tells a node alone
abbrev node_told : code.Option answered.Fault → code.Option ℕ
node_told (code.Some f) = code.Some f.node
node_told code.None = code.None

of_bare : (r : code.Option ℕ) → r ≡ node_told (bare r)
of_bare (code.Some i) = refl
of_bare code.None = refl

pub one_twice : {s : Sheet} {f : Option Fault} (r r' : code.Option ℕ) → FaultFound s f (bare r) → FaultFound s f (bare r') → r ≡ r'
one_twice r r' p q = of_bare r ∙ ap node_told (one_fault (bare r) (bare r') p q) ∙ sym (of_bare r')
