-- Steps of reading and of judging taken apart: what was got at the end was got at each step.
use mathlib.Core.Path.{◌≡◌, refl, subst⁻¹}
use mathlib.Core.Bool.{Bool, true, false}
use mathlib.Core.Option.{Option, none, some, IsSome}
use Rattle.rules.specs.Text.{Bytes, Reader, bind}
use Rattle.rules.specs.Reading.{Result, refused, got, Spot, Reading, go}
use Rattle.rules.specs.Fair.{Fault}
use Rattle.rules.specs.Entries.{◌>>=◌, refuse_if, refuse_fault}
use Rattle.rules.specs.declared.Verdict.{Verdict}
use Prim.Native.Nat.{ℕ}

pub none≢some : {A : Type 0} {x : A} → none ≡ some x → ⊥
none≢some p = subst⁻¹ IsSome p tt

pub some_inj : {A : Type 0} {x y : A} → some x ≡ some y → x ≡ y
some_inj p = cc

Got : {X : Type 0} → Result X → Type 0
Got (refused v) = ⊥
Got (got x) = Unit {0}

pub not_refused : {X : Type 0} {v : Verdict} {x : X} → refused v ≡ got x → ⊥
unfolding Got
not_refused e = subst⁻¹ Got e tt

pub got_inj : {X : Type 0} {x y : X} → got x ≡ got y → x ≡ y
got_inj p = cc

pub refused_inj : {X : Type 0} {u v : Verdict} → ◌≡◌ {A = Result X} (refused u) (refused v) → u ≡ v
refused_inj p = cc

pub bind_some : {A B : Type 0} (r : Option (A × Bytes)) (f : A → Reader B) (y : B × Bytes) → bind r f ≡ some y
    → (x : A × Bytes) × (r ≡ some x) × (f x.0 x.1 ≡ some y)
unfolding bind
bind_some none f y e = absurd (none≢some e)
bind_some (some x) f y e = (x, refl, e)

pub go_got : {X Y : Type 0} (r : Result (X × Spot)) (f : X → Reading Y) (y : Y × Spot) → go r f ≡ got y
    → (x : X × Spot) × (r ≡ got x) × (f x.0 x.1 ≡ got y)
unfolding go
go_got (refused v) f y e = absurd (not_refused e)
go_got (got x) f y e = (x, refl, e)

pub then_got : {X Y : Type 0} (r : Result X) (f : X → Result Y) (y : Y) → (r >>= f) ≡ got y → (x : X) × (r ≡ got x) × (f x ≡ got y)
unfolding ◌>>=◌
then_got (refused v) f y e = absurd (not_refused e)
then_got (got x) f y e = (x, refl, e)

pub refuse_if_got : (b : Bool) (v : Verdict) (x : Unit {0}) → refuse_if b v ≡ got x → b ≡ false
unfolding refuse_if
refuse_if_got true v x e = absurd (not_refused e)
refuse_if_got false v x e = refl

pub refuse_fault_got : (v : ℕ → ℕ → Verdict) (f : Option Fault) (x : Unit {0}) → refuse_fault v f ≡ got x → f ≡ none
unfolding refuse_fault
refuse_fault_got v none x e = refl
refuse_fault_got v (some f) x e = absurd (not_refused e)
