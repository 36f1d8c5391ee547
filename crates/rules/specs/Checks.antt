-- One check after another: what every list of refusals in an order is written with.
use Rattle.std.specs.Prelude.{Bool, true, false}
use Rattle.rules.specs.Reading.{Result, refused, got}
use Rattle.rules.specs.declared.Verdict.{Verdict}

infixl 5 ◌>>=◌
-- one check after another; a refusal ends them
unfoldable pub ◌>>=◌ : {X Y : Type 0} → Result X → (X → Result Y) → Result Y
◌>>=◌ (refused v) f = refused v
◌>>=◌ (got x) f = f x

-- refused with v where the test passes
unfoldable pub refuse_if : Bool → Verdict → Result (Unit {0})
refuse_if true v = refused v
refuse_if false v = got tt
