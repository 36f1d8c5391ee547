-- One reader, or where it reads nothing another.
use mathlib.Core.Path.{◌≡◌, refl}
use mathlib.Core.Bool.{Bool, true, false}
use mathlib.Core.List.{[], ◌∷◌}
use mathlib.Core.Option.{none, some}
use lib.Dec.{eqb}
use borrow.Author.Tests.{eqb-true}
use Rattle.rules.specs.Text.{Bytes, Reader, bind, guard, any_byte, byte, word, ◌or_else◌}
use Rattle.rules.specs.Lines.{Place, place, letter}
use Rattle.rules.proofs.Steps.{none≢some}

-- the first reads something
pub first_way : {A : Type 0} (r q : Reader A) (t : Bytes) (x : A × Bytes) → r t ≡ some x → (r or_else q) t ≡ some x
unfolding ◌or_else◌
first_way r q t x h = rw (h, ◌or_else◌)

-- the first reads nothing
pub other_way : {A : Type 0} (r q : Reader A) (t : Bytes) → r t ≡ none → (r or_else q) t ≡ q t
unfolding ◌or_else◌
other_way r q t h = rw (h, ◌or_else◌)

-- a cell does not begin with `-`: where both may stand, no way is lost
pub no_dash : (t : Bytes) (x : Place × Bytes) → place t ≡ some x → word "-" t ≡ none
unfolding place letter word byte any_byte bind guard
no_dash [] x h = refl
no_dash (b ∷ t) x h = go (eqb b 45) refl
  where
    go : (d : Bool) → eqb b 45 ≡ d → word "-" (b ∷ t) ≡ none
    go true e = absurd (none≢some (rw (eqb-true b 45 e) at h))
    go false e = rw e
