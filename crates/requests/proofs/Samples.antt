-- The definition of a request's line on samples, one of each word. (In a sample a blank is a tab.)
use mathlib.Core.Path.{◌≡◌, refl}
use mathlib.Core.Bool.{true, false}
use mathlib.Core.List.{[], ◌∷◌, ◌++◌}
use Rattle.rules.specs.Samples.{byte_of, sheet}
use Rattle.rules.specs.Decimal.{leading, decimal}
use Rattle.report.specs.Line.{fields}
use Rattle.requests.specs.Request.{name_of}
use Rattle.requests.specs.declared.Ask.TheVariants as Ask

lines : (name_of (Ask.Judge false) ++ fields (0 ∷ 0 ∷ []) ≡ sheet "judge 0 0") × (name_of (Ask.Judge true) ++ fields (0 ∷ 0 ∷ []) ≡ sheet "counts 0 0") × (name_of Ask.Play ++ fields (0 ∷ 0 ∷ 2 ∷ 10 ∷ []) ≡ sheet "play 0 0 2 10") × (name_of Ask.Outcome ++ fields (0 ∷ 0 ∷ 0 ∷ 7 ∷ []) ≡ sheet "outcome 0 0 0 7")
unfolding leading decimal fields byte_of sheet
lines = (refl, refl, refl, refl)
