-- The definitions on samples: the line that document 01 gives for P8, the largest number, and all numbers of a verdict.
use mathlib.Core.Path.{◌≡◌, refl}
use mathlib.Core.List.{[], ◌∷◌}
use Rattle.rules.specs.Verdict.{told}
use Rattle.rules.specs.declared.Verdict.TheVariants.{Accepted}
use Rattle.rules.specs.Decimal.{leading, decimal}
use Rattle.report.specs.All.{all_numbers}
use Rattle.report.specs.Line.{fields, line_of, report_line}

largest : decimal 4294967295 ≡ 52 ∷ 50 ∷ 57 ∷ 52 ∷ 57 ∷ 54 ∷ 55 ∷ 50 ∷ 57 ∷ 53 ∷ []
unfolding leading decimal
largest = refl

-- `0`, `0`, `0`, `0`, `7`, `3`, `8`
p8 : report_line (told (Accepted (record { moves = 7; waits = 3; outcomes = 8; passed = 3; idle = 0 }))) ≡ 48 ∷ 9 ∷ 48 ∷ 9 ∷ 48 ∷ 9 ∷ 48 ∷ 9 ∷ 55 ∷ 9 ∷ 51 ∷ 9 ∷ 56 ∷ 10 ∷ []
unfolding leading decimal fields line_of report_line
p8 = refl

-- 7 moves, of which 2 are not live
all : all_numbers (told (Accepted (record { moves = 7; waits = 3; outcomes = 8; passed = 3; idle = 2 }))) ≡ 0 ∷ 0 ∷ 0 ∷ 0 ∷ 7 ∷ 3 ∷ 8 ∷ 3 ∷ 2 ∷ []
all = refl
