-- The line that is printed: numbers parted by tabs.
use Rattle.std.specs.Prelude.{ℕ, List, [], ◌∷◌, ◌++◌}
use Rattle.rules.specs.Text.{Bytes}
use Rattle.rules.specs.Verdict.{told}
use Rattle.rules.specs.Entries.{judge}
use Rattle.rules.specs.declared.Told.{Told}
use Rattle.rules.specs.Decimal.{decimal}

-- further numbers of a line, each after a tab
unfoldable pub fields : List ℕ → Bytes
fields [] = []
fields (n ∷ ns) = 9 ∷ decimal n ++ fields ns

-- a line of numbers: the first and the others, parted by tabs, ended by a line feed
unfoldable pub line_of : ℕ → List ℕ → Bytes
line_of n ns = decimal n ++ fields ns ++ 10 ∷ []

-- the line that the judging program prints: verdict, line, cell, index, moves, waits, outcomes
unfoldable pub report_line : Told → Bytes
report_line t = line_of t.number (t.line ∷ t.cell ∷ t.index ∷ t.counts.moves ∷ t.counts.waits ∷ t.counts.outcomes ∷ [])

-- and that of a sheet's text, judged with a workspace of so many numbers
unfoldable pub judge_line : (workspace : ℕ) → Bytes → Bytes
judge_line w t = report_line (told (judge w t))
