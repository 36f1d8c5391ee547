-- All numbers of a verdict: those of the line that is printed, and the counts that came with the follow-up requests.
use Rattle.std.specs.Prelude.{ℕ, List, [], ◌∷◌}
use Rattle.rules.specs.declared.Counts.{Counts}
use Rattle.rules.specs.declared.Told.{Told}

-- moves, waits, outcomes, outcomes passed over, moves that are not live
abbrev pub all_counts : Counts → List ℕ
all_counts n = n.moves ∷ n.waits ∷ n.outcomes ∷ n.passed ∷ n.idle ∷ []

-- verdict, line, cell, index, and all counts
abbrev pub all_numbers : Told → List ℕ
all_numbers t = t.number ∷ t.line ∷ t.cell ∷ t.index ∷ all_counts t.counts
