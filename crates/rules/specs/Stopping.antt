-- Document 02, C-15: what is to be shown of outcomes that are passed over.
use Rattle.std.specs.Prelude.{◌≡◌, ◌↔◌, ℕ, ◌+◌, ◌<◌, List, [], ◌∷◌, ◌++◌, map, T}
use Rattle.rules.specs.Words.{◌∈◌}
use Rattle.rules.specs.Text.{Bytes}
use Rattle.rules.specs.Tree.{Move, Sheet, own_cells}
use Rattle.rules.specs.Outcomes.{outcomes}
use Rattle.rules.specs.Passing.{lists, stones_of, IsShortest, is_passed, looked_at}
use Rattle.rules.specs.Entries.{judge}
use Rattle.rules.specs.Plain.{WellRead, IsSheet}
use Rattle.rules.specs.declared.Counts.{Counts}
use Rattle.rules.specs.declared.Verdict.TheVariants.{Accepted}

-- "List an outcome's moves in line order": the lists are those of the outcomes, and their lines ascend
abbrev pub ListsOfOutcomes : Type 0
ListsOfOutcomes = (s : Sheet) → map (λ l. own_cells s.set_up ++ stones_of l) (lists s) ≡ outcomes s

abbrev pub lines_in : List Move → List ℕ
lines_in l = map (λ (m : Move). m.line) l

-- numbers that ascend, the first above i
unfoldable pub Above : ℕ → List ℕ → Type 0
Above i [] = Unit {0}
Above i (x ∷ xs) = (i < x) × Above x xs

abbrev pub InLineOrder : Type 0
InLineOrder = (s : Sheet) → WellRead s → (l : List Move) → l ∈ lists s → Above 1 (lines_in l)

-- "An outcome is passed over if its list begins with that beginning of an outcome with a smaller number", in plain words: with the
-- same moves
pub record PassedBy (s : Sheet) (smaller : List (List Move)) (l : List Move) : Type 0 where
  pub other : List Move
  pub is_smaller : other ∈ smaller
  pub beginning : List Move
  pub is_shortest : IsShortest s.board s.player (own_cells s.set_up) other beginning
  pub rest : List Move
  pub begins_so : l ≡ beginning ++ rest

abbrev pub PassedExactly : Type 0
PassedExactly = (s : Sheet) → WellRead s → (smaller later : List (List Move)) (l : List Move) → lists s ≡ smaller ++ l ∷ later
    → T (is_passed s.board s.player (own_cells s.set_up) smaller l) ↔ PassedBy s smaller l

-- judge's outcomes are those that the walk looks at and those that are passed over
pub record LookedAndPassed (workspace : ℕ) (t : Bytes) (n : Counts) : Type 0 where
  pub sheet : Sheet
  pub is_sheet : IsSheet workspace t sheet
  pub all : looked_at sheet + n.passed ≡ n.outcomes

abbrev pub AllLookedOrPassed : Type 0
AllLookedOrPassed = (workspace : ℕ) (t : Bytes) (n : Counts) → judge workspace t ≡ Accepted n → LookedAndPassed workspace t n
