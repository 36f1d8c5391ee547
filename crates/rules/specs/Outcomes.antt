-- "Fair sheets": outcomes, their numbering and their count.
use Rattle.std.specs.Prelude.{ℕ, ◌+◌, ◌*◌, List, [], ◌∷◌, ◌++◌, map}
use Rattle.rules.specs.Tree.{Waits, no_waits, wait, Moves, no_moves, move, Sheet, stone, at_start}
use Rattle.rules.specs.Live.{living}

-- each of the first list with each of the second, the second varying fastest
unfoldable pub each_with_each : {A : Type 0} → List (List A) → List (List A) → List (List A)
each_with_each [] ys = []
each_with_each (x ∷ xs) ys = map (λ y. x ++ y) ys ++ each_with_each xs ys

-- An outcome of a move is its own cell (if any) with one outcome of each wait under it. An outcome of a wait is an outcome of
-- one move under it. Here in the order of their numbers: at a wait the first move's outcomes come first; at a move the last
-- wait varies fastest
unfoldable mutual
  pub outcomes_of_waits : Waits → List (List ℕ)
  outcomes_of_waits no_waits = [] ∷ []
  outcomes_of_waits (wait line ms ws) = each_with_each (outcomes_of_moves ms) (outcomes_of_waits ws)

  pub outcomes_of_moves : Moves → List (List ℕ)
  outcomes_of_moves no_moves = []
  outcomes_of_moves (move line c ws ms) = map (λ o. stone c ++ o) (outcomes_of_waits ws) ++ outcomes_of_moves ms

-- counting: a move multiplies over its waits (none gives 1), a wait adds over its moves
unfoldable mutual
  pub count_of_waits : Waits → ℕ
  count_of_waits no_waits = 1
  count_of_waits (wait line ms ws) = count_of_moves ms * count_of_waits ws

  pub count_of_moves : Moves → ℕ
  count_of_moves no_moves = 0
  count_of_moves (move line c ws ms) = count_of_waits ws + count_of_moves ms

-- of the sheet: the own set-up stones with an outcome of the root. (Document 02, C-16: over live moves only)
abbrev pub outcomes_from : Sheet → Waits → List (List ℕ)
outcomes_from s ws = map (λ o. at_start s ++ o) (outcomes_of_waits ws)

unfoldable pub outcomes : Sheet → List (List ℕ)
outcomes s = outcomes_from s (living s.root.waits)

unfoldable pub outcome_count : Sheet → ℕ
outcome_count s = count_of_waits (living s.root.waits)
