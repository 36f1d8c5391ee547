-- Document 02, C-15: which outcomes are passed over and how many, and the walk that stops as soon as the stones join.
use Rattle.std.specs.Prelude.{◌≡◌, ℕ, ◌+◌, ◌<◌, Bool, true, false, not, ◌&&◌, List, [], ◌∷◌, ◌++◌, map, T, eqb, length, if◌then◌else◌}
use Rattle.std.proofs.Math.Option.{Option, none, some}
use Rattle.rules.specs.Words.{among, any, first_that, one_if}
use Rattle.rules.specs.Joining.{joined, Joins}
use Rattle.rules.specs.Tree.{Waits, no_waits, wait, Moves, no_moves, move, Move, Sheet, stone, own_cells, at_start}
use Rattle.rules.specs.Live.{living}
use Rattle.rules.specs.Outcomes.{each_with_each}
use Rattle.rules.specs.declared.Board.{Board}
use Rattle.rules.specs.declared.Player.{Player}

-- "List an outcome's moves in line order": the outcomes of `specs/Outcomes` in the order of their numbers, each as the list of its
-- moves (proofs/Passing: `lists_outcomes`; proofs/LineOrder: `in_line_order`)
unfoldable mutual
  pub lists_of_waits : Waits → List (List Move)
  lists_of_waits no_waits = [] ∷ []
  lists_of_waits (wait line ms ws) = each_with_each (lists_of_moves ms) (lists_of_waits ws)

  pub lists_of_moves : Moves → List (List Move)
  lists_of_moves no_moves = []
  lists_of_moves (move line c ws ms) = map (λ l. record { line = line; cell = c; waits = ws } ∷ l) (lists_of_waits ws) ++ lists_of_moves ms

unfoldable pub lists : Sheet → List (List Move)
lists s = map (λ l. s.root ∷ l) (lists_of_waits (living s.root.waits))

-- the stones of moves
unfoldable pub stones_of : List Move → List ℕ
stones_of [] = []
stones_of (m ∷ ms) = stone m.cell ++ stones_of ms

-- the beginnings of a list, the shortest first
unfoldable pub beginnings : List Move → List (List Move)
beginnings [] = [] ∷ []
beginnings (m ∷ ms) = [] ∷ map (λ l. m ∷ l) (beginnings ms)

-- "and take the shortest beginning of that list whose stones, with the set-up stones, join": the stones put already are the own
-- set-up stones; none where no beginning's stones join
unfoldable pub shortest : Board → Player → (put : List ℕ) → List Move → Option (List Move)
shortest b p put l = first_that (λ k. joined b p (among (put ++ stones_of k))) (beginnings l)

-- in plain words (proofs/Shortest: `shortest_is_shortest`)
pub record IsShortest (b : Board) (p : Player) (put : List ℕ) (l k : List Move) : Type 0 where
  pub rest : List Move
  pub is_beginning : l ≡ k ++ rest
  pub joins : Joins b p (among (put ++ stones_of k))
  pub none_shorter : (j r : List Move) → l ≡ j ++ r → length j < length k → Joins b p (among (put ++ stones_of j)) → ⊥

-- the list l begins with the moves k: a move is known by its line, not by its cell
unfoldable pub begins : (k l : List Move) → Bool
begins [] l = true
begins (m ∷ k) [] = false
begins (m ∷ k) (n ∷ l) = eqb m.line n.line && begins k l

unfoldable pub begins_there : Option (List Move) → List Move → Bool
begins_there none l = false
begins_there (some k) l = begins k l

-- "An outcome is passed over if its list begins with that beginning of an outcome with a smaller number."
unfoldable pub is_passed : Board → Player → (put : List ℕ) → (smaller : List (List Move)) → List Move → Bool
is_passed b p put smaller l = any (λ e. begins_there (shortest b p put e) l) smaller

-- how many of the lists are passed over, one after another: those before have the smaller numbers
unfoldable pub passed_among : Board → Player → (put : List ℕ) → (smaller : List (List Move)) → List (List Move) → ℕ
passed_among b p put smaller [] = 0
passed_among b p put smaller (l ∷ ls) = one_if (is_passed b p put smaller l) + passed_among b p put (smaller ++ l ∷ []) ls

unfoldable pub passed_over : Sheet → ℕ
passed_over s = passed_among s.board s.player (own_cells s.set_up) [] (lists s)

-- of the outcomes that go on from stones already put by the waits that are left
abbrev pub passed_from : Board → Player → (put : List ℕ) → Waits → ℕ
passed_from b p put ws = passed_among b p put [] (lists_of_waits ws)

-- "Stop as soon as it's joined": how many outcomes are looked at by the walk that puts one stone after another, in line order, and
-- where they join looks at one outcome only; `onward` are the waits after these, from the stones put then
unfoldable mutual
  pub looked_in_waits : Board → Player → Waits → (onward : List ℕ → ℕ) → (put : List ℕ) → ℕ
  looked_in_waits b p no_waits onward put = onward put
  looked_in_waits b p (wait line ms ws) onward put =
      if joined b p (among put) then 1 else looked_in_moves b p ms (looked_in_waits b p ws onward) put

  pub looked_in_moves : Board → Player → Moves → (onward : List ℕ → ℕ) → (put : List ℕ) → ℕ
  looked_in_moves b p no_moves onward put = 0
  looked_in_moves b p (move line c ws ms) onward put = looked_in_waits b p ws onward (put ++ stone c) + looked_in_moves b p ms onward put

unfoldable pub looked_at : Sheet → ℕ
looked_at s = looked_in_waits s.board s.player (living s.root.waits) (λ put. 1) (at_start s)

-- What the walk asks of a tree: the moves of each wait stand on lines of their own (proofs/LineOrder: `unlike_lines`)
unfoldable pub lines_beside : Moves → List ℕ
lines_beside no_moves = []
lines_beside (move line c ws ms) = line ∷ lines_beside ms

unfoldable mutual
  pub UnlikeWaits : Waits → Type 0
  UnlikeWaits no_waits = Unit {0}
  UnlikeWaits (wait line ms ws) = UnlikeMoves ms × UnlikeWaits ws

  pub UnlikeMoves : Moves → Type 0
  UnlikeMoves no_moves = Unit {0}
  UnlikeMoves (move line c ws ms) = T (not (among (lines_beside ms) line)) × UnlikeWaits ws × UnlikeMoves ms
