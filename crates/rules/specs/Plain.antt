-- Plain statements about sheets, which the theorems in proofs/ show to be what the computed definitions say.
use Rattle.std.specs.Prelude.{◌≡◌, ◌≢◌, ◌⊎◌, ℕ, zero, suc, ◌+◌, ◌≤◌, ◌<◌, max, Bool, not, List, [], ◌∷◌, ◌++◌, T, length, get_or}
use Rattle.rules.specs.Sizes.{most_nodes, most_depth, most_bytes, least_workspace, most_outcomes}
use Rattle.rules.specs.Words.{◌∈◌, among}
use Rattle.rules.specs.Board.{is_cell}
use Rattle.rules.specs.Text.{Bytes}
use Rattle.rules.specs.Tree.{Waits, no_waits, wait, Moves, no_moves, move, Wait, Move, Stone, Sheet, set_up_cells, moves_of_waits, every_move, every_wait, move_count, wait_count}
use Rattle.rules.specs.Written.{written}
use Rattle.rules.specs.Unread.{BoardSize, Unread}
use Rattle.rules.specs.Fair.{Fault, in_waits, holding, in_every, on_set_up, not_apart, branches, not_elusive}
use Rattle.rules.specs.Outcomes.{outcomes, outcome_count}
use Rattle.rules.specs.Joining.{Joins}
use Rattle.rules.specs.Entries.{counts}
use Rattle.rules.specs.Verdict.{told, told_as, told_accepted}
use Rattle.rules.specs.declared.Board.{Board}
use Rattle.rules.specs.declared.Counts.{Counts}
use Rattle.rules.specs.declared.Told.{Told}
use Rattle.rules.specs.declared.Verdict.{Verdict}

-- the numbers of the lines of nodes, in preorder
unfoldable mutual
  pub lines_of_waits : Waits → List ℕ
  lines_of_waits no_waits = []
  lines_of_waits (wait line ms ws) = line ∷ lines_of_moves ms ++ lines_of_waits ws

  pub lines_of_moves : Moves → List ℕ
  lines_of_moves no_moves = []
  lines_of_moves (move line c ws ms) = line ∷ lines_of_waits ws ++ lines_of_moves ms

unfoldable pub lines_of : Sheet → List ℕ
lines_of s = s.root.line ∷ lines_of_waits s.root.waits

-- n numbers one after another, the first is i
unfoldable pub up_from : (i n : ℕ) → List ℕ
up_from i zero = []
up_from i (suc n) = i ∷ up_from (suc i) n

-- the depth of a forest, whose own nodes have depth 1
unfoldable mutual
  pub depth_of_waits : Waits → ℕ
  depth_of_waits no_waits = 0
  depth_of_waits (wait line ms ws) = max (suc (depth_of_moves ms)) (depth_of_waits ws)

  pub depth_of_moves : Moves → ℕ
  depth_of_moves no_moves = 0
  depth_of_moves (move line c ws ms) = max (suc (depth_of_waits ws)) (depth_of_moves ms)

-- What a sheet that reads is: a board of 1 to 19 columns and rows, set-up stones on the board and none on the cell of one before
-- it, waits with at least one move, cells on the board, `-` at the root only, at most 2,048 nodes, at most depth 128, and nodes on
-- the lines after the header and the set-up lines
pub record WellRead (s : Sheet) : Type 0 where
  pub size : BoardSize s.board
  pub set_up_on_board : (c : Stone) → c ∈ s.set_up → T (is_cell s.board c.cell)
  pub set_up_once : (before after : List Stone) (c : Stone) → s.set_up ≡ before ++ c ∷ after → T (not (among (set_up_cells before) c.cell))
  pub some_moves : (w : Wait) → w ∈ every_wait s → w.moves ≢ no_moves
  pub on_board_lem : (m : Move) → m ∈ moves_of_waits s.root.waits → T (is_cell s.board m.cell)
  pub root_on_board : (s.root.cell ≡ 0) ⊎ T (is_cell s.board s.root.cell)
  pub few_nodes : move_count s + wait_count s ≤ most_nodes
  pub shallow : suc (depth_of_waits s.root.waits) ≤ most_depth
  pub first_line_lem : s.root.line ≡ length s.set_up + 2
  pub in_order : lines_of s ≡ up_from s.root.line (move_count s + wait_count s)

-- The text is what is written of the sheet, by document 01
pub record Spells (t : Bytes) (s : Sheet) : Type 0 where
  pub text : t ≡ written s
  pub well : WellRead s

-- Free: no set-up stone is on the move's own cell
pub record IsFree (b : Board) (cs : List Stone) (m : Move) : Type 0 where
  pub no_stone : T (is_cell b m.cell) → T (among (set_up_cells cs) m.cell) → ⊥

-- Apart: no cell of the board is the move's own and found under it, nor found in two or more of its waits
pub record IsApart (b : Board) (m : Move) : Type 0 where
  pub own_not_under : T (is_cell b m.cell) → T (in_waits m.waits m.cell) → ⊥
  pub in_one_wait : (x : ℕ) → T (is_cell b x) → holding m.waits x ≤ 1

-- A wait has a branch twice: among the branches of its moves one stands at two places
pub record StandsTwice (xs : List (List ℕ)) : Type 0 where
  pub before : List (List ℕ)
  pub its : List ℕ
  pub between : List (List ℕ)
  pub after : List (List ℕ)
  pub stands : xs ≡ before ++ its ∷ (between ++ its ∷ after)

abbrev pub HasTwice : Wait → Type 0
HasTwice w = StandsTwice (branches w.moves)

-- a tree with 0 for the number of each line
unfoldable mutual
  pub bare_waits : Waits → Waits
  bare_waits no_waits = no_waits
  bare_waits (wait line ms ws) = wait 0 (bare_moves ms) (bare_waits ws)

  pub bare_moves : Moves → Moves
  bare_moves no_moves = no_moves
  bare_moves (move line c ws ms) = move 0 c (bare_waits ws) (bare_moves ms)

-- Elusive: no cell of the board is found in every one of the wait's moves
pub record IsElusive (b : Board) (w : Wait) : Type 0 where
  pub no_cell_in_all : (x : ℕ) → T (is_cell b x) → T (in_every w.moves x) → ⊥

abbrev pub AllFree : Sheet → Type 0
AllFree s = (m : Move) → m ∈ every_move s → IsFree s.board s.set_up m

abbrev pub AllApart : Sheet → Type 0
AllApart s = (m : Move) → m ∈ every_move s → IsApart s.board m

abbrev pub NoneTwice : Sheet → Type 0
NoneTwice s = (w : Wait) → w ∈ every_wait s → HasTwice w → ⊥

abbrev pub AllElusive : Sheet → Type 0
AllElusive s = (w : Wait) → w ∈ every_wait s → IsElusive s.board w

abbrev pub AllJoin : Sheet → Type 0
AllJoin s = (o : List ℕ) → o ∈ outcomes s → Joins s.board s.player (among o)

-- the text and the workspace are within the sizes
pub record WithinSizes (workspace : ℕ) (t : Bytes) : Type 0 where
  pub enough : least_workspace ≤ workspace
  pub short : length t ≤ most_bytes

-- what is read: a text within the sizes that is what is written of the sheet
pub record IsRead (workspace : ℕ) (t : Bytes) (s : Sheet) : Type 0 where
  pub sizes : WithinSizes workspace t
  pub spells : Spells t s

-- what outcome asks of a sheet: all but that its outcomes join
pub record IsFair (workspace : ℕ) (t : Bytes) (s : Sheet) : Type 0 where
  pub read : IsRead workspace t s
  pub free : AllFree s
  pub apart : AllApart s
  pub none_twice : NoneTwice s
  pub elusive : AllElusive s
  pub few : outcome_count s ≤ most_outcomes

-- A sheet by document 01, with a workspace as it names it
pub record IsSheet (workspace : ℕ) (t : Bytes) (s : Sheet) : Type 0 where
  pub fair : IsFair workspace t s
  pub satisfying : AllJoin s

-- A fault is the first faulty node's, with its smallest faulty cell
pub record IsFirst {N : Type 0} (b : Board) (line : N → ℕ) (faulty : N → ℕ → Bool) (ns : List N) (f : Fault) : Type 0 where
  pub before : List N
  pub node : N
  pub after : List N
  pub stands : ns ≡ before ++ node ∷ after
  pub its_line : f.line ≡ line node
  pub its_cell : T (is_cell b f.cell) × T (faulty node f.cell)
  pub smallest_cell : (x : ℕ) → T (is_cell b x) → T (faulty node x) → f.cell ≤ x
  pub none_before : (n : N) → n ∈ before → (x : ℕ) → T (is_cell b x) → T (faulty n x) → ⊥

-- A line is that of the first wait with a branch twice
pub record IsFirstTwice (ws : List Wait) (line : ℕ) : Type 0 where
  pub before : List Wait
  pub its_wait : Wait
  pub after : List Wait
  pub stands : ws ≡ before ++ its_wait ∷ after
  pub its_line : line ≡ its_wait.line
  pub has_twice : HasTwice its_wait
  pub none_before : (w : Wait) → w ∈ before → HasTwice w → ⊥

-- An outcome's number is the smallest of those that do not join
pub record IsFirstUnjoined (s : Sheet) (i : ℕ) : Type 0 where
  pub is_number : i < outcome_count s
  pub not_joined : Joins s.board s.player (among (get_or (outcomes s) i [])) → ⊥
  pub joined_before : (j : ℕ) → j < i → Joins s.board s.player (among (get_or (outcomes s) j []))

-- The table's "given exactly when" for judge, in the paper's numbers: number, line, cell, index, and the counts; 3 to 9 and 19 are
-- the cases of `Unread`
pub data Given (workspace : ℕ) (t : Bytes) : Told → Type 0 where
  as_accepted : (s : Sheet) → IsSheet workspace t s → Given workspace t (told_accepted (counts s))
  as_small : workspace < least_workspace → Given workspace t (told_as 1 0 0 0)
  as_long : least_workspace ≤ workspace → most_bytes < length t → Given workspace t (told_as 2 0 0 0)
  as_unread : (v : Verdict) → WithinSizes workspace t → Unread t v → Given workspace t (told v)
  as_on_set_up : (s : Sheet) (f : Fault) → IsRead workspace t s → IsFirst s.board (λ m. m.line) (on_set_up s.set_up) (every_move s) f
      → Given workspace t (told_as 20 f.line f.cell 0)
  as_not_apart : (s : Sheet) (f : Fault) → IsRead workspace t s → AllFree s → IsFirst s.board (λ m. m.line) not_apart (every_move s) f
      → Given workspace t (told_as 10 f.line f.cell 0)
  as_twice : (s : Sheet) (line : ℕ) → IsRead workspace t s → AllFree s → AllApart s → IsFirstTwice (every_wait s) line
      → Given workspace t (told_as 24 line 0 0)
  as_not_elusive : (s : Sheet) (f : Fault) → IsRead workspace t s → AllFree s → AllApart s → NoneTwice s
      → IsFirst s.board (λ w. w.line) not_elusive (every_wait s) f → Given workspace t (told_as 11 f.line f.cell 0)
  as_too_many : (s : Sheet) → IsRead workspace t s → AllFree s → AllApart s → NoneTwice s → AllElusive s → most_outcomes < outcome_count s
      → Given workspace t (told_as 12 0 0 0)
  as_not_joined : (s : Sheet) (i : ℕ) → IsFair workspace t s → IsFirstUnjoined s i → Given workspace t (told_as 13 0 0 i)

-- A refusal of the reading, by its number
pub record OfReading (v : Verdict) : Type 0 where
  pub least : 3 ≤ (told v).number
  pub most : ((told v).number ≤ 9) ⊎ ((told v).number ≡ 19)

-- A sheet by document 01, with its counts
pub record AcceptedAs (workspace : ℕ) (t : Bytes) (n : Counts) : Type 0 where
  pub sheet : Sheet
  pub is_sheet : IsSheet workspace t sheet
  pub counts_are : n ≡ counts sheet
