-- "Three entries", 3 to 9 and 19, in plain words: how far a text is a sheet's, and what is wrong there. Nothing is read here: a text is
-- compared with what is written.
use Rattle.std.specs.Prelude.{◌≡◌, ◌≢◌, ℕ, zero, suc, ◌+◌, ◌≤◌, ◌<◌, List, [], ◌∷◌, ◌++◌, not, T, length}
use Rattle.std.proofs.Math.Option.{none, some}
use Rattle.rules.specs.Sizes.{largest, highest_row, most_under, most_nodes, most_depth}
use Rattle.rules.specs.Words.{among}
use Rattle.rules.specs.Board.{on_board, cell_at}
use Rattle.rules.specs.Text.{Bytes}
use Rattle.rules.specs.Lines.{Place, Line, Side, kind_under}
use Rattle.rules.specs.Tree.{Stone, set_up_cells}
use Rattle.rules.specs.Written.{written_header, written_set_up, written_move, written_wait}
use Rattle.rules.specs.Reading.{within}
use Rattle.rules.specs.declared.Board.{Board}
use Rattle.rules.specs.declared.LineKind.{LineKind}
use Rattle.rules.specs.declared.LineKind.TheVariants as K
use Rattle.rules.specs.declared.Player.{Player}
use Rattle.rules.specs.declared.Verdict.{Verdict}
use Rattle.rules.specs.declared.Verdict.TheVariants.{BadHeader, BadLine, OffBoard, TooManyNodes, TooDeep, Unfinished, TextAfter, SetUpTwice}

-- a board has 1 to so many columns and rows; the largest has 19
pub record BoardUpTo (most : ℕ) (b : Board) : Type 0 where
  pub columns : (1 ≤ b.columns) × (b.columns ≤ most)
  pub rows : (1 ≤ b.rows) × (b.rows ≤ most)

abbrev pub BoardSize : Board → Type 0
BoardSize b = BoardUpTo largest b

-- a place that can be written: a letter and a number 1 to 99
pub record Nameable (p : Place) : Type 0 where
  pub letters : (1 ≤ p.column) × (p.column ≤ 26)
  pub rows : (1 ≤ p.row) × (p.row ≤ highest_row)

-- A well-formed line of a kind, with its line feed: its text, and what it says. A move: `m`, cell, number of waits under it (0
-- to 2047); only the first node may have `-` instead. A wait: `w`, number of moves under it (1 to 2047)
pub data IsLine : LineKind → Bytes → Line → Type 0 where
  of_move : (p : Place) (n : ℕ) → Nameable p → n ≤ most_under → IsLine K.Move (written_move (some p) n) (record { place = some p; under = n })
  of_first : (p : Place) (n : ℕ) → Nameable p → n ≤ most_under → IsLine K.First (written_move (some p) n) (record { place = some p; under = n })
  of_dash : (n : ℕ) → n ≤ most_under → IsLine K.First (written_move none n) (record { place = none; under = n })
  of_wait : (n : ℕ) → 1 ≤ n → n ≤ most_under → IsLine K.Wait (written_wait n) (record { place = none; under = n })

-- A node that is due, which is still to come: its kind and its depth
pub record Due : Type 0 where
  pub kind : LineKind
  pub depth : ℕ

-- what is due after a node's line: the n nodes right under it, then what was due after the node
unfoldable pub due_after : Due → (n : ℕ) → List Due → List Due
due_after d zero ds = ds
due_after d (suc n) ds = record { kind = kind_under d.kind; depth = suc d.depth } ∷ due_after d n ds

-- no set-up line begins the text
unfoldable pub NoSetUp : Bytes → Type 0
NoSetUp left = (o : Side) (p : Place) (after : Bytes) → Nameable p → left ≢ (written_set_up o (some p) ++ after)

-- the cell at a place
abbrev pub cell_on : Board → Place → ℕ
cell_on b p = cell_at b p.column p.row

-- How far a text is a sheet's: it begins with line 1, then with the set-up lines of these stones, all as they should be; this
-- text is left. (So the next line's number is 2 and as many more as there are stones.)
pub data SetUp (t : Bytes) (b : Board) : List Stone → (left : Bytes) → Type 0 where
  after_header : (p : Player) (left : Bytes) → BoardSize b → t ≡ written_header b p ++ left → SetUp t b [] left
  after_stone : (cs : List Stone) (o : Side) (p : Place) (left : Bytes) → SetUp t b cs (written_set_up o (some p) ++ left) → Nameable p
      → T (on_board b p.column p.row) → T (not (among (set_up_cells cs) (cell_on b p)))
      → SetUp t b (cs ++ record { side = o; cell = cell_on b p } ∷ []) left

-- Further: it begins with line 1 and all set-up lines, which the line with number `first` follows, then with the lines of n nodes
-- in preorder, all as they should be; these nodes are due then, and this text is left. (So the next line's number is n + first,
-- and the tree is unfinished while a node is due.)
pub data Begins (t : Bytes) (b : Board) (first : ℕ) : (n : ℕ) → List Due → (left : Bytes) → Type 0 where
  after_set_up : (cs : List Stone) (left : Bytes) → SetUp t b cs left → NoSetUp left → first ≡ length cs + 2
      → Begins t b first 0 (record { kind = K.First; depth = 1 } ∷ []) left
  after_line : (n : ℕ) (d : Due) (ds : List Due) (line left : Bytes) (l : Line) → Begins t b first n (d ∷ ds) (line ++ left) → IsLine d.kind line l
      → n < most_nodes → d.depth ≤ most_depth → T (within b l.place) → Begins t b first (n + 1) (due_after d l.under ds) left

-- The table's "given exactly when" for 3 to 9 and 19. The order is 8 or 9 where they apply, else 6, 4, 7, 5
pub data Unread (t : Bytes) : Verdict → Type 0 where
  -- 3: line 1 not a header as above (empty text too)
  no_header : ((b : Board) (p : Player) (left : Bytes) → BoardSize b → t ≢ (written_header b p ++ left)) → Unread t BadHeader
  -- 4: a node line malformed, of the wrong kind, or without its line feed. (So is a malformed set-up line: no set-up line begins
  -- there, and a node is due)
  no_line : (b : Board) (first n : ℕ) (d : Due) (ds : List Due) (left : Bytes) → Begins t b first n (d ∷ ds) left → left ≢ [] → n < most_nodes
      → ((line after : Bytes) (l : Line) → IsLine d.kind line l → left ≢ (line ++ after)) → Unread t (BadLine (n + first))
  -- 5: a cell off the board
  off_board : (b : Board) (first n : ℕ) (d : Due) (ds : List Due) (line after : Bytes) (l : Line) → Begins t b first n (d ∷ ds) (line ++ after)
      → IsLine d.kind line l → n < most_nodes → d.depth ≤ most_depth → (T (within b l.place) → ⊥) → Unread t (OffBoard (n + first))
  -- 5 and 19 at a set-up line: its cell off the board, or named before
  stone_off : (b : Board) (cs : List Stone) (o : Side) (p : Place) (after : Bytes) → SetUp t b cs (written_set_up o (some p) ++ after) → Nameable p
      → (T (on_board b p.column p.row) → ⊥) → Unread t (OffBoard (length cs + 2))
  stone_twice : (b : Board) (cs : List Stone) (o : Side) (p : Place) (after : Bytes) → SetUp t b cs (written_set_up o (some p) ++ after) → Nameable p
      → T (on_board b p.column p.row) → T (among (set_up_cells cs) (cell_on b p)) → Unread t (SetUpTwice (length cs + 2) (cell_on b p))
  -- 6: a 2,049th node line begins while the tree is unfinished
  one_too_many : (b : Board) (first : ℕ) (d : Due) (ds : List Due) (left : Bytes) → Begins t b first most_nodes (d ∷ ds) left → left ≢ []
      → Unread t (TooManyNodes (most_nodes + first))
  -- 7: a node at depth 129
  too_deep : (b : Board) (first n : ℕ) (d : Due) (ds : List Due) (line after : Bytes) (l : Line) → Begins t b first n (d ∷ ds) (line ++ after)
      → IsLine d.kind line l → n < most_nodes → d.depth ≡ most_depth + 1 → Unread t (TooDeep (n + first))
  -- 8: the text ends and the tree is unfinished
  text_ends : (b : Board) (first n : ℕ) (d : Due) (ds : List Due) → Begins t b first n (d ∷ ds) [] → Unread t (Unfinished (n + first))
  -- 9: text remains after the tree
  text_remains : (b : Board) (first n : ℕ) (left : Bytes) → Begins t b first n [] left → left ≢ [] → Unread t (TextAfter (n + first))
