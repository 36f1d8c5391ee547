-- "The sheet" and "Three entries", 3 to 9 and 19: the header, the set-up lines, then the nodes in preorder. The first line with
-- a fault decides.
use Rattle.std.specs.Prelude.{ℕ, zero, suc, ◌+◌, Bool, true, false, not, List, [], ◌∷◌, ◌++◌, eqb, length, if◌then◌else◌}
use Rattle.std.proofs.Math.Option.{Option, none, some}
use Rattle.rules.specs.Sizes.{largest, most_nodes, most_depth}
use Rattle.rules.specs.Words.{among}
use Rattle.rules.specs.Board.{on_board, cell_at}
use Rattle.rules.specs.Text.{Bytes, Reader, ◌or_else◌}
use Rattle.rules.specs.Lines.{Line, Place, Header, header_up_to, SetUpLine, set_up_line, move_line, dash_line, wait_line}
use Rattle.rules.specs.Tree.{Wait, Move, no_waits, no_moves, as_waits, as_moves, Stone, set_up_cells, Sheet}
use Rattle.rules.specs.declared.Board.{Board}
use Rattle.rules.specs.declared.Verdict.{Verdict}
use Rattle.rules.specs.declared.Verdict.TheVariants.{BadHeader, BadLine, OffBoard, TooManyNodes, TooDeep, Unfinished, TextAfter, SetUpTwice}

-- a refusal, or what was got
pub data Result (X : Type 0) : Type 0 where
  refused : Verdict → Result X
  got : X → Result X

-- where the reading stands: the text that is left, the number of the line that it begins with, the nodes read so far
pub record Spot : Type 0 where
  pub text : Bytes
  pub line : ℕ
  pub nodes : ℕ

abbrev pub Reading : Type 0 → Type 0
Reading X = Spot → Result (X × Spot)

infixl 5 ◌>>=◌
-- one reading after another; a refusal ends it
unfoldable pub go : {X Y : Type 0} → Result (X × Spot) → (X → Reading Y) → Result (Y × Spot)
go (refused v) f = refused v
go (got x) f = f x.0 x.1

abbrev pub ◌>>=◌ : {X Y : Type 0} → Reading X → (X → Reading Y) → Reading Y
◌>>=◌ r f = λ s. go (r s) f

unfoldable pub give : {X : Type 0} → X → Reading X
give x s = got (x, s)

-- the cell that a line names, if any, is on the board
unfoldable pub within : Board → Option Place → Bool
within b none = true
within b (some p) = on_board b p.column p.row

-- its number; 0 where the line names none
unfoldable pub cell_of : Board → Option Place → ℕ
cell_of b none = 0
cell_of b (some p) = cell_at b p.column p.row

-- a node as its line has it: the line's number, its cell's number, the number of nodes right under it
pub record Node : Type 0 where
  pub line : ℕ
  pub cell : ℕ
  pub under : ℕ

-- refused with the line's number where the test passes
unfoldable pub refuse_here : Bool → (ℕ → Verdict) → Reading (Unit {0})
refuse_here true v s = refused (v s.line)
refuse_here false v s = give tt s

-- a line with the text after it; refused with the line's number where there is none
unfoldable pub line_here : Option (Line × Bytes) → (ℕ → Verdict) → Reading (Line × Bytes)
line_here none v s = refused (v s.line)
line_here (some x) v s = give x s

-- the line's node, and the spot after it
unfoldable pub node_here : Board → Line × Bytes → Reading Node
node_here b x s =
    got (
      record { line = s.line; cell = cell_of b x.0.place; under = x.0.under },
      record { text = x.1; line = s.line + 1; nodes = s.nodes + 1 },
    )

unfoldable pub this_spot : Reading Spot
this_spot s = give s s

unfoldable pub is_nothing : Bytes → Bool
is_nothing [] = true
is_nothing (_ ∷ _) = false

-- The next node's line, which r reads, where so many levels are left: refused in this order, or its node
unfoldable pub node_line : Board → Reader Line → (levels : ℕ) → Reading Node
node_line b r levels = do
  s ← this_spot
  -- 8: the text ends and the tree is unfinished
  _ ← refuse_here (is_nothing s.text) Unfinished
  -- 6: a 2,049th node line begins while the tree is unfinished
  _ ← refuse_here (eqb s.nodes most_nodes) TooManyNodes
  -- 4: a node line malformed, of the wrong kind, or without its line feed
  x ← line_here (r s.text) BadLine
  -- 7: a node at depth 129
  _ ← refuse_here (eqb levels 0) TooDeep
  -- 5: a cell off the board
  _ ← refuse_here (not (within b x.0.place)) OffBoard
  node_here b x

-- n of a kind one after another
unfoldable pub in_turn : {X : Type 0} → ℕ → Reading X → Reading (List X)
in_turn zero one = give []
in_turn (suc n) one = do
  x ← one
  xs ← in_turn n one
  give (x ∷ xs)

-- a move whose line r reads, or a wait, with all that is under it, where so many levels are left, its own among them.
-- (Where none is left the line is refused, and nothing is given.)
unfoldable mutual
  pub read_move : (levels : ℕ) → Board → Reader Line → Reading Move
  read_move zero b r = do
    n ← node_line b r zero
    give (record { line = n.line; cell = n.cell; waits = no_waits })
  read_move (suc levels) b r = do
    n ← node_line b r (suc levels)
    ws ← in_turn n.under (read_wait levels b)
    give (record { line = n.line; cell = n.cell; waits = as_waits ws })

  pub read_wait : (levels : ℕ) → Board → Reading Wait
  read_wait zero b = do
    n ← node_line b wait_line zero
    give (record { line = n.line; moves = no_moves })
  read_wait (suc levels) b = do
    n ← node_line b wait_line (suc levels)
    ms ← in_turn n.under (read_move levels b move_line)
    give (record { line = n.line; moves = as_moves ms })

-- 9: text remains after the tree
unfoldable pub ended : Header → List Stone → Result (Move × Spot) → Result Sheet
ended h cs (refused v) = refused v
ended h cs (got x) =
    elim x.1.text [
      | [] ↦ got (record { board = h.board; player = h.player; set_up = cs; root = x.0 })
      | ◌∷◌ _ _ ↦ refused (TextAfter x.1.line)
    ]

-- the stone of a set-up line, after those on the cells before. 5: its cell is off the board; then 19: its cell is named twice
unfoldable pub set_down : Board → (before : List ℕ) → (line : ℕ) → SetUpLine → Result Stone
set_down b before line l =
    let x = cell_at b l.place.column l.place.row in
    if not (on_board b l.place.column l.place.row)
    then refused (OffBoard line)
    else (if among before x then refused (SetUpTwice line x) else got (record { side = l.side; cell = x }))

-- the set-up lines, as far as they go, after those of the stones before; with the text after them. (`most` is as many as there
-- can be. A malformed set-up line is none, so that it is refused with 4 in the first node's place.)
unfoldable pub read_set_up : (most : ℕ) → Board → (before : List Stone) → Bytes → Result (List Stone × Bytes)
read_set_up zero b before t = got (before, t)
read_set_up (suc most) b before t =
    elim (set_up_line t) [
      | none ↦ got (before, t)
      | some x ↦
          elim (set_down b (set_up_cells before) (length before + 2) x.0) [
            | refused v ↦ refused v
            | got c ↦ read_set_up most b (before ++ c ∷ []) x.1
          ]
    ]

-- the tree after them; its first node is a move
unfoldable pub read_tree : Header → List Stone → Bytes → Result Sheet
read_tree h cs t = ended h cs (read_move most_depth h.board (move_line or_else dash_line) (record { text = t; line = length cs + 2; nodes = 0 }))

-- a refusal of the set-up lines, or the tree after them
unfoldable pub planted : Header → Result (List Stone × Bytes) → Result Sheet
planted h (refused v) = refused v
planted h (got x) = read_tree h x.0 x.1

-- the body after the header line is read as a text that begins where the header ended
unfoldable pub read_body : Header → Bytes → Result Sheet
read_body h t = planted h (read_set_up (length t) h.board [] t)

-- 3: line 1 not a header
unfoldable pub headed : Option (Header × Bytes) → Result Sheet
headed none = refused BadHeader
headed (some x) = read_body x.0 x.1

-- a sheet's text, of a board of up to so many columns and rows
unfoldable pub read_sheet_up_to : (most : ℕ) → Bytes → Result Sheet
read_sheet_up_to most t = headed (header_up_to most t)

abbrev pub read_sheet : Bytes → Result Sheet
read_sheet t = read_sheet_up_to largest t
