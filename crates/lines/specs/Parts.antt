-- The parts of lines that the code reads, as readers.
use Rattle.std.specs.Prelude.{ℕ, Bool, true, false}
use Rattle.std.proofs.Math.Option.{Option, none, some}
use Rattle.rules.specs.Sizes.{largest}
use Rattle.rules.specs.Text.{Reader, ◌>>=◌, ◌>>◌, ◌or_else◌, give, byte, word, tab, line_feed, number_in}
use Rattle.rules.specs.Lines.{Place, Line, place, move_line, dash_line}
use Rattle.rules.specs.declared.Board.{Board}

-- a word of three letters
abbrev pub three : (first second third : ℕ) → Reader (Unit {0})
three a b c = byte a >> (byte b >> (byte c >> give tt))

-- a line's first letter and the tab after it
abbrev pub begun : ℕ → Reader (Unit {0})
begun b = byte b >> tab

-- a tab, and the columns or the rows of a board
abbrev pub size : Reader ℕ
size = tab >> number_in 1 largest

abbrev pub board : Reader Board
board = do
  c ← size
  r ← size
  give (record { columns = c; rows = r })

-- a line's last field, and the line's end
abbrev pub closed : {A : Type 0} → Reader A → Reader A
closed field = do
  a ← field
  line_feed
  give a

-- a cell, or where it may stand, `-` instead
abbrev pub a_cell : Reader (Option Place)
a_cell = do
  p ← place
  give (some p)

abbrev pub dashed : Reader (Option Place)
dashed = word "-" >> give none

abbrev pub name : (dash : Bool) → Reader (Option Place)
name false = a_cell
name true = a_cell or_else dashed

-- a move's line: the first node's, where `-` may stand, or another's
abbrev pub cell_line : (dash : Bool) → Reader Line
cell_line false = move_line
cell_line true = move_line or_else dash_line
