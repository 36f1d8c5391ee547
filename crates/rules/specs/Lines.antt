-- "The sheet": line 1, the set-up lines, and the lines of moves and waits.
use Rattle.std.specs.Prelude.{ℕ, ◌-◌, Bool, true, false, ◌&&◌, leb}
use Rattle.std.proofs.Math.Option.{Option, none, some}
use Rattle.rules.specs.Sizes.{largest, highest_row, most_under}
use Rattle.rules.specs.Text.{Reader, ◌>>=◌, ◌>>◌, ◌or_else◌, give, guard, any_byte, word, tab, line_feed, number_in}
use Rattle.rules.specs.declared.Board.{Board}
use Rattle.rules.specs.declared.LineKind.{LineKind}
use Rattle.rules.specs.declared.LineKind.TheVariants.{First, Move, Wait}
use Rattle.rules.specs.declared.Player.{Player}
use Rattle.rules.specs.declared.Player.TheVariants.{D, A}

-- what line 1 says
pub record Header : Type 0 where
  pub board : Board
  pub player : Player

-- a cell as it is written: its column and its row
pub record Place : Type 0 where
  pub column : ℕ
  pub row : ℕ

-- what a node line says: its cell, if it names one, and the number of nodes right under it
pub record Line : Type 0 where
  pub place : Option Place
  pub under : ℕ

-- a set-up stone is the player's own or the opponent's
pub data Side : Type 0 where
  own : Side
  opp : Side

unfoldable pub is_side : Side → Side → Bool
is_side own own = true
is_side own opp = false
is_side opp own = false
is_side opp opp = true

-- what a set-up line says
pub record SetUpLine : Type 0 where
  pub side : Side
  pub place : Place

-- `D` or `A`
unfoldable pub player : Reader Player
player = (word "D" >> give D) or_else (word "A" >> give A)

-- line 1: `hex`, columns, rows, `D` or `A`, of a board of up to so many columns and rows
unfoldable pub header_up_to : (most : ℕ) → Reader Header
header_up_to most = do
  word "hex"
  tab
  c ← number_in 1 most
  tab
  r ← number_in 1 most
  tab
  p ← player
  line_feed
  give (record { board = record { columns = c; rows = r }; player = p })

abbrev pub header_line : Reader Header
header_line = header_up_to largest

-- the column of a lower-case letter
unfoldable pub letter : Reader ℕ
letter = do
  b ← any_byte
  guard (leb 97 b && leb b 122)
  give (b - 96)

-- a cell is a lower-case letter and a number 1 to 99
unfoldable pub place : Reader Place
place = do
  c ← letter
  r ← number_in 1 highest_row
  give (record { column = c; row = r })

-- a set-up line: `own` or `opp`, cell
unfoldable pub side : Reader Side
side = (word "own" >> give own) or_else (word "opp" >> give opp)

unfoldable pub set_up_line : Reader SetUpLine
set_up_line = do
  o ← side
  tab
  p ← place
  line_feed
  give (record { side = o; place = p })

-- a move: `m`, cell, number of waits under it (0 to 2047)
unfoldable pub move_line : Reader Line
move_line = do
  word "m"
  tab
  p ← place
  tab
  n ← number_in 0 most_under
  line_feed
  give (record { place = some p; under = n })

-- only the first node may have `-` instead
unfoldable pub dash_line : Reader Line
dash_line = do
  word "m"
  tab
  word "-"
  tab
  n ← number_in 0 most_under
  line_feed
  give (record { place = none; under = n })

-- a wait: `w`, number of moves under it (1 to 2047)
unfoldable pub wait_line : Reader Line
wait_line = do
  word "w"
  tab
  n ← number_in 1 most_under
  line_feed
  give (record { place = none; under = n })

-- the reader of each kind of node line: only the first node may have `-` instead of a cell
abbrev pub reader_of : LineKind → Reader Line
reader_of First = move_line or_else dash_line
reader_of Move = move_line
reader_of Wait = wait_line

-- the first node is a move; under a move stand waits, under a wait moves
abbrev pub kind_under : LineKind → LineKind
kind_under First = Wait
kind_under Move = Wait
kind_under Wait = Move
