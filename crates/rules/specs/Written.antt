-- "The sheet": the text of a sheet as it is written, which is what the readers read.
use Rattle.std.specs.Prelude.{ℕ, zero, suc, ◌+◌, List, [], ◌∷◌, ◌++◌}
use Rattle.std.proofs.Math.Option.{Option, none, some}
use Prim.Native.Char.{code}
use Prim.Native.String as S
use Rattle.rules.specs.Board.{column_of, row_of}
use Rattle.rules.specs.Text.{Bytes}
use Rattle.rules.specs.Decimal.{decimal}
use Rattle.rules.specs.Lines.{Place, Side, own, opp}
use Rattle.rules.specs.Tree.{Waits, no_waits, wait, Moves, no_moves, move, Stone, Sheet}
use Rattle.rules.specs.declared.Board.{Board}
use Rattle.rules.specs.declared.Player.{Player}
use Rattle.rules.specs.declared.Player.TheVariants.{D, A}

-- the bytes of a word
unfoldable pub printed : S.String → Bytes
printed S.[] = []
printed (S.◌∷◌ c s) = code c ∷ printed s

-- a line's fields: the first, and the others each after a tab; the line ends in a line feed
unfoldable pub tabbed : List Bytes → Bytes
tabbed [] = 10 ∷ []
tabbed (f ∷ fs) = 9 ∷ f ++ tabbed fs

unfoldable pub a_line : (first : Bytes) (others : List Bytes) → Bytes
a_line f fs = f ++ tabbed fs

unfoldable pub written_player : Player → Bytes
written_player D = printed "D"
written_player A = printed "A"

-- line 1: `hex`, columns, rows, `D` or `A`
unfoldable pub written_header : Board → Player → Bytes
written_header b p = a_line (printed "hex") (decimal b.columns ∷ decimal b.rows ∷ written_player p ∷ [])

-- a cell is its column's letter and its row's number; `-` stands for no cell
unfoldable pub written_place : Option Place → Bytes
written_place none = printed "-"
written_place (some p) = (96 + p.column) ∷ decimal p.row

unfoldable pub place_of : Board → ℕ → Option Place
place_of b zero = none
place_of b (suc x) = some (record { column = column_of b (suc x); row = row_of b (suc x) })

-- a set-up line: `own` or `opp`, cell; the set-up lines one after another
unfoldable pub written_side : Side → Bytes
written_side own = printed "own"
written_side opp = printed "opp"

unfoldable pub written_set_up : Side → Option Place → Bytes
written_set_up o p = a_line (written_side o) (written_place p ∷ [])

unfoldable pub written_stones : Board → List Stone → Bytes
written_stones b [] = []
written_stones b (c ∷ cs) = written_set_up c.side (place_of b c.cell) ++ written_stones b cs

-- the number of waits right under a move, and of moves right under a wait
unfoldable pub how_many_waits : Waits → ℕ
how_many_waits no_waits = 0
how_many_waits (wait line ms ws) = suc (how_many_waits ws)

unfoldable pub how_many_moves : Moves → ℕ
how_many_moves no_moves = 0
how_many_moves (move line c ws ms) = suc (how_many_moves ms)

-- a move: `m`, cell, number of waits under it. A wait: `w`, number of moves under it
unfoldable pub written_move : Option Place → (under : ℕ) → Bytes
written_move p n = a_line (printed "m") (written_place p ∷ decimal n ∷ [])

unfoldable pub written_wait : (under : ℕ) → Bytes
written_wait n = a_line (printed "w") (decimal n ∷ [])

-- the nodes in preorder
unfoldable mutual
  pub written_waits : Board → Waits → Bytes
  written_waits b no_waits = []
  written_waits b (wait line ms ws) = written_wait (how_many_moves ms) ++ written_moves b ms ++ written_waits b ws

  pub written_moves : Board → Moves → Bytes
  written_moves b no_moves = []
  written_moves b (move line c ws ms) = written_move (place_of b c) (how_many_waits ws) ++ written_waits b ws ++ written_moves b ms

-- the whole text: the header, the set-up lines, the root's line, and what stands under it
unfoldable pub written : Sheet → Bytes
written s =
    written_header s.board s.player
    ++ written_stones s.board s.set_up
    ++ written_move (place_of s.board s.root.cell) (how_many_waits s.root.waits)
    ++ written_waits s.board s.root.waits
