-- What the reading functions answer, beside what the readers of rules answer: what was read, by the paper's words, and the text after it.
use Rattle.std.specs.Prelude.{◌≡◌, ℕ, ◌<◌, length}
use Rattle.std.specs.Prelude as code
use Rattle.std.specs.Borrow.{Bor}
use Rattle.std.proofs.Math.Option.{Option, none, some}
use Rattle.rules.specs.Text.{Bytes, Reader}
use Rattle.rules.specs.Lines as L
use Rattle.rules.specs.declared.Board.{Board}
use Rattle.rules.specs.declared.Player.{Player}
use Rattle.lines.specs.declared.nodes.Place.{Place}
use Rattle.lines.specs.declared.nodes.Line.{Line}
use Rattle.lines.specs.declared.set_up.Side.{Side}
use Rattle.lines.specs.declared.set_up.SetUpLine.{SetUpLine}
use Rattle.lines.specs.declared.header.Header.{Header}

-- the text after what was read is shorter
abbrev pub Shorter : {A : Type 0} → Bytes → Option (A × Bytes) → Type 0
Shorter s none = Unit {0}
Shorter s (some x) = length x.1 < length s

-- of a text, the reader gives this answer
pub record Reads {A : Type 0} (s : Bytes) (reader : Reader A) (answer : Option (A × Bytes)) : Type 0 where
  pub same : answer ≡ reader s
  pub shorter : Shorter s answer

-- the text after what has nothing to say
abbrev pub skipped : code.Option (Bor Bytes) → Option (Unit {0} × Bytes)
skipped (code.Some t) = some (tt, t.now)
skipped code.None = none

-- what was read, as f sees it, and the text after it
abbrev pub seen_as : {A B : Type 0} → (A → B) → code.Option (A × Bor Bytes) → Option (B × Bytes)
seen_as f (code.Some x) = some (f x.0, x.1.now)
seen_as f code.None = none

abbrev pub number_seen : code.Option (ℕ × Bor Bytes) → Option (ℕ × Bytes)
number_seen = seen_as (λ n. n)

-- a cell by its column and row
abbrev pub place_of : Place → L.Place
place_of p = record { column = p.column; row = p.row }

abbrev pub place_seen : code.Option (Place × Bor Bytes) → Option (L.Place × Bytes)
place_seen = seen_as place_of

-- the cell that a line names, if it names one
abbrev pub name_of : code.Option Place → Option L.Place
name_of (code.Some p) = some (place_of p)
name_of code.None = none

abbrev pub name_seen : code.Option (code.Option Place × Bor Bytes) → Option (Option L.Place × Bytes)
name_seen = seen_as name_of

abbrev pub said : Line → L.Line
said l = record { place = name_of l.place; under = l.under }

abbrev pub line_seen : code.Option (Line × Bor Bytes) → Option (L.Line × Bytes)
line_seen = seen_as said

-- whose a set-up stone is
abbrev pub side_of : Side → L.Side
side_of Side.Own = L.own
side_of Side.Opp = L.opp

abbrev pub side_seen : code.Option (Side × Bor Bytes) → Option (L.Side × Bytes)
side_seen = seen_as side_of

abbrev pub set_up_of : SetUpLine → L.SetUpLine
set_up_of l = record { side = side_of l.side; place = place_of l.place }

abbrev pub set_up_seen : code.Option (SetUpLine × Bor Bytes) → Option (L.SetUpLine × Bytes)
set_up_seen = seen_as set_up_of

abbrev pub board_seen : code.Option (Board × Bor Bytes) → Option (Board × Bytes)
board_seen = seen_as (λ b. b)

abbrev pub player_seen : code.Option (Player × Bor Bytes) → Option (Player × Bytes)
player_seen = seen_as (λ p. p)

abbrev pub header_of : Header → L.Header
header_of h = record { board = h.board; player = h.player }

abbrev pub header_seen : code.Option (Header × Bor Bytes) → Option (L.Header × Bytes)
header_seen = seen_as header_of
