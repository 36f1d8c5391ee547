-- C-14 "Patterns by name": the lines of a typed sheet, and what each of them says.
use Rattle.std.specs.Prelude.{ℕ, zero, suc, Bool, not, ◌&&◌, ◌||◌, List, [], ◌∷◌, eqb, leb, length, if◌then◌else◌}
use Rattle.std.proofs.Math.Option.{none, some}
use Rattle.rules.specs.Sizes.{most_under, longest_name, most_parameters, most_lines}
use Rattle.rules.specs.Words.{same}
use Rattle.rules.specs.Text.{Bytes, Reader, ◌>>=◌, ◌>>◌, ◌or_else◌, give, word, tab, line_feed, is_digit, number_in}
use Rattle.rules.specs.Lines.{Place, place, wait_line}
use Rattle.rules.specs.Written.{printed}

-- The lines of a text, each with its line feed; the last one may lack it
unfoldable pub in_front : ℕ → List Bytes → List Bytes
in_front b [] = (b ∷ []) ∷ []
in_front b (l ∷ ls) = (b ∷ l) ∷ ls

unfoldable pub lines_in : Bytes → List Bytes
lines_in [] = []
lines_in (b ∷ t) = if eqb b 10 then (b ∷ []) ∷ lines_in t else in_front b (lines_in t)

-- the longest beginning of the text whose bytes all pass the test, and the text after it
unfoldable pub run : (ℕ → Bool) → Bytes → Bytes
run p [] = []
run p (b ∷ t) = if p b then b ∷ run p t else []

unfoldable pub after_run : (ℕ → Bool) → Bytes → Bytes
after_run p [] = []
after_run p (b ∷ t) = if p b then after_run p t else b ∷ t

-- a line's first field: up to the first tab, line feed or end
unfoldable pub in_field : ℕ → Bool
in_field b = not (eqb b 9) && not (eqb b 10)

unfoldable pub first_field : Bytes → Bytes
first_field l = run in_field l

-- a `pat` or a `use` line, well formed or not
unfoldable pub is_pat_or_use : Bytes → Bool
is_pat_or_use l = same (first_field l) (printed "pat") || same (first_field l) (printed "use")

-- names are 1 to 16 lower-case letters or digits
unfoldable pub in_name : ℕ → Bool
in_name b = (leb 97 b && leb b 122) || is_digit b

unfoldable pub name : Reader Bytes
name t =
    if leb 1 (length (run in_name t)) && leb (length (run in_name t)) longest_name
    then some (run in_name t, after_run in_name t)
    else none

-- What stands for a cell: the cell itself, `-`, or a parameter of the pattern
pub data Cell : Type 0 where
  named : Place → Cell
  unnamed : Cell
  parameter : (number : ℕ) → Cell

-- in a pattern of so many parameters `$1`, `$2` and so on stand for cells; outside a pattern there are none
unfoldable pub cell_among : (parameters : ℕ) → Reader Cell
cell_among n =
    (do
      p ← place
      give (named p))
    or_else do
      word "$"
      k ← number_in 1 n
      give (parameter k)

unfoldable pub dash : Reader Cell
dash = word "-" >> give unnamed

-- A line of the tree, or of a pattern: `m`, `w` or `use`
pub data Typed : Type 0 where
  move : Cell → (waits : ℕ) → Typed
  wait : (moves : ℕ) → Typed
  use_of : (name : Bytes) → List Cell → Typed

-- `m`, cell, number of waits under it; what may stand for the cell is said by its reader
unfoldable pub move_typed : Reader Cell → Reader Typed
move_typed r = do
  word "m"
  tab
  c ← r
  tab
  n ← number_in 0 most_under
  line_feed
  give (move c n)

-- `w`, number of moves under it
unfoldable pub wait_typed : Reader Typed
wait_typed = do
  l ← wait_line
  give (wait l.under)

-- a reader again and again, as often as it reads. (It takes a byte at least each time, so as many times as the text has bytes will do.)
unfoldable pub times : {A : Type 0} → ℕ → Reader A → Reader (List A)
times zero r = give []
times (suc n) r =
    (do
      x ← r
      xs ← times n r
      give (x ∷ xs))
    or_else give []

unfoldable pub repeated : {A : Type 0} → Reader A → Reader (List A)
repeated r t = times (length t) r t

-- `use`, name, cells
unfoldable pub use_typed : Reader Cell → Reader Typed
use_typed r = do
  word "use"
  tab
  n ← name
  cs ← repeated (tab >> r)
  line_feed
  give (use_of n cs)

-- a line in a pattern of so many parameters; in the tree there are none
unfoldable pub typed_line : (parameters : ℕ) → Reader Typed
typed_line n = move_typed (cell_among n) or_else wait_typed or_else use_typed (cell_among n)

-- the first line of the tree may have `-` instead of the cell
unfoldable pub first_typed : Reader Typed
first_typed = typed_line 0 or_else move_typed dash

-- `pat`, name, number of parameters, number of lines
pub record Pat : Type 0 where
  pub name : Bytes
  pub parameters : ℕ
  pub lines : ℕ

unfoldable pub pat_typed : Reader Pat
pat_typed = do
  word "pat"
  tab
  n ← name
  tab
  k ← number_in 0 most_parameters
  tab
  l ← number_in 1 most_lines
  line_feed
  give (record { name = n; parameters = k; lines = l })
