-- A run of digits at the front of a text: the number that it spells, as far as the code counts, and how many there are.
use Rattle.std.specs.Prelude.{ℕ, min, length}
use Rattle.rules.specs.Text.{Bytes, digits, spelled}
use Rattle.lines.specs.declared.numbers.Run.{Run}

-- the code counts no further than this
abbrev pub ceiling : ℕ
ceiling = 100000

-- the run of a text
unfoldable pub run_of : Bytes → Run
run_of t = record { value = min ceiling (spelled 0 (digits t)); long = length (digits t) }
