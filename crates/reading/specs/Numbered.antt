-- The number of the cell that a line names, where it is on the board.
use Rattle.std.specs.Prelude.{ℕ, if◌then◌else◌}
use Rattle.std.specs.Prelude as code
use Rattle.std.proofs.Math.Option.{Option}
use Rattle.rules.specs.Lines.{Place}
use Rattle.rules.specs.Reading.{within, cell_of}
use Rattle.rules.specs.declared.Board.{Board}

abbrev pub numbered : Board → Option Place → code.Option ℕ
numbered b p = if within b p then code.Some (cell_of b p) else code.None
