-- Document 02: sheets that a request leaves alone "get the reply they got".
use Rattle.std.specs.Prelude.{◌≡◌, ℕ, List}
use Rattle.rules.specs.Text.{Bytes}
use Rattle.rules.specs.Tree.{Sheet}
use Rattle.rules.specs.Reading.{Result}
use Rattle.rules.specs.Entries.{accepted_by, judged, judge, play_of, play, outcome_by, outcome}

-- every entry's reply to the text is the one to what was read of it, by its workspace, with the checks that were made of a sheet
pub record SameReplies (t : Bytes) (was_read : (workspace : ℕ) → Result Sheet) (checks : Sheet → Result Sheet) : Type 0 where
  pub to_judge : (w : ℕ) → judge w t ≡ judged (accepted_by checks (was_read w))
  pub to_play : (w : ℕ) (xs : List ℕ) (room : ℕ) → play w t xs room ≡ play_of (accepted_by checks (was_read w)) xs room
  pub to_outcome : (w i room : ℕ) → outcome w t i room ≡ outcome_by checks (was_read w) i room
