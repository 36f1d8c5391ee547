-- Line by line; the text that is left falls.
use Rattle.std.proofs.Common.{length}
use Rattle.reading.proofs.SettingUp.{SettingUp}
use Rattle.reading.proofs.read_set_up.Given as goal

abbrev pub invariant-loop-after : goal.invariant-loop-after
invariant-loop-after l = SettingUp l.grid.board l.body l.stones l.here

abbrev pub decreases-loop-after : goal.decreases-loop-after
decreases-loop-after l = length l.here.text.now
