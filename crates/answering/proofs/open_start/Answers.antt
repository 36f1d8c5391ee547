-- All marks are cleared, and then the waits right under the root are marked.
use Rattle.answering.proofs.Marking.{root_room, ended_at_same}
use Rattle.answering.proofs.open_start.Goals as goal

pub clear_marks-requires : goal.clear_marks-requires
clear_marks-requires c = root_room c.requires

pub open_under-requires : goal.open_under-requires
open_under-requires c = record { cell = _; under = _; at = ended_at_same c.clear_marks.ensures.rows c.requires.at }

pub returns : goal.returns
returns c a u n =
    let k = c.clear_marks in
    record { table = k.new.t; cleared = k.ensures; opened = c.open_under.ensures a u (ended_at_same k.ensures.rows n) }
