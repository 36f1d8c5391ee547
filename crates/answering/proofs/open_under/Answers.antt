-- Each turn marks one more wait.
use Rattle.answering.proofs.Marking.{marking_room, marking_kept, marking_again, marking_done}
use Rattle.answering.proofs.open_under.Goals as goal

pub set_mark-requires : goal.set_mark-requires
set_mark-requires c = marking_room c.loop.invariant c.loop-test.true c.requires

pub end_at-next-requires : goal.end_at-next-requires
end_at-next-requires c = marking_kept c.loop.invariant c.loop-test.true c.requires c.set_mark.ensures

pub loop-preserved : goal.loop-preserved
loop-preserved c = marking_again c.loop.invariant c.loop-test.true c.requires c.set_mark.ensures _ c.end_at-next.ensures

pub returns : goal.returns
returns c = marking_done c.loop.invariant c.loop-test.false
