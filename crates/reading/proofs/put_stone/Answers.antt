-- One stone more, in the set of its side.
use Rattle.reading.proofs.SettingUp.{put_own, put_opp}
use Rattle.reading.proofs.put_stone.Goals as goal

pub returns-in-Own : goal.returns-in-Own
returns-in-Own c = λ cs h. rw c.in-Own.is (put_own _ cs _ _ _ _ h c.put.ensures)

pub returns-in-Opp : goal.returns-in-Opp
returns-in-Opp c = λ cs h. rw c.in-Opp.is (put_opp _ cs _ _ _ _ h c.put-in-Opp.ensures)
