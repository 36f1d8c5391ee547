-- The same verdict with any workspace that suffices.
use Rattle.std.proofs.Common.{rules}
use Rattle.sheet.proofs.Judging.{judge_ran}
use Rattle.sheet.proofs.judge.Goals as goal

pub returns : goal.returns
returns c = rw c.unwrap_or.ensures (judge_ran _ _ _ _ _ _ _ c.on_table.ensures (λ table later v k. search rules))
