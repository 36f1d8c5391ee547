-- `lines::nodes::cell_line` meets its contract. A cell does not begin with `-`, so no way is lost where both may stand.
use Rattle.std.proofs.Common.{arith}
use Rattle.std.proofs.lemmas.Grind.{common_steps}
use Rattle.rules.specs.Text.{bind, give, word, tab, line_feed, ◌or_else◌}
use Rattle.rules.specs.Lines.{move_line, dash_line}
use Rattle.lines.proofs.Either.{no_dash}
use Rattle.lines.proofs.nodes.cell_line.Goals as goal

pub returns-in_err-name : goal.returns-in_err-name
unfolding move_line dash_line bind give word tab line_feed ◌or_else◌
returns-in_err-name c = grind (arith, common_steps)

pub returns-in_err-place : goal.returns-in_err-place
unfolding move_line dash_line bind give word tab line_feed ◌or_else◌
returns-in_err-place c = grind (arith, common_steps)

pub returns-in_err-number : goal.returns-in_err-number
unfolding move_line dash_line bind give word tab line_feed ◌or_else◌
returns-in_err-number c = grind (arith, common_steps, no_dash)

pub returns-in_err-under : goal.returns-in_err-under
unfolding move_line dash_line bind give word tab line_feed ◌or_else◌
returns-in_err-under c = grind (arith, common_steps, no_dash)

pub returns : goal.returns
unfolding move_line dash_line bind give word tab line_feed ◌or_else◌
returns c = grind (arith, common_steps, no_dash)
