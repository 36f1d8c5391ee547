-- `lines::nodes::name_at` meets its contract. A cell; where there is none and `-` may stand, `-`.
use Rattle.std.proofs.Common.{arith}
use Rattle.std.proofs.lemmas.Grind.{common_steps}
use Rattle.rules.specs.Text.{bind, give, word, ◌or_else◌}
use Rattle.lines.proofs.nodes.name_at.Goals as goal

pub returns-in-Some : goal.returns-in-Some
unfolding bind give word ◌or_else◌
returns-in-Some c = grind (arith, common_steps)

pub returns-in_err-rest : goal.returns-in_err-rest
unfolding bind give word ◌or_else◌
returns-in_err-rest c = grind (arith, common_steps)

pub returns : goal.returns
unfolding bind give word ◌or_else◌
returns c = grind (arith, common_steps)
