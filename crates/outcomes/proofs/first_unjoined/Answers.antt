-- The search begins with the move's stone, added to the set, and all its waits.
use Rattle.std.proofs.Common.{rules}
use Rattle.outcomes.proofs.Searching.{whole_going, whole_found, told_as}
use Rattle.outcomes.proofs.first_unjoined.Goals as goal

pub first_from-requires : goal.first_from-requires
first_from-requires c = record { stands = (c.requires.stands.1, whole_going c.requires.stands.2 c.end_at.ensures c.count_at-many.ensures) }

pub returns : goal.returns
returns c =
    whole_found c.args.player c.first_from.result c.args.set.rows c.with_stone-with.result.rows c.cell_at.result c.cell_at.ensures c.end_at.ensures c.count_at-many.ensures c.with_stone-with.ensures
    c.first_from.ensures c.map_err.result (told_as c.first_from.result c.map_err.result _ (λ m v k. search rules) c.map_err.ensures.cases)
