-- The root is thinned in its place, and weighed again.
use Rattle.live.proofs.Held.{some_weighed, thinned_stands, thinned_holds}
use Rattle.live.proofs.thin.Goals as goal

pub thin_move-requires-clause-stands : goal.thin_move-requires-clause-stands
thin_move-requires-clause-stands c = some_weighed c.requires

pub weigh_move-requires-clause-stands : goal.weigh_move-requires-clause-stands
weigh_move-requires-clause-stands c = thinned_stands c.thin_move.ensures c.requires

pub returns : goal.returns
returns c = thinned_holds c.thin_move.ensures c.weigh_move.ensures
