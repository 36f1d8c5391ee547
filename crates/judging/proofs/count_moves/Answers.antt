-- `count_moves` counts the nodes that are moves.
use Rattle.std.proofs.Common.{ℕ, ◌+◌, ◌*◌, ◌<◌, length, ◌∙◌, rules, arith}
use Rattle.std.proofs.lemmas.Iterator.{YieldsList-from_range, serves_from_Range}
use Rattle.std.proofs.lemmas.Iterator.Consumers.{YieldsList-from_filter, count_from_yields_List}
use Rattle.nodes.specs.Table.{is_move_at}
use Rattle.judging.proofs.Counting.{node_room, moves_counted}
use Rattle.judging.proofs.count_moves.Goals as goal

pub count-requires-clause-can : goal.count-requires-clause-can
count-requires-clause-can c =
    let room : (i : ℕ) → i < c.end_at.result → 4 * i + 3 < length c.args.table.now = λ i p. node_room c.requires.1.held c.end_at.ensures p in
    (tt, tt, serves_from_Range (λ x q k. search rules) (λ x p q. let r = room x (search rules) in search (rules, r)))

pub returns : goal.returns
returns c = λ b s h.
    count_from_yields_List _ _ c.count.ensures.ran
    (YieldsList-from_filter _ (is_move_at c.args.table.now) (YieldsList-from_range 0 c.end_at.result c.end_at.result (cc) (omega arith)) c.filter.ensures.closure (λ x r q k. search rules))
    ∙ moves_counted h c.end_at.ensures
