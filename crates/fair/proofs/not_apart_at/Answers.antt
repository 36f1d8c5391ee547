-- The tally of the cells of all waits, and of the own cell, has the faulty cells.
use Rattle.std.proofs.Common.{Bool, ◌||◌, ap, ◌∙◌}
use Rattle.rules.specs.Tree.{stone}
use Rattle.rules.specs.Words.{among}
use Rattle.nodes.proofs.Walk.{walking_child}
use Rattle.nodes.proofs.Collecting.{stone_of_lem}
use Rattle.fair.proofs.Found.{tallying_starts, tallying_again, tallying_done}
use Rattle.fair.proofs.not_apart_at.Goals as goal

pub loop-init : goal.loop-init
loop-init c =
    let cell = c.cell_at-cell.result in
    tallying_starts _ _ cell _ _ _ _ c.under_at-under.ensures
    (λ x p. c.with_stone-own.ensures x ∙ ap (λ (y : Bool). y || among (stone cell) x) (c.empty.ensures.1 _ x) ∙ stone_of_lem cell x p)
    (λ x. c.empty-2.ensures.1 _ x)

pub collect_wait-w-requires : goal.collect_wait-w-requires
collect_wait-w-requires c = record { stands = walking_child c.loop.invariant c.loop-test.true c.requires.stands }

pub loop-preserved : goal.loop-preserved
loop-preserved c =
    tallying_again c.loop.invariant c.loop-test.true c.requires.stands c.collect_wait-w.ensures (λ x. c.empty-in-loop.ensures.1 _ x) c.add-seen.ensures

pub returns : goal.returns
returns c = tallying_done c.loop.invariant c.loop-test.false (λ m n. c.cell_at-cell.ensures ∙ n.here.row.cell)
