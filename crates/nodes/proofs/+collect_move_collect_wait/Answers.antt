-- The loops collect the cells of each node under the node.
use Rattle.std.proofs.Common.{ℕ, Bool, ◌||◌, nat_eq, sym, ap, ◌∙◌, arith}
use mathlib.Core.Bool.{or-false}
use Rattle.cells.specs.Cells.{held}
use Rattle.nodes.specs.Nodes.{a_wait, a_move}
use Rattle.nodes.proofs.Walk.{walking_child}
use Rattle.nodes.proofs.Collecting.{collecting_starts, collecting_again, collecting_done, stone_of_lem}
use Rattle.nodes.proofs.+collect_move_collect_wait.Goals as goal

pub collect_move-loop-init : goal.collect_move-loop-init
collect_move-loop-init t c = collecting_starts a_move _ _ _ _ _ c.under_at-under.ensures

pub collect_move-collect_wait-so_far-requires : goal.collect_move-collect_wait-so_far-requires
collect_move-collect_wait-so_far-requires t c =
    let w = c.loop.invariant in
    let n = walking_child w c.loop-test.true c.requires.stands in
    (omega (arith, n.at.here.row.room, w.on, c.decreases), n)

pub collect_move-loop-preserved : goal.collect_move-loop-preserved
collect_move-loop-preserved t c = collecting_again c.loop.invariant c.loop-test.true c.requires.stands _ _ c.collect_wait-so_far.ensures

pub collect_move-returns : goal.collect_move-returns
collect_move-returns t c =
    collecting_done c.loop.invariant c.loop-test.false _ (λ a u x r p.
    let y = held c.args.grid.board c.args.set.rows x in
    c.with_stone-cells.ensures x
    ∙ ap (λ (z : Bool). y || z) (stone_of_lem c.cell_at-cell.result x p ∙ ap (λ (z : ℕ). nat_eq x z) (c.cell_at-cell.ensures ∙ r.row.cell)))

pub collect_wait-loop-init : goal.collect_wait-loop-init
collect_wait-loop-init t c = collecting_starts a_wait _ _ _ _ _ c.under_at-under.ensures

pub collect_wait-collect_move-so_far-requires : goal.collect_wait-collect_move-so_far-requires
collect_wait-collect_move-so_far-requires t c =
    let w = c.loop.invariant in
    let n = walking_child w c.loop-test.true c.requires.stands in
    (omega (arith, n.at.here.row.room, w.on, c.decreases), n)

pub collect_wait-loop-preserved : goal.collect_wait-loop-preserved
collect_wait-loop-preserved t c = collecting_again c.loop.invariant c.loop-test.true c.requires.stands _ _ c.collect_move-so_far.ensures

pub collect_wait-returns : goal.collect_wait-returns
collect_wait-returns t c = collecting_done c.loop.invariant c.loop-test.false _ (λ a u x r p. sym (or-false (held c.args.grid.board c.args.set.rows x)))
