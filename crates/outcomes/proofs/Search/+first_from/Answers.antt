-- A set that joins is passed over; else the outcomes go on from the moves of the next wait, one after another.
use Rattle.std.proofs.Common.{sym, ◌∙◌, arith}
use Rattle.std.proofs.lemmas.Result.{err_from_is_err_and}
use Rattle.outcomes.proofs.Searching.{found_joining, found_here, searching_first, searching_starts, searching_step, searching_again, searching_fits, searching_found, searching_done}
use Rattle.outcomes.proofs.Ahead.{ahead_some}
use Rattle.outcomes.proofs.Search.+first_from.Goals as goal

pub overflow_sub-result : goal.overflow_sub-result
overflow_sub-result t c = let g = c.requires.stands.1 in omega (arith, g.many_are, ahead_some g.ahead)

pub returns-then-joins : goal.returns-then-joins
returns-then-joins t c = found_joining c.args.self.now.player c.args.set.rows c.args.number (sym c.joins.ensures ∙ c.if-joins.true)

pub returns-then-wait-self : goal.returns-then-wait-self
returns-then-wait-self t c =
    found_here c.args.self.now.player c.args.set.rows c.args.number (sym c.joins.ensures ∙ c.if-joins.false) (c.next_wait-wait.ensures c.args.self.now.grid.board) c.if-wait-self.true

pub count_at-requires : goal.count_at-requires
count_at-requires t c = (searching_first c.args.self.now.player c.args.set.rows (c.next_wait-wait.ensures c.args.self.now.grid.board) c.if-wait-self.false c.requires.stands).room

pub nonzero_div-others : goal.nonzero_div-others
nonzero_div-others t c = rw c.count_at.ensures (searching_first c.args.self.now.player c.args.set.rows (c.next_wait-wait.ensures c.args.self.now.grid.board) c.if-wait-self.false c.requires.stands).own

pub end_at-after-requires : goal.end_at-after-requires
end_at-after-requires t c = (searching_first c.args.self.now.player c.args.set.rows (c.next_wait-wait.ensures c.args.self.now.grid.board) c.if-wait-self.false c.requires.stands).room

pub overflow_add-next : goal.overflow_add-next
overflow_add-next t c = omega (arith, (searching_first c.args.self.now.player c.args.set.rows (c.next_wait-wait.ensures c.args.self.now.grid.board) c.if-wait-self.false c.requires.stands).room)

pub loop-next-init : goal.loop-next-init
loop-next-init t c =
    searching_starts (sym c.joins.ensures ∙ c.if-joins.false) (c.next_wait-wait.ensures c.args.self.now.grid.board) c.if-wait-self.false c.requires.stands _ _ c.count_at.ensures c.end_at-after.ensures

pub cell_at-requires : goal.cell_at-requires
cell_at-requires t c = (searching_step c.loop-next.invariant (omega arith) c.requires.stands).room

pub with_stone-with-requires : goal.with_stone-with-requires
with_stone-with-requires t c = omega (arith, c.cell_at.ensures, (searching_step c.loop-next.invariant (omega arith) c.requires.stands).cell_on_lem)

pub count_at-requires-in-loop-next : goal.count_at-requires-in-loop-next
count_at-requires-in-loop-next t c = (searching_step c.loop-next.invariant (omega arith) c.requires.stands).room

pub overflow_mul-own : goal.overflow_mul-own
overflow_mul-own t c = rw c.count_at-in-loop-next.ensures (omega (arith, (searching_step c.loop-next.invariant (omega arith) c.requires.stands).few))

pub first_from-requires : goal.first_from-requires
first_from-requires t c =
    let s = searching_step c.loop-next.invariant (omega arith) c.requires.stands in
    (omega (arith, s.inside, c.loop-next.invariant.on, c.decreases), rw c.count_at-in-loop-next.ensures s.going)

pub returns-in_err-more : goal.returns-in_err-more
returns-in_err-more t c =
    let e = err_from_is_err_and c.from_residual.result c.from_residual.ensures.1 in
    rw (e.1, e.2)
    (searching_found c.loop-next.invariant (omega arith) _ _ c.count_at-in-loop-next.ensures (rw c.cell_at.ensures at c.with_stone-with.ensures) _ c.in_err-more.ensures)

pub overflow_add-passed : goal.overflow_add-passed
overflow_add-passed t c =
    omega (arith, searching_fits c.loop-next.invariant (omega arith) _ _ c.count_at-in-loop-next.ensures (rw c.cell_at.ensures at c.with_stone-with.ensures) c.requires.stands _ c.in_ok-more.ensures)

pub overflow_add-n : goal.overflow_add-n
overflow_add-n t c = rw c.count_at-in-loop-next.ensures (omega (arith, (searching_step c.loop-next.invariant (omega arith) c.requires.stands).few))

pub end_at-next-requires : goal.end_at-next-requires
end_at-next-requires t c = (searching_step c.loop-next.invariant (omega arith) c.requires.stands).room

pub loop-next-smaller : goal.loop-next-smaller
loop-next-smaller t c = omega (arith, c.end_at-next.ensures, (searching_step c.loop-next.invariant (omega arith) c.requires.stands).on)

pub loop-next-preserved : goal.loop-next-preserved
loop-next-preserved t c =
    searching_again c.loop-next.invariant (omega arith) _ _ c.count_at-in-loop-next.ensures (rw c.cell_at.ensures at c.with_stone-with.ensures) c.requires.stands _ _ c.end_at-next.ensures c.in_ok-more.ensures

pub returns : goal.returns
returns t c = searching_done c.loop-next.invariant (omega arith)
