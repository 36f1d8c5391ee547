-- Each turn plays one more move of the game, or stops at the one that is refused.
use Rattle.std.proofs.Common.{◌≡◌, ◌+◌, refl, ◌∙◌, arith, rules, tests}
use Rattle.std.proofs.lemmas.Result.{MatchResult-weaker, err_from_is_err_and}
use Rattle.rules.proofs.Places.{cell_range}
use Rattle.cells.proofs.Places.{few_cells}
use Rattle.answering.proofs.Rows.{remarked_twice, at_ended}
use Rattle.answering.proofs.Checking.{refused_with, fine}
use Rattle.answering.proofs.Playing.{playable_same, root_ended, started_open, start_at, playing_starts, playing_stopped, playing_done, playing_few, playing_cell, playing_asked, playing_rows, playing_answer, playing_again, Wrote, wrote_long}
use Rattle.answering.proofs.play_moves.Goals as goal

pub open_start-requires : goal.open_start-requires
open_start-requires c = root_ended c.requires.holds.playable

pub with_stone-requires : goal.with_stone-requires
with_stone-requires c =
    let h = c.requires.holds.playable in
    let k = playable_same (started_open h (c.open_start.ensures _ _ (at_ended h.root))).0.rows h in
    omega (arith, k.root.here.row.cell, k.root.here.on, c.cell_at-root.ensures)

pub loop-i-init : goal.loop-i-init
loop-i-init c =
    record {
      rows =
          let h = c.requires.holds.playable in
          (started_open h (c.open_start.ensures _ _ (at_ended h.root))).0;
      long = refl;
      plays = λ s h st.
          let o = started_open h (c.open_start.ensures _ _ (at_ended h.root)) in
          playing_starts _ o.1 (start_at _ s _ _ _ _ st (c.cell_at-root.ensures ∙ (playable_same o.0.rows h).root.here.row.cell) c.with_stone.ensures);
    }

pub returns-in_err-map_err : goal.returns-in_err-map_err
returns-in_err-map_err c s h st =
    let l = c.loop-i.invariant in
    let x = refused_with c.checked_move.result c.checked_move.ensures
    (MatchResult-weaker c.checked_move.result {Q' = λ e. c.in_err-map_err.field-0.0 ≡ record { verdict = e; place = c.loop-i.i-counter + 1 }}
    c.in_err-map_err.ensures.cases (λ x h. h) (λ e h. search (rules, tests))) in
    let p = err_from_is_err_and c.from_residual.result c.from_residual.ensures.1 in
    rw (p.1, p.2, x.2) (playing_stopped h (l.plays s h st) c.loop-i-test.true x.0 x.1 l.rows)

pub answer_to-answer-requires : goal.answer_to-answer-requires
answer_to-answer-requires c =
    let h = c.requires.holds in
    let g = c.loop-i.invariant.plays _ h.playable h.stones in
    let f = fine _ c.checked_move.ensures c.in_ok-map_err.ensures.variant in
    ((cell_range _ _ (playing_cell h.playable g _ f)).0, playing_asked h.playable g _ f)

pub with-stones-requires : goal.with-stones-requires
with-stones-requires c =
    let h = c.requires.holds in
    let f = fine _ c.checked_move.ensures c.in_ok-map_err.ensures.variant in
    playing_answer h.playable (c.loop-i.invariant.plays _ h.playable h.stones) _ f c.answer_to-answer.ensures

pub with-stones-requires-in-loop-i : goal.with-stones-requires-in-loop-i
with-stones-requires-in-loop-i c =
    let h = c.requires.holds in
    let f = fine _ c.checked_move.ensures c.in_ok-map_err.ensures.variant in
    playing_cell h.playable (c.loop-i.invariant.plays _ h.playable h.stones) _ f

pub overflow_cast-room : goal.overflow_cast-room
overflow_cast-room c =
    let h = c.requires.holds in
    let f = fine _ c.checked_move.ensures c.in_ok-map_err.ensures.variant in
    let a = playing_answer h.playable (c.loop-i.invariant.plays _ h.playable h.stones) _ f c.answer_to-answer.ensures in
    record { fits = omega (arith, (cell_range _ _ a).1, few_cells _ c.args.grid.fits) }

-- there is room for the answer
pub bounds-room-i : goal.bounds-room-i
bounds-room-i c =
    let h = c.requires.holds in
    let l = c.loop-i.invariant in
    let f = fine _ c.checked_move.ensures c.in_ok-map_err.ensures.variant in
    omega (arith, playing_few h.playable (l.plays _ h.playable h.stones) _ f, c.requires.enough, l.long)

pub loop-i-preserved : goal.loop-i-preserved
loop-i-preserved c =
    let h = c.requires.holds in
    let l = c.loop-i.invariant in
    let f = fine _ c.checked_move.ensures c.in_ok-map_err.ensures.variant in
    let put : Wrote c.loop-i.room _ c.loop-i.i-counter c.answer_to-answer.result = record { there = bounds-room-i c; stored = refl } in
    record {
      rows = remarked_twice l.rows (playing_rows h.playable (l.plays _ h.playable h.stones) _ f c.answer_to-answer.ensures);
      long = wrote_long put ∙ l.long;
      plays = λ s k st.
          playing_again k (l.plays s k st) _ f c.answer_to-answer.ensures c.loop-i-test.true refl l.long
          c.with-stones.ensures c.with-stones-in-loop-i.ensures put;
    }

pub returns : goal.returns
returns c s h st =
    let l = c.loop-i.invariant in
    playing_done h (l.plays s h st) (omega (arith, c.loop-i-test.false, c.loop-i.auto.i-counter-end)) l.rows c.joins.ensures
