-- A list that is refused leaves the room as it was, and one that is played out is copied into it.
use Rattle.std.proofs.Common.{◌≡◌, ◌≤◌, length, take, arith, length-take}
use Rattle.std.proofs.lemmas.Result.{err_from_is_err_and}
use Rattle.sheet.proofs.Playing.{apart_stopped, apart_fits, apart_played}
use Rattle.sheet.proofs.play_table.Goals as goal
use Rattle.sheet.proofs.play_table.Goals.{In_ok-played}

-- both lists have so many places
fits : (c : In_ok-played) → (c.in_ok-played.played.answers ≤ length c.args.room.now) × (c.in_ok-played.played.answers ≤ length c.play_moves.new.room)
fits c =
    let h = c.requires.holds in
    apart_fits h.sheet _ (c.in_ok-played.ensures h.sheet h.playable h.stones) _ c.requires.enough

pub returns-in_err-played : goal.returns-in_err-played
returns-in_err-played c = λ s h st.
    let p = err_from_is_err_and c.from_residual.result c.from_residual.ensures.1 in
    rw (p.1, p.2) (apart_stopped s _ _ (c.in_err-played.ensures s h st))

pub slice_bounds-copy_from_slice-end : goal.slice_bounds-copy_from_slice-end
slice_bounds-copy_from_slice-end c = omega (arith, fits (goal.at.slice_bounds-copy_from_slice-end c).In_ok-played)

pub slice_bounds-copy_from_slice-end-2 : goal.slice_bounds-copy_from_slice-end-2
slice_bounds-copy_from_slice-end-2 c =
    omega (arith, fits (goal.at.slice_bounds-copy_from_slice-end-2 c).In_ok-played, length-take c.in_ok-played.played.answers c.args.room.now)

pub slice_bounds-answers-end : goal.slice_bounds-answers-end
slice_bounds-answers-end c = omega (arith, fits (goal.at.slice_bounds-answers-end c).In_ok-played)

pub slice_bounds-copy_from_slice-end-3 : goal.slice_bounds-copy_from_slice-end-3
slice_bounds-copy_from_slice-end-3 c =
    omega (arith, fits (goal.at.slice_bounds-copy_from_slice-end-3 c).In_ok-played, length-take c.in_ok-played.played.answers c.play_moves.new.room)

pub copy_from_slice-requires : goal.copy_from_slice-requires
copy_from_slice-requires c =
    let n = c.in_ok-played.played.answers in
    omega (arith, fits (goal.at.copy_from_slice-requires c).In_ok-played, length-take n c.args.room.now, length-take n c.play_moves.new.room)

pub returns : goal.returns
returns c = λ s h st.
    let same : c.copy_from_slice.new.self ≡ take c.in_ok-played.played.answers c.play_moves.new.room = c.copy_from_slice.ensures.after in
    rw same (apart_played s _ (c.in_ok-played.ensures s h st) c.args.room.now)
