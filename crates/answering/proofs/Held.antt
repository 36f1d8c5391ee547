-- For callers: a held sheet that is accepted can be played, and once more after that; and what the reply says of an accepted sheet.
use mathlib.Core.Path.{◌≡◌, refl, ap, ◌∙◌, subst}
use mathlib.Core.Logic.{◌⊎◌}
use Prim.Native.Nat.{ℕ, ◌≤◌}
use mathlib.Core.Bool.{Bool}
use mathlib.Core.List.{List}
use native.Mathlib.Omega.{arith}
use lib.Dec.{T}
use lib.ListN.{length}
use Rattle.rules.specs.Board.{is_cell}
use Rattle.rules.specs.Text.{Bytes}
use Rattle.rules.specs.Tree.{Sheet}
use Rattle.rules.specs.Reading.{got}
use Rattle.rules.specs.Answering.{Game, start, is_over}
use Rattle.rules.specs.Entries.{Rounds, stopped, played, rounds, accepted, played_out, refused_play, play_shown, room_after}
use Rattle.rules.specs.declared.Board.{Board}
use Rattle.rules.specs.declared.Player.{Player}
use Rattle.rules.specs.declared.Verdict.{Verdict}
use Rattle.nodes.specs.Sheets.{HoldsSheet}
use Rattle.nodes.proofs.Table.{each_both, stand_of_weighed}
use Rattle.nodes.proofs.Trees.{root_on_board}
use Rattle.answering.specs.Playing.{Playable, shown, as_played, PlaysMoves}
use Rattle.answering.specs.declared.PlayedOut.{PlayedOut}
use Rattle.answering.specs.declared.Stopped.{Stopped}
use Rattle.std.specs.Prelude.{Result, Ok, Err}
use Rattle.answering.proofs.Playing.{playable_same}
use Rattle.answering.proofs.Rounds.{reached_played, rounds_answers}

-- a sheet that the table holds weighed, and that some text is accepted as
pub held_playable : {t : List ℕ} {b : Board} {p : Player} {s : Sheet} (w : ℕ) (text : Bytes) → HoldsSheet t b s → s.player ≡ p → accepted w text ≡ got s → Playable t b p s
held_playable {t} {b} {p} {s} w text h e a =
    let n = h.root in
    let row = root_on_board b s.root.cell s.root.waits
    (subst (λ (z : Board). (s.root.cell ≡ 0) ⊎ T (is_cell z s.root.cell)) h.on h.well.root_on_board)
    (λ m i. subst (λ (z : Board). T (is_cell z m.cell)) h.on (h.well.on_board_lem m i))
    (record { here = n.here.row; below = stand_of_weighed n.below }) in
    record {
      on = h.on;
      player_is = e;
      is_accepted = (w, text, a);
      root = record {
        here = record { row = n.here.row; end = n.here.end; on = row.here.on };
        below = each_both (λ k j c u x y. record { row = x.row; end = x.end; on = y.on }) n.below row.below;
      };
    }

module _ {s : Sheet} {t moves room : List ℕ} {r : Result PlayedOut Stopped} {t' room' : List ℕ} (k : PlaysMoves s t moves room r t' room') where
  -- it can be played again on the table as it is left
  pub play_again : {b : Board} {p : Player} → Playable t b p s → Playable t' b p s
  play_again h = playable_same k.rows.rows h

  -- the two replies, by the rounds
  pub reply_stopped : (v : Verdict) (place : ℕ) → rounds s (start s) 1 moves ≡ stopped v place → r ≡ Err (record { verdict = v; place = place })
  unfolding shown
  reply_stopped v place e = k.reply ∙ ap (shown s) e

  pub reply_played : (g : Game) → rounds s (start s) 1 moves ≡ played g → r ≡ Ok (record { answers = length g.answers; over = is_over s g })
  unfolding shown
  reply_played g e = k.reply ∙ ap (shown s) e

  -- the room, where all is played out
  pub room_written : (g : Game) → rounds s (start s) 1 moves ≡ played g → room' ≡ room_after g.answers room
  room_written g f = k.answers ∙ ap (λ (h : Game). room_after h.answers room) (reached_played s moves (start s) g 1 f)

  -- which of the two it was
  pub was_played : (n : ℕ) (over : Bool) → r ≡ Ok (record { answers = n; over = over }) → (g : Game) × (rounds s (start s) 1 moves ≡ played g)
  unfolding shown
  was_played n over e = go (rounds s (start s) 1 moves) refl
    where
      go : (a : Rounds) → rounds s (start s) 1 moves ≡ a → (g : Game) × (rounds s (start s) 1 moves ≡ played g)
      go (stopped v place) f = let z : ◌≡◌ {A = ℕ} 0 1 = cc (reply_stopped v place f) in absurd (omega arith)
      go (played g) f = (g, f)

  pub was_stopped : (v : Verdict) (place : ℕ) → r ≡ Err (record { verdict = v; place = place }) → rounds s (start s) 1 moves ≡ stopped v place
  unfolding shown
  was_stopped v place e = go (rounds s (start s) 1 moves) refl
    where
      go : (a : Rounds) → rounds s (start s) 1 moves ≡ a → rounds s (start s) 1 moves ≡ stopped v place
      go (stopped u at) f =
          let same : ◌≡◌ {A = Stopped} (record { verdict = u; place = at }) (record { verdict = v; place = place }) = cc (reply_stopped u at f) in
          f ∙ ap (λ (z : Stopped). stopped z.verdict z.place) same
      go (played g) f = let z : ◌≡◌ {A = ℕ} 0 1 = cc (reply_played g f) in absurd (omega arith)

  -- what the entry replies
  pub entry_reply : as_played r ≡ play_shown (played_out s (rounds s (start s) 1 moves))
  unfolding shown play_shown played_out refused_play
  entry_reply = ap as_played k.reply ∙ go (rounds s (start s) 1 moves)
    where
      go : (a : Rounds) → as_played (shown s a) ≡ play_shown (played_out s a)
      go (stopped v place) = refl
      go (played g) = refl

  -- where all is played out: so many answers, which stand first in the room, and no more than moves
  pub entry_played : (n : ℕ) (over : Bool) → r ≡ Ok (record { answers = n; over = over })
      → (n ≡ length (played_out s (rounds s (start s) 1 moves)).answers) × (room' ≡ room_after (played_out s (rounds s (start s) 1 moves)).answers room) × (n ≤ length moves)
  unfolding played_out start
  entry_played n over e =
      let g = was_played n over e in
      let same : ◌≡◌ {A = PlayedOut} (record { answers = n; over = over }) (record { answers = length g.0.answers; over = is_over s g.0 }) = cc (e, reply_played g.0 g.1) in
      let many : n ≡ length g.0.answers = ap (λ (z : PlayedOut). z.answers) same in
      rw g.1 (many, room_written g.0 g.1, omega (arith, rounds_answers s moves (start s) g.0 1 g.1))
