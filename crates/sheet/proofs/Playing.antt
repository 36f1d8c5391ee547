-- Play's checks one after another, and what it replies.
use mathlib.Core.Path.{◌≡◌, refl, sym, ap, ◌∙◌, subst⁻¹}
use mathlib.Core.List.{List, ◌++◌}
use Prim.Native.Nat.{ℕ, ◌≤◌, ◌<◌}
use native.Mathlib.Omega.{arith}
use lib.Dec.{ltb}
use lib.Seq.{take-append_seam}
use lib.ListN.{length, drop, length-append}
use borrow.Author.Tests.{lt-ltb, le-ltb}
use Rattle.rules.specs.Sizes.{least_workspace}
use Rattle.rules.specs.Text.{Bytes}
use Rattle.rules.specs.Tree.{Sheet}
use Rattle.rules.specs.Reading.{Result, refused, got}
use Rattle.rules.specs.Answering.{start}
use Rattle.rules.specs.Entries.{◌>>=◌, refuse_if, read_text, read_up_to, accepted, rounds, PlayReply, refused_play, played_out, play_on, play, play_shown, room_after, PlayKept}
use Rattle.rules.specs.declared.Board.{Board}
use Rattle.rules.specs.declared.Played.{Played}
use Rattle.rules.specs.declared.Verdict.{Verdict}
use Rattle.rules.specs.declared.Verdict.TheVariants.{SmallWorkspace, ShortRoom}
use Rattle.answering.specs.Playing.{Playable, PlaysMoves, as_played}
use Rattle.answering.specs.declared.PlayedOut.{PlayedOut}
use Rattle.answering.specs.declared.Stopped.{Stopped}
use Rattle.std.specs.Prelude as code
use Rattle.std.specs.Prelude.{Ok, Err, take, MatchResult}
use Rattle.std.specs.Prelude.{Option, Some, None}
use Rattle.std.specs.Option.{unwrap_or}
use Rattle.sheet.specs.Table.{RanReply, RanOn}
use Rattle.answering.proofs.Held.{held_playable, was_stopped, entry_reply, entry_played}
use Rattle.nodes.specs.declared.head.Head.{Head}
use Rattle.nodes.specs.Sheets.{HoldsSheet}
use Rattle.nodes.proofs.Sheets.{living_whole}
use Rattle.loading.specs.Held.{SheetHeld}
use Rattle.judging.specs.Checked.{passing}
use Rattle.live.specs.Thinning.{KeepsLive}
use Rattle.sheet.specs.Playing.{ReadyHeld, PlayedKept}
use Rattle.sheet.proofs.Judging.{text_accepted}

-- a refusal gives no answers, and leaves the room as it was
pub played_refused : (o : PlayReply) (x : Stopped) (room : List ℕ) → o ≡ refused_play x.verdict x.place → PlayedKept o room (as_played (Err x)) room
unfolding room_after refused_play play_shown
played_refused o x room e = record { reply_is = sym (ap play_shown e); room_is = ap (λ (z : PlayReply). room_after z.answers room) (sym e) }

-- a reply that is the same as another
pub played_as : {o o' : PlayReply} {room room' : List ℕ} {r : Played} → o ≡ o' → PlayedKept o' room r room' → PlayedKept o room r room'
played_as {o} {o'} {room} {room'} {r} e k = subst⁻¹ (λ (z : PlayReply). PlayedKept z room r room') e k

-- the moves are played, with the answers kept apart: refused, or copied into the room
module _ (s : Sheet) {t moves kept t' kept' : List ℕ} where
  pub apart_stopped : (x : Stopped) (room : List ℕ) → PlaysMoves s t moves kept (Err x) t' kept' → PlayedKept (played_out s (rounds s (start s) 1 moves)) room (as_played (Err x)) room
  unfolding played_out
  apart_stopped x room k = played_refused _ x room (ap (played_out s) (was_stopped k x.verdict x.place refl))

  module _ (x : PlayedOut) (k : PlaysMoves s t moves kept (Ok x) t' kept') where
    -- there is room for them, here and there
    pub apart_fits : (room : List ℕ) → length moves ≤ length room → (x.answers ≤ length room) × (x.answers ≤ length kept')
    unfolding room_after
    apart_fits room h =
        let p = entry_played k x.answers x.over refl in
        let xs = (played_out s (rounds s (start s) 1 moves)).answers in
        (omega (arith, p.2, h), omega (arith, p.0, ap length p.1, length-append xs (drop (length xs) kept)))

    -- the first of the kept ones are the answers
    pub apart_played : (room : List ℕ) → PlayedKept (played_out s (rounds s (start s) 1 moves)) room (as_played (Ok x)) (take x.answers kept' ++ drop x.answers room)
    unfolding room_after
    apart_played room =
        let p = entry_played k x.answers x.over refl in
        let xs = (played_out s (rounds s (start s) 1 moves)).answers in
        record {
          reply_is = entry_reply k;
          room_is = rw (p.1, p.0) (ap (λ (l : List ℕ). l ++ drop (length xs) room) (take-append_seam xs (drop (length xs) kept)));
        }

-- of an accepted text, or one that is refused
module _ (t : Bytes) (moves : List ℕ) (room : ℕ) where
  play_at : (w : ℕ) (r : Result Sheet) → accepted w t ≡ r → play w t moves room ≡ play_on moves (r >>= λ s. refuse_if (ltb room (length moves)) ShortRoom >>= λ u. got s)
  unfolding play
  play_at w r e = rw e

  pub play_same : (w : ℕ) → least_workspace ≤ w → play least_workspace t moves room ≡ play w t moves room
  play_same w h = play_at least_workspace _ (text_accepted least_workspace t (omega arith)) ∙ sym (play_at w _ (text_accepted w t h))

  pub play_refused : (w : ℕ) (v : Verdict) → accepted w t ≡ refused v → play w t moves room ≡ refused_play v 0
  unfolding play_on ◌>>=◌
  play_refused w v e = play_at w (refused v) e

  module _ (w : ℕ) (s : Sheet) (e : accepted w t ≡ got s) where
    pub play_no_room : room < length moves → play w t moves room ≡ refused_play ShortRoom 0
    unfolding play_on refuse_if ◌>>=◌
    play_no_room h = play_at w (got s) e ∙ rw (lt-ltb room (length moves) h)

    pub play_rounds : length moves ≤ room → play w t moves room ≡ played_out s (rounds s (start s) 1 moves)
    unfolding play_on refuse_if ◌>>=◌
    play_rounds h = play_at w (got s) e ∙ rw (le-ltb room (length moves) h)

-- a text that was read, and then judged
pub unread : (t : Bytes) (v : Verdict) → read_text t ≡ refused v → accepted least_workspace t ≡ refused v
unfolding ◌>>=◌
unread t v e = text_accepted least_workspace t (omega arith) ∙ ap (λ (r : Result Sheet). r >>= passing) e

module _ (t : Bytes) {table : List ℕ} (g : Head) (h : SheetHeld t table g) where
  pub of_passing : (r : Result Sheet) → passing h.sheet ≡ r → accepted least_workspace t ≡ r
  unfolding ◌>>=◌
  of_passing r e = text_accepted least_workspace t (omega arith) ∙ ap (λ (z : Result Sheet). z >>= passing) h.reads ∙ e

  pub held_ready : passing h.sheet ≡ got h.sheet → (whole : List ℕ) → HoldsSheet whole g.grid.board h.sheet → ReadyHeld t whole g
  held_ready e whole tree =
      record {
        held = record { sheet = h.sheet; reads = h.reads; for = h.for; whole = record { tree = tree; set_up = h.whole.set_up } };
        is_accepted = of_passing (got h.sheet) e;
      }

-- where no move was taken out the tree is whole
pub whole_still : {t : List ℕ} {b : Board} {s : Sheet} {idle : ℕ} → KeepsLive t b s idle → idle ≡ 0 → HoldsSheet t b s
whole_still h e = living_whole h.holds (sym h.idle_is ∙ e)

pub playable : (t : Bytes) {table : List ℕ} {g : Head} (h : ReadyHeld t table g) → Playable table g.grid.board g.player h.held.sheet
playable t h = held_playable least_workspace t h.held.whole.tree h.held.for h.is_accepted

-- play itself
pub play_ran : {F : Type 0} (run : List ℕ → code.Result PlayedOut Stopped → F → List ℕ → Type 0) (ws : List ℕ) (t : Bytes) (moves room room' : List ℕ)
    (o : Option (code.Result PlayedOut Stopped)) (before after : F) (ws' : List ℕ) → RanOn run ws o before after ws' → (after ≡ before → room' ≡ room)
    → ((table table' : List ℕ) (r : code.Result PlayedOut Stopped) → run table r after table' → PlayedKept (play least_workspace t moves (length room)) room (as_played r) room')
    → PlayKept ws t moves room (as_played (unwrap_or o (Err (record { verdict = SmallWorkspace; place = 0 })))) ws' room'
play_ran run ws t moves room room' o before after ws' k none each =
    let q = kept o k.reply_is in
    record { reply = q.reply_is; memory = k.memory; answers = q.room_is }
  where
    small : length ws < least_workspace → accepted (length ws) t ≡ refused SmallWorkspace
    small h = unfold accepted read_up_to refuse_if ◌>>=◌ in rw (lt-ltb (length ws) least_workspace h)

    kept : (o : Option (code.Result PlayedOut Stopped)) → RanReply run ws o before after
        → PlayedKept (play (length ws) t moves (length room)) room (as_played (unwrap_or o (Err (record { verdict = SmallWorkspace; place = 0 })))) room'
    kept None n =
        rw (none n.1) (played_refused (play (length ws) t moves (length room)) (record { verdict = SmallWorkspace; place = 0 }) room
        (play_refused t moves (length room) (length ws) SmallWorkspace (small n.0)))
    kept (Some r) n = played_as (sym (play_same t moves (length room) (length ws) n.enough)) (each _ _ r n.ran)
