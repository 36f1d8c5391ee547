-- The window: reading behind it, and taking requests from it.
use mathlib.Core.Path.{◌≡◌, refl, sym, ap, ◌∙◌}
use Prim.Native.Nat.{ℕ, ◌+◌, ◌-◌, ◌<◌, ◌≤◌}
use mathlib.Core.List.{[], ◌++◌, append-nil}
use native.Mathlib.Omega.{arith}
use lib.ListN.{length, take, drop, length-take, length-drop, take-append-drop}
use lib.Seq.{length-take-le, take-append-add, drop-append-le, drop-drop}
use Rattle.rules.specs.Text.{Bytes}
use Rattle.requests.specs.Sent.{NoneLies}
use Rattle.replies.specs.Answers.{none, GatheredFrom}
use Rattle.replies.specs.Window.{between, bytes_of, PlaceBehind, TakenFrom, WentOn, RequestsEnd}
use Rattle.replies.specs.declared.window.Window.{Window}
use Rattle.replies.specs.declared.written.Said.{Said}
use Rattle.replies.specs.declared.answers.Gathered.{Gathered}
use Rattle.replies.proofs.Replying.{later_numbers}

-- as many bytes lie between two places as these are apart
between_long : (buffer : Bytes) (start end : ℕ) → start ≤ end → end ≤ length buffer → length (between buffer start end) ≡ end - start
between_long buffer start end h k = length-take-le (end - start) (drop start buffer) (omega (arith, h, k, length-drop start buffer))

-- bytes were read behind the window
pub read_behind : {w w' : Window} (new last : Bytes) {got end : ℕ} → PlaceBehind w w' → w'.end ≤ length w'.buffer → got ≤ length new → end ≡ w'.end + got
    → between (take w'.end w'.buffer ++ (new ++ last)) w'.start end ≡ bytes_of w ++ take got (new ++ last)
read_behind {w} {w'} new last {got} {end} r inside fits e =
    let news = new ++ last in
    let front = bytes_of w' in
    let on = w'.within.0 in
    let first = length-take-le w'.end w'.buffer inside in
    let size : end - w'.start ≡ length front + got = omega (arith, between_long w'.buffer w'.start w'.end on inside, on, e) in
    let parts : drop w'.start (take w'.end w'.buffer ++ news) ≡ front ++ news =
    drop-append-le w'.start (take w'.end w'.buffer) news (omega (arith, first, on))
    ∙ ap (λ (t : Bytes). t ++ news) (later_numbers w'.start w'.end w'.buffer on inside) in
    ap (take (end - w'.start)) parts
    ∙ ap (λ (n : ℕ). take n (front ++ news)) size
    ∙ take-append-add front news got
    ∙ ap (λ (t : Bytes). t ++ take got news) r.same

-- nothing was taken, and nothing was read
pub all_left : {w : Window} → WentOn w w
all_left {w} =
    record {
      left = bytes_of w;
      more = [];
      taken = record { asked = []; said = []; answers = none; before = refl };
      after = sym (append-nil (bytes_of w));
    }

-- the window after requests that were taken from its front
module _ (w : Window) {s : Said} {g : Gathered} (inside : w.end ≤ length w.buffer) (k : GatheredFrom (bytes_of w) s g) where
  long : length (bytes_of w) ≡ w.end - w.start
  long = between_long w.buffer w.start w.end w.within.0 inside

  -- does not pass its end
  pub beyond_on : w.start + g.taken ≤ w.end
  beyond_on = omega (arith, k.taken_inside, long, w.within.0)

  beyond_bytes : between w.buffer (w.start + g.taken) w.end ≡ drop g.taken (bytes_of w)
  beyond_bytes =
      let n : w.end - w.start - g.taken ≡ w.end - (w.start + g.taken) = omega arith in
      sym (later_numbers g.taken (w.end - w.start) (drop w.start w.buffer) (omega (arith, k.taken_inside, long)) (omega (arith, long, length-take (w.end - w.start) (drop w.start w.buffer)))
      ∙ rw (n, drop-drop g.taken w.start w.buffer))

  -- what is left is shorter than the buffer, where no request is whole
  pub beyond_short : length (drop g.taken (bytes_of w)) < 69974 → w.end < w.start + g.taken + 131072
  beyond_short short = omega (arith, short, long, length-drop g.taken (bytes_of w))

  taken_from : TakenFrom w (drop g.taken (bytes_of w))
  taken_from =
      record {
        asked = take g.taken (bytes_of w);
        said = take s.end s.bytes;
        answers = k.answers;
        before = sym (take-append-drop g.taken (bytes_of w));
      }

  -- what was read behind what is left
  pub went_on : {w' : Window} (more : Bytes) → bytes_of w' ≡ between w.buffer (w.start + g.taken) w.end ++ more → WentOn w w'
  went_on more e =
      record {
        left = drop g.taken (bytes_of w);
        more = more;
        taken = taken_from;
        after = e ∙ ap (λ (t : Bytes). t ++ more) beyond_bytes;
      }

  -- nothing was read behind it
  pub went_past : {w' : Window} → bytes_of w' ≡ between w.buffer (w.start + g.taken) w.end → WentOn w w'
  went_past e = went_on [] (e ∙ sym (append-nil (between w.buffer (w.start + g.taken) w.end)))

  pub ended : NoneLies (drop g.taken (bytes_of w)) → RequestsEnd w
  ended lies = record { left = drop g.taken (bytes_of w); taken = taken_from; none = lies }
