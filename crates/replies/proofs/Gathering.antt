-- Requests that were answered one after another, and their replies.
use mathlib.Core.Path.{◌≡◌, ap, subst⁻¹, ◌∙◌}
use Prim.Native.Nat.{ℕ, ◌+◌, ◌-◌, ◌<◌, ◌≤◌}
use mathlib.Core.List.{List, [], ◌∷◌, ◌++◌}
use native.Mathlib.Omega.{arith}
use lib.ListN.{length, take, drop, length-append, length-take, length-drop}
use lib.Seq.{take-add, take_at}
use Rattle.rules.specs.Text.{Bytes}
use Rattle.requests.specs.Sent.{sent, WholeIn}
use Rattle.requests.specs.declared.Request.{Request}
use Rattle.requests.proofs.Finding.{sent_in, sent_bytes}
use Rattle.replies.specs.Reply.{reply_of}
use Rattle.replies.specs.Answers.{replied, RepliesTo, none, more, Says, AnsweredTo}
use Rattle.replies.specs.declared.written.Said.{Said}

-- a request that lies whole at the front of the bytes was answered
pub answered_to : {bytes : Bytes} {numbers : List ℕ} {r : Request} {text : ℕ} {s s' : Said} → WholeIn bytes numbers r text
    → Says (reply_of r (take r.count numbers) (take (text + r.bytes - text) (drop text bytes))) s s' → AnsweredTo bytes s s' (text + r.bytes)
answered_to w h = record { request = sent_in w; inside = w.fits; taken = sent_bytes w; wrote = h }

-- what was taken and said so far
pub record GatheredSoFar (bytes : Bytes) (s : Said) (taken : ℕ) : Type 0 where
  pub taken_inside : taken ≤ length bytes
  pub answers : RepliesTo (take taken bytes) (take s.end s.bytes)

pub gathered_none : {bytes : Bytes} (s : Said) → s.end ≡ 0 → GatheredSoFar bytes s 0
gathered_none {bytes} s e = record { taken_inside = omega arith; answers = subst⁻¹ (λ (n : ℕ). RepliesTo [] (take n s.bytes)) e none }

-- a request takes a byte at least
pub some_taken : {bytes : Bytes} {s s' : Said} {next : ℕ} → AnsweredTo bytes s s' next → 0 < next
some_taken {bytes} {next = next} a =
    omega (arith, ap length a.taken, length-take next bytes, length-append a.request.line (10 ∷ a.request.text))

-- a request more
pub gathered_more : {bytes : Bytes} {s s' : Said} {taken next : ℕ}
    → GatheredSoFar bytes s taken → AnsweredTo (drop taken bytes) s s' next → GatheredSoFar bytes s' (taken + next)
gathered_more {bytes} {s} {s'} {taken} {next} g a =
    let text = replied a.request in
    let before = take s.end s.bytes in
    let asked : take (taken + next) bytes ≡ take taken bytes ++ sent a.request = take-add taken next bytes ∙ ap (λ (t : Bytes). take taken bytes ++ t) a.taken in
    let front : length (before ++ text) ≡ s'.end = omega (arith, length-append before text, length-take s.end s.bytes, a.wrote.fits, a.wrote.ends) in
    let told : take s'.end s'.bytes ≡ before ++ text = ap (take s'.end) a.wrote.pasted ∙ take_at (before ++ text) (drop (s.end + length text) s.bytes) s'.end front in
    record {
      taken_inside = omega (arith, g.taken_inside, a.inside, length-drop taken bytes);
      answers = subst⁻¹ (λ (t : Bytes). RepliesTo t (take s'.end s'.bytes)) asked (subst⁻¹ (RepliesTo (take taken bytes ++ sent a.request)) told (more g.answers a.request));
    }
