-- The first request of some bytes: where its line ends, and when there is none.
use Rattle.std.specs.Prelude.{Result, Ok, Err}
use mathlib.Core.Path.{◌≡◌, refl, sym, ap, subst, ◌∙◌}
use Prim.Native.Nat.{ℕ, ◌+◌, ◌-◌, ◌<◌, ◌≤◌}
use mathlib.Core.List.{List, [], ◌∷◌, ◌++◌, append_assoc, append-nil}
use mathlib.Core.Logic.{◌⊎◌, inl, inr}
use native.Mathlib.Numerals.{add-one}
use native.Mathlib.Nat.{eq-zero-or-pos}
use native.Mathlib.Omega.{arith}
use lib.ListN.{length, get_or, take, drop, length-append, length-take, length-drop, get_or-append}
use lib.Seq.{append_snoc, get_or-append_seam, take-suc, take-add, take_at, take-append-le}
use Rattle.rules.specs.Text.{Bytes}
use Rattle.requests.specs.Request.{LineOf}
use Rattle.requests.specs.Sent.{Sent, sent, NoneLies, NoneBegins, FirstLineEnd, WholeIn, PartialIn, in_line, in_text, MalformedIn, no_request, too_long, UnfoundIn, FoundIn}
use Rattle.requests.specs.declared.Found.{Found}
use Rattle.requests.specs.declared.Unfound.{Unfound}
use Rattle.requests.specs.declared.Request.{Request}
use Rattle.requests.proofs.Reading.{line_one, line_short, line_no_feed}

-- bytes that go on to begin with a request
module _ (bytes after rest : Bytes) (s : Sent) (begins : bytes ++ after ≡ sent s ++ rest) where
  parts : bytes ++ after ≡ s.line ++ (10 ∷ (s.text ++ rest))
  parts = begins ∙ append_assoc s.line (10 ∷ s.text) rest

  -- the line feed of its line
  pub feed : length s.line < length bytes → get_or bytes (length s.line) 0 ≡ 10
  feed h =
      sym (get_or-append bytes after 0 (length s.line) h)
      ∙ ap (λ (t : Bytes). get_or t (length s.line) 0) parts
      ∙ get_or-append_seam s.line 10 (s.text ++ rest) 0

  -- and no other before
  pub no_feed : (j : ℕ) → j < length s.line → j < length bytes → ¬ (get_or bytes j 0 ≡ 10)
  no_feed j h k e =
      line_no_feed s.asked j h
      (sym (get_or-append s.line (10 ∷ (s.text ++ rest)) 0 j h)
      ∙ sym (ap (λ (t : Bytes). get_or t j 0) parts)
      ∙ get_or-append bytes after 0 j k
      ∙ e)

  -- so the bytes up to their first line feed are the line
  same_line : {end : ℕ} → FirstLineEnd bytes end → s.line ≡ take end bytes
  same_line {end} l = by_place (eq-zero-or-pos (length s.line - end)) (eq-zero-or-pos (end - length s.line))
    where
      by_place : (length s.line - end ≡ 0) ⊎ (0 < length s.line - end) → (end - length s.line ≡ 0) ⊎ (0 < end - length s.line) → s.line ≡ take end bytes
      by_place (inr p) q = absurd (no_feed end (omega arith) l.inside (l.feed))
      by_place (inl p) (inr q) = absurd (l.before (length s.line) (omega arith) (feed (omega (arith, l.inside))))
      by_place (inl p) (inl q) =
          sym (take_at s.line (10 ∷ (s.text ++ rest)) end (omega arith)) ∙ sym (ap (take end) parts) ∙ take-append-le end bytes after (omega (arith, l.inside))

-- the bytes of a request whose text begins at a place, behind the line feed of its line
request_bytes : (bytes : Bytes) (end text n : ℕ) → text ≡ end + 1 → get_or bytes end 0 ≡ 10 → text + n ≤ length bytes
    → take (text + n) bytes ≡ take end bytes ++ 10 ∷ take (text + n - text) (drop text bytes)
request_bytes bytes end text n after feed fits =
    let size : text + n - text ≡ n = omega arith in
    let line : take text bytes ≡ take end bytes ++ 10 ∷ [] = rw (after, add-one, take-suc bytes end 0 (omega arith), feed) in
    take-add text n bytes ∙ rw (size, line) (append_snoc (take end bytes) 10 (take n (drop text bytes)))

-- so it is one that was sent
module _ {bytes : Bytes} {numbers : List ℕ} {r : Request} {text : ℕ} (w : WholeIn bytes numbers r text) where
  abbrev pub sent_in : Sent
  sent_in =
      record {
        line = take w.end bytes;
        numbers = take r.count numbers;
        request = r;
        text = take (text + r.bytes - text) (drop text bytes);
        asked = w.line;
        size = omega (arith, length-take (text + r.bytes - text) (drop text bytes), length-drop text bytes, w.fits);
      }

  pub sent_bytes : take (text + r.bytes) bytes ≡ sent sent_in
  sent_bytes = request_bytes bytes w.end text r.bytes w.after (w.first.feed) w.fits

-- where the bytes end in a request, none lies whole in them, and they are fewer than the longest has
pub partial_none : {bytes : Bytes} → PartialIn bytes → NoneLies bytes
partial_none {bytes} (in_line few none) s rest e =
    let size : length s.line < length bytes = omega (arith, ap length e, length-append (sent s) rest, length-append s.line (10 ∷ s.text)) in
    none (length s.line) size (feed bytes [] rest s (append-nil bytes ∙ e) size)
partial_none {bytes} (in_text end ns r l line few) s rest e =
    let same = same_line bytes [] rest s (append-nil bytes ∙ e) l in
    let one : s.request ≡ r = (line_one (subst (λ (t : Bytes). LineOf t s.numbers s.request) same s.asked) line).1 in
    let size : length s.text ≡ r.bytes = s.size ∙ ap (λ (q : Request). q.bytes) one in
    omega (arith, few, ap length e, length-append (sent s) rest, length-append s.line (10 ∷ s.text), ap length same, length-take end bytes, l.inside)

pub partial_short : {bytes : Bytes} → PartialIn bytes → length bytes < 69974
partial_short (in_line few none) = omega arith
partial_short {bytes} (in_text end ns r l line few) = omega (arith, line_short line, length-take end bytes, l.inside, line.means.bytes_within)

-- where the first line is malformed, no request begins so, whatever follows
pub malformed_begins : {bytes : Bytes} → MalformedIn bytes → NoneBegins bytes
malformed_begins {bytes} (no_request end l none) s after rest e =
    none s.numbers s.request (subst (λ (t : Bytes). LineOf t s.numbers s.request) (same_line bytes after rest s e l) s.asked)
malformed_begins {bytes} (too_long far none) s after rest e =
    let short = line_short s.asked in
    none (length s.line) short (feed bytes after rest s e (omega arith))

-- so none lies whole there
pub malformed_none : {bytes : Bytes} → MalformedIn bytes → NoneLies bytes
malformed_none {bytes} m s rest e = malformed_begins m s [] rest (append-nil bytes ∙ e)

-- a first line ends at one place
first_one : {bytes : Bytes} {e f : ℕ} → FirstLineEnd bytes e → FirstLineEnd bytes f → e ≡ f
first_one {bytes} {e} {f} l m = by_place (eq-zero-or-pos (e - f)) (eq-zero-or-pos (f - e))
  where
    by_place : (e - f ≡ 0) ⊎ (0 < e - f) → (f - e ≡ 0) ⊎ (0 < f - e) → e ≡ f
    by_place (inl p) (inl q) = omega arith
    by_place (inr p) q = absurd (l.before f (omega arith) (m.feed))
    by_place (inl p) (inr q) = absurd (m.before e (omega arith) (l.feed))

module _ {bytes : Bytes} {ns : List ℕ} {r : Request} {text : ℕ} (w : WholeIn bytes ns r text) where
  short_end : w.end ≤ 4437
  short_end = omega (arith, line_short w.line, length-take w.end bytes, w.first.inside)

  whole_partial : ¬ PartialIn bytes
  whole_partial (in_line few none) = none w.end w.first.inside (w.first.feed)
  whole_partial (in_text end ms p l line few) =
      let same = first_one w.first l in
      let one : r ≡ p = (line_one (subst (λ (e : ℕ). LineOf (take e bytes) _ r) same w.line) line).1 in
      omega (arith, few, w.fits, w.after, ap (λ (q : Request). q.bytes) one)

  whole_malformed : ¬ MalformedIn bytes
  whole_malformed (no_request end l none) = none _ r (subst (λ (e : ℕ). LineOf (take e bytes) _ r) (first_one w.first l) w.line)
  whole_malformed (too_long far none) = none w.end short_end (w.first.feed)

partial_malformed : {bytes : Bytes} → PartialIn bytes → ¬ MalformedIn bytes
partial_malformed (in_line few none) (no_request end l other) = none end l.inside (l.feed)
partial_malformed (in_line few none) (too_long far other) = omega arith
partial_malformed {bytes} (in_text end ns r l line few) (no_request other m none) = none ns r (subst (λ (e : ℕ). LineOf (take e bytes) ns r) (first_one l m) line)
partial_malformed {bytes} (in_text end ns r l line few) (too_long far none) =
    none end (omega (arith, line_short line, length-take end bytes, l.inside)) (l.feed)

-- bytes that hold no request hold none for one reason
one_reason : (bytes : Bytes) (u v : Unfound) → UnfoundIn bytes u → UnfoundIn bytes v → u ≡ v
one_reason bytes Unfound.Partial Unfound.Partial p q = refl
one_reason bytes Unfound.Partial Unfound.Malformed p q = absurd (partial_malformed p q)
one_reason bytes Unfound.Malformed Unfound.Partial p q = absurd (partial_malformed q p)
one_reason bytes Unfound.Malformed Unfound.Malformed p q = refl

-- and none that lies whole
whole_unfound : {bytes : Bytes} {ns : List ℕ} {r : Request} {text : ℕ} (u : Unfound) → WholeIn bytes ns r text → ¬ UnfoundIn bytes u
whole_unfound Unfound.Partial w p = whole_partial w p
whole_unfound Unfound.Malformed w m = whole_malformed w m

-- two replies allowed for the same bytes are equal
pub one_found : (bytes : Bytes) (ns ms : List ℕ) (f g : Result Found Unfound) → FoundIn bytes ns f → FoundIn bytes ms g → f ≡ g
one_found bytes ns ms (Ok f) (Ok g) w v =
    let same = first_one w.first v.first in
    let one : f.request ≡ g.request = (line_one (subst (λ (e : ℕ). LineOf (take e bytes) _ f.request) same w.line) v.line).1 in
    let texts : f.text ≡ g.text = omega (arith, w.after, v.after) in
    let t : ◌≡◌ {A = Found} (record { request = f.request; text = f.text }) (record { request = g.request; text = g.text }) = cc in
    ap Ok t
one_found bytes ns ms (Ok f) (Err v) w p = absurd (whole_unfound v w p)
one_found bytes ns ms (Err u) (Ok g) p w = absurd (whole_unfound u w p)
one_found bytes ns ms (Err u) (Err v) p q = ap Err (one_reason bytes u v p q)
