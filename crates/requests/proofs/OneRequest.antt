-- Bytes are told apart into requests in one way.
use mathlib.Core.Path.{◌≡◌, refl, sym, ap, subst, ◌∙◌}
use Prim.Native.Nat.{◌-◌, ◌<◌, ◌≤◌}
use mathlib.Core.List.{[], ◌∷◌, ◌++◌, append_assoc, append-nil}
use mathlib.Core.Logic.{⊎_elim}
use native.Mathlib.Nat.{eq-zero-or-pos}
use native.Mathlib.Omega.{arith}
use lib.ListN.{length, take, drop, length-append}
use lib.Seq.{take_at, drop_at}
use Rattle.rules.specs.Text.{Bytes}
use Rattle.requests.specs.Request.{LineOf}
use Rattle.requests.specs.Sent.{Sent, sent}
use Rattle.requests.specs.declared.Request.{Request}
use Rattle.requests.proofs.Finding.{feed, no_feed}
use Rattle.requests.proofs.Reading.{line_one}

-- of two requests that begin the same bytes no line is the longer
no_longer : (bytes : Bytes) (s z : Sent) (t u : Bytes) → bytes ≡ sent s ++ t → bytes ≡ sent z ++ u → length s.line ≤ length z.line
no_longer bytes s z t u e f =
    let begins : bytes ++ [] ≡ sent s ++ t = append-nil bytes ∙ e in
    let other : bytes ++ [] ≡ sent z ++ u = append-nil bytes ∙ f in
    let inside : length z.line < length bytes = omega (arith, ap length f, length-append (sent z) u, length-append z.line (10 ∷ z.text)) in
    ⊎_elim
    (λ h. omega arith)
    (λ h. absurd (no_feed bytes [] t s begins (length z.line) (omega arith) inside (feed bytes [] u z other inside)))
    (eq-zero-or-pos (length s.line - length z.line))

-- a text of a known length and what follows it
split_text : (a b : Bytes) {t u : Bytes} → length a ≡ length b → a ++ t ≡ b ++ u → (a ≡ b) × (t ≡ u)
split_text a b {t} {u} l e = (
  sym (take_at a t (length b) l) ∙ ap (take (length b)) e ∙ take_at b u (length b) refl,
  sym (drop_at a t (length b) l) ∙ ap (drop (length b)) e ∙ drop_at b u (length b) refl,
)

-- two requests ask the same of the same text
pub record SameAsk (s z : Sent) : Type 0 where
  pub numbers_same : s.numbers ≡ z.numbers
  pub request_same : s.request ≡ z.request
  pub text_same : s.text ≡ z.text

-- bytes begin with one request
pub sent_one : (s z : Sent) {t u : Bytes} → sent s ++ t ≡ sent z ++ u → SameAsk s z × (t ≡ u)
sent_one s z {t} {u} e =
    let long : length s.line ≡ length z.line = omega (arith, no_longer (sent s ++ t) s z t u refl e, no_longer (sent s ++ t) z s u t e refl) in
    let apart : s.line ++ (10 ∷ (s.text ++ t)) ≡ z.line ++ (10 ∷ (z.text ++ u)) =
    sym (append_assoc s.line (10 ∷ s.text) t) ∙ e ∙ append_assoc z.line (10 ∷ z.text) u in
    let line = split_text s.line z.line long apart in
    let one = line_one (subst (λ (l : Bytes). LineOf l s.numbers s.request) line.0 s.asked) z.asked in
    let size : length s.text ≡ length z.text = s.size ∙ ap (λ (r : Request). r.bytes) one.1 ∙ sym z.size in
    let text = split_text s.text z.text size (ap (drop 1) line.1) in
    (record { numbers_same = one.0; request_same = one.1; text_same = text.0 }, text.1)
