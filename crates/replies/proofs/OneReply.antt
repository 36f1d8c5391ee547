-- The same requests have the same replies, however they are told apart.
use mathlib.Core.Path.{◌≡◌, refl, ap, subst, subst⁻¹}
use mathlib.Core.List.{[], ◌∷◌, ◌++◌, append_assoc, append-nil}
use native.Mathlib.Omega.{arith}
use lib.ListN.{length, length-append}
use Rattle.rules.specs.Text.{Bytes}
use Rattle.requests.specs.Sent.{Sent, sent}
use Rattle.requests.proofs.OneRequest.{sent_one}
use Rattle.replies.specs.Answers.{replied, RepliesTo, none, more}

-- requests and their replies, from the first on
data Lined : Bytes → Bytes → Type 0 where
  end : Lined [] []
  first : {asked said : Bytes} (s : Sent) → Lined asked said → Lined (sent s ++ asked) (replied s ++ said)

-- a request more at the end
lined_more : {asked said : Bytes} → Lined asked said → (s : Sent) → Lined (asked ++ sent s) (said ++ replied s)
lined_more end s = subst (λ (t : Bytes). Lined t (replied s)) (append-nil (sent s)) (subst (Lined (sent s ++ [])) (append-nil (replied s)) (first s end))
lined_more (first {asked} {said} z l) s =
    subst⁻¹ (λ (t : Bytes). Lined t ((replied z ++ said) ++ replied s)) (append_assoc (sent z) asked (sent s))
    (subst⁻¹ (Lined (sent z ++ (asked ++ sent s))) (append_assoc (replied z) said (replied s)) (first z (lined_more l s)))

lined : {asked said : Bytes} → RepliesTo asked said → Lined asked said
lined none = end
lined (more a s) = lined_more (lined a) s

lined_one : {asked asked' said said' : Bytes} → Lined asked said → Lined asked' said' → asked ≡ asked' → said ≡ said'
lined_one end end e = refl
lined_one end (first {asked} s l) e = absurd (omega (arith, ap length e, length-append (sent s) asked, length-append s.line (10 ∷ s.text)))
lined_one (first {asked} s l) end e = absurd (omega (arith, ap length e, length-append (sent s) asked, length-append s.line (10 ∷ s.text)))
lined_one (first {said = said} s l) (first {said = said'} z m) e =
    let one = sent_one s z e in
    let rest : said ≡ said' = lined_one l m one.1 in
    let same = one.0 in
    rw (same.numbers_same, same.request_same, same.text_same, rest)

-- the same requests have the same replies
pub one_answer : {asked said said' : Bytes} → RepliesTo asked said → RepliesTo asked said' → said ≡ said'
one_answer a b = lined_one (lined a) (lined b) refl
