-- Looking through memory for a number that is not the value: no bit of any is another.
use Rattle.std.specs.Prelude.{Decides}
use Rattle.std.proofs.lemmas.Grind.{replicate_next}
use mathlib.Core.Path.{◌≡◌, refl, sym, ap, ◌∙◌}
use mathlib.Core.List.{List, [], ◌∷◌, ◌++◌}
use Prim.Native.Nat.{ℕ, ◌+◌}
use native.Mathlib.Omega.{arith}
use lib.Dec.{eqb}
use lib.Bits.{bit_or, bit_xor, or_add_and, xor_add_and, xor_self, and_le_l, and_le_r}
use lib.ListN.{length, get_or, take, drop, replicate, length-append, length-replicate}
use lib.Seq.{take_at, drop_at}
use borrow.Author.Tests.{eq-eqb, eqb-true}
use Rattle.replies.specs.Lent.{AllAre}

-- no bit is another only where the numbers are equal
xor_none : (a b : ℕ) → bit_xor a b ≡ 0 → a ≡ b
xor_none a b e = omega (arith, e, xor_add_and a b, and_le_l a b, and_le_r a b)

or_none : (a b : ℕ) → bit_or a b ≡ 0 → (a ≡ 0) × (b ≡ 0)
or_none a b e = (omega (arith, e, or_add_and a b, and_le_l a b, and_le_r a b), omega (arith, e, or_add_and a b, and_le_l a b, and_le_r a b))

-- a number more is the value, as those before it are
all_more : (v x : ℕ) (l : List ℕ) → AllAre v l → x ≡ v → AllAre v (l ++ x ∷ [])
all_more v x l a e =
    let long : length (l ++ x ∷ []) ≡ length l + 1 = length-append l (x ∷ []) in
    rw (long, replicate_next (length l) v, e) (ap (λ (t : List ℕ). t ++ v ∷ []) a)

-- and only so
all_less : (v x : ℕ) (l : List ℕ) → AllAre v (l ++ x ∷ []) → AllAre v l × (x ≡ v)
all_less v x l a =
    let n = length l in
    let same : l ++ x ∷ [] ≡ replicate n v ++ v ∷ [] = a ∙ ap (λ (m : ℕ). replicate m v) (length-append l (x ∷ [])) ∙ replicate_next n v in
    let last : x ∷ [] ≡ v ∷ [] = sym (drop_at l (x ∷ []) n refl) ∙ ap (drop n) same ∙ drop_at (replicate n v) (v ∷ []) n (length-replicate n v) in (
      sym (take_at l (x ∷ []) n refl) ∙ ap (take n) same ∙ take_at (replicate n v) (v ∷ []) n (length-replicate n v),
      ap (λ (t : List ℕ). get_or t 0 0) last,
    )

-- what the numbers that were looked at tell
pub record Looked (v : ℕ) (l : List ℕ) (others : ℕ) : Type 0 where
  pub found : others ≡ 0 → AllAre v l
  pub none : AllAre v l → others ≡ 0

pub looked_none : {v : ℕ} → Looked v [] 0
looked_none = record { found = λ _. refl; none = λ _. refl }

pub looked_more : {v : ℕ} {l : List ℕ} {others : ℕ} (x : ℕ) → Looked v l others → Looked v (l ++ x ∷ []) (bit_or others (bit_xor x v))
looked_more {v} {l} {others} x s =
    record {
      found = λ e. let z = or_none others (bit_xor x v) e in all_more v x l (s.found z.0) (xor_none x v z.1);
      none = λ a. let z = all_less v x l a in rw (s.none z.0, z.1, xor_self v);
    }

pub looked_all : {v : ℕ} {l : List ℕ} {others : ℕ} → Looked v l others → Decides (eqb others 0) (AllAre v l)
looked_all s = (λ e. s.found (eqb-true _ _ e), λ a. eq-eqb _ _ (s.none a))
