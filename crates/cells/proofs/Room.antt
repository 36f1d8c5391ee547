-- What is left to grow: the sum of what each row lacks of 2 ^ 32. It falls where rows grow and one of them is not what it was.
use mathlib.Core.Path.{◌≡◌, refl, sym, ap₂}
use mathlib.Core.List.{List, [], ◌∷◌}
use Prim.Native.Nat.{ℕ, suc, ◌+◌, ◌-◌, ◌^◌, ◌<◌, ◌≤◌}
use native.Mathlib.Nat.{suc_inj, suc-ne-zero}
use native.Mathlib.Decide.{ℕ_discrete}
use native.Mathlib.Omega.{arith}
use lib.ListN.{length, get_or}

-- what each row lacks of 2 ^ 32, summed: it falls as the rows grow
unfoldable pub room : List ℕ → ℕ
room [] = 0
room (x ∷ l) = 2 ^ 32 - x + room l

room_le : (a b : List ℕ) → length a ≡ length b → ((k : ℕ) → get_or a k 0 ≤ get_or b k 0) → room b ≤ room a
unfolding room
room_le [] [] e h = omega arith
room_le [] (y ∷ b) e h = absurd (suc-ne-zero (length b) (sym e))
room_le (x ∷ a) [] e h = absurd (suc-ne-zero (length a) e)
room_le (x ∷ a) (y ∷ b) e h = omega (arith, h 0, room_le a b (suc_inj e) (λ k. h (suc k)))

pub room_less : (a b : List ℕ) → length a ≡ length b → ((k : ℕ) → get_or a k 0 ≤ get_or b k 0) → ((k : ℕ) → get_or b k 0 < 2 ^ 32) → (a ≡ b → ⊥) → room b < room a
unfolding room
room_less [] [] e h f n = absurd (n refl)
room_less [] (y ∷ b) e h f n = absurd (suc-ne-zero (length b) (sym e))
room_less (x ∷ a) [] e h f n = absurd (suc-ne-zero (length a) e)
room_less (x ∷ a) (y ∷ b) e h f n = go (ℕ_discrete x y) (λ q. room_less a b (suc_inj e) (λ k. h (suc k)) (λ k. f (suc k)) q)
  where
    go : Dec (x ≡ y) → ((a ≡ b → ⊥) → room b < room a) → 2 ^ 32 - y + room b < 2 ^ 32 - x + room a
    go (yes p) ih =
        let q : room b < room a = ih (λ q. n (ap₂ (λ (z : ℕ) (l : List ℕ). z ∷ l) p q)) in
        omega arith
    go (no p) ih = omega (arith, h 0, f 0, room_le a b (suc_inj e) (λ k. h (suc k)))
