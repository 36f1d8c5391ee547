-- Text written into a room: one byte, and one text after another.
use mathlib.Core.Path.{◌≡◌, refl, sym, ap, ◌∙◌}
use Prim.Native.Nat.{ℕ, ◌+◌, ◌<◌, ◌≤◌}
use mathlib.Core.List.{[], ◌∷◌, ◌++◌, append_assoc, append-nil}
use native.Mathlib.Numerals.{add-one}
use native.Mathlib.Nat.{add-zero}
use native.Mathlib.Omega.{arith}
use lib.ListN.{length, take, drop, set, length-append, length-take, length-drop, take-append-drop}
use lib.Seq.{set_split, append_snoc, take_at, drop_at, drop-drop, take-append_seam}
use Rattle.rules.specs.Text.{Bytes}
use Rattle.report.specs.Writing.{Wrote}

-- nothing is written
pub wrote_none : (room : Bytes) (at : ℕ) → at ≤ length room → Wrote [] room at room at
wrote_none room at h =
    record {
      fits = omega arith;
      ends = omega arith;
      pasted = rw (append-nil, add-zero, take-append-drop);
    }

-- one byte is written
pub wrote_byte : (b : ℕ) (room : Bytes) (at : ℕ) → at < length room → Wrote (b ∷ []) room at (set room at b) (at + 1)
wrote_byte b room at h =
    record {
      fits = omega arith;
      ends = refl;
      pasted = rw (append_snoc, add-one) (set_split room at b h);
    }

-- the room stays as long as it was
pub wrote_length : {text room : Bytes} {at : ℕ} {room' : Bytes} {end : ℕ} → Wrote text room at room' end → length room' ≡ length room
wrote_length {text} {room} {at} w =
    ap length w.pasted ∙ simp (length-append, length-take, length-drop) (omega (arith, w.fits))

-- one text is written, and then another where it ends
pub wrote_then : {a b room : Bytes} {at : ℕ} {room₁ : Bytes} {e₁ : ℕ} {room₂ : Bytes} {e₂ : ℕ}
    → Wrote a room at room₁ e₁ → Wrote b room₁ e₁ room₂ e₂ → Wrote (a ++ b) room at room₂ e₂
wrote_then {a} {b} {room} {at} {room₁} {e₁} {room₂} {e₂} p q =
    let front : length (take at room ++ a) ≡ e₁ = omega (arith, length-append (take at room) a, length-take at room, p.fits, p.ends) in
    let before : take e₁ room₁ ≡ take at room ++ a = rw p.pasted (take_at (take at room ++ a) (drop (at + length a) room) e₁ front) in
    let rest : drop e₁ room₁ ≡ drop e₁ room = rw (p.pasted, ← p.ends) (drop_at (take at room ++ a) (drop e₁ room) e₁ front) in
    let sum : at + length (a ++ b) ≡ e₁ + length b = omega (arith, length-append a b, p.ends) in
    let after : drop (e₁ + length b) room₁ ≡ drop (e₁ + length b) room = sym (drop-drop (length b) e₁ room₁) ∙ ap (drop (length b)) rest ∙ drop-drop (length b) e₁ room in
    record {
      fits = omega (arith, q.fits, wrote_length p);
      ends = q.ends ∙ sym sum;
      pasted = rw (sum, q.pasted, before, after) (simp append_assoc);
    }

-- what was written from the first byte on is all that stands before its end
pub wrote_front : {text room room' : Bytes} {end : ℕ} → Wrote text room 0 room' end → take end room' ≡ text
wrote_front {text} {room} {room'} {end} w =
    let ends : end ≡ length text = omega (arith, w.ends) in
    rw (w.pasted, ends) (take-append_seam text (drop (0 + length text) room))
