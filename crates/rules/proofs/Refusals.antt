-- A refusal of the reading is one of 3 to 9 or 19, so judge replies that it accepts of sheets only.
use mathlib.Core.Path.{◌≡◌, refl, subst}
use mathlib.Core.Logic.{◌↔◌, inl, inr}
use Prim.Native.Nat.{ℕ}
use native.Mathlib.Omega.{arith}
use Rattle.rules.specs.Text.{Bytes}
use Rattle.rules.specs.Reading.{refused, read_sheet}
use Rattle.rules.specs.Unread.{Unread, no_header, no_line, off_board, stone_off, stone_twice, one_too_many, too_deep, text_ends, text_remains}
use Rattle.rules.specs.Entries.{judged, judge}
use Rattle.rules.specs.Plain.{Given, as_accepted, as_small, as_long, as_unread, as_on_set_up, as_not_apart, as_twice, as_not_elusive, as_too_many, as_not_joined, OfReading, AcceptedAs}
use Rattle.rules.specs.Verdict.{told}
use Rattle.rules.specs.declared.Counts.{Counts}
use Rattle.rules.specs.declared.Told.{Told}
use Rattle.rules.specs.declared.Verdict.{Verdict}
use Rattle.rules.specs.declared.Verdict.TheVariants.{Accepted}
use Rattle.rules.proofs.Unread.{refused_exactly}
use Rattle.rules.proofs.Given.{judge_given, accepted_exactly}

-- a refusal of the reading, case by case
pub unread_of : {t : Bytes} {v : Verdict} → Unread t v → OfReading v
unread_of (no_header h) = record { least = omega arith; most = inl (omega arith) }
unread_of (no_line b first n d ds left a some_text few h) = record { least = omega arith; most = inl (omega arith) }
unread_of (off_board b first n d ds line after l a i few deep off) = record { least = omega arith; most = inl (omega arith) }
unread_of (stone_off b cs o p after a h off) = record { least = omega arith; most = inl (omega arith) }
unread_of (stone_twice b cs o p after a h on old) = record { least = omega arith; most = inr refl }
unread_of (one_too_many b first d ds left a some_text) = record { least = omega arith; most = inl (omega arith) }
unread_of (too_deep b first n d ds line after l a i few deep) = record { least = omega arith; most = inl (omega arith) }
unread_of (text_ends b first n d ds a) = record { least = omega arith; most = inl (omega arith) }
unread_of (text_remains b first n left a some_text) = record { least = omega arith; most = inl (omega arith) }

pub reading_refusals : (t : Bytes) (v : Verdict) → read_sheet t ≡ refused v → OfReading v
reading_refusals t v e = unread_of ((refused_exactly t v).0 e)

-- what is told with 0 is a sheet's
pub given_zero : (w : ℕ) (t : Bytes) (n : Told) → n.number ≡ 0 → Given w t n → AcceptedAs w t n.counts
given_zero w t _ e (as_accepted s h) = record { sheet = s; is_sheet = h; counts_are = refl }
given_zero w t _ e (as_small h) = absurd (omega (arith, e))
given_zero w t _ e (as_long h l) = absurd (omega (arith, e))
given_zero w t _ e (as_unread v h u) = absurd (omega (arith, e, (unread_of u).least))
given_zero w t _ e (as_on_set_up s f r i) = absurd (omega (arith, e))
given_zero w t _ e (as_not_apart s f r o i) = absurd (omega (arith, e))
given_zero w t _ e (as_twice s l r o a i) = absurd (omega (arith, e))
given_zero w t _ e (as_not_elusive s f r o a d i) = absurd (omega (arith, e))
given_zero w t _ e (as_too_many s r o a d k l) = absurd (omega (arith, e))
given_zero w t _ e (as_not_joined s i f h) = absurd (omega (arith, e))

-- demand 2, of judge's reply: it is accepted exactly for sheets, with their counts
pub accepted_reply : (w : ℕ) (t : Bytes) (n : Counts) → (judge w t ≡ Accepted n) ↔ AcceptedAs w t n
accepted_reply w t n = (λ e. subst (λ (v : Verdict). Accepted-as v) e (λ z. given_zero w t _ z (judge_given w t)) refl, back)
  where
    Accepted-as : Verdict → Type 0
    Accepted-as v = (told v).number ≡ 0 → AcceptedAs w t (told v).counts

    back : AcceptedAs w t n → judge w t ≡ Accepted n
    back a =
        unfold judge judged in
        rw ((accepted_exactly w t a.sheet).1 a.is_sheet, a.counts_are)
