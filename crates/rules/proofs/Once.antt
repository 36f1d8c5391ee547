-- C-20: sheets without a branch twice get the reply they got.
use mathlib.Core.Path.{◌≡◌, refl, sym, ap, subst, ◌∙◌}
use Prim.Native.Nat.{ℕ}
use Rattle.rules.specs.Text.{Bytes}
use Rattle.rules.specs.Tree.{Sheet}
use Rattle.rules.specs.Reading.{Result, refused, got}
use Rattle.rules.specs.Entries.{◌>>=◌, refuse_fault, read, fair, satisfying, accepted, judged, judge, play_of, play, named, outcome}
use Rattle.rules.specs.Plain.{NoneTwice}
use Rattle.rules.specs.SameReplies.{SameReplies}
use Rattle.rules.specs.Once.{WithoutTwice, fair_without24}
use Rattle.rules.proofs.Steps.{got_inj}
use Rattle.rules.proofs.Twice.{none_twice}
use Rattle.rules.proofs.Written.{reads_exactly}
use Rattle.rules.proofs.Given.{read→, accepted_exactly}

-- on a sheet without a branch twice the checks are what they were
fair_once : (s : Sheet) → NoneTwice s → fair s ≡ fair_without24 s
unfolding fair fair_without24 refuse_fault ◌>>=◌
fair_once s h = rw (none_twice s h)

-- so they are after what was read
checked_once : {X : Type 0} (r : Result Sheet) → ((s : Sheet) → r ≡ got s → NoneTwice s) → (f : Sheet → Result X)
    → (r >>= λ s. fair s >>= f) ≡ (r >>= λ s. fair_without24 s >>= f)
unfolding ◌>>=◌
checked_once (refused v) h f = refl
checked_once (got s) h f = ap (λ (z : Result Sheet). z >>= f) (fair_once s (h s refl))

-- and so are the replies
pub same_once : (t : Bytes) → WithoutTwice t → SameReplies t (λ w. read w t) fair_without24
unfolding judge accepted play outcome
same_once t h =
    record {
      to_judge = λ w. ap judged (checked_once (read w t) (once w) satisfying);
      to_play = λ w xs room. ap (λ (r : Result Sheet). play_of r xs room) (checked_once (read w t) (once w) satisfying);
      to_outcome = λ w i room. ap named (checked_once (read w t) (once w) _);
    }
  where
    once : (w : ℕ) (s : Sheet) → read w t ≡ got s → NoneTwice s
    once w s e = h.none_twice s (read→ w t s e).spells

-- a text of which a sheet is accepted has none
pub accepted_once : (w : ℕ) (t : Bytes) (s : Sheet) → accepted w t ≡ got s → WithoutTwice t
accepted_once w t s e =
    let f = ((accepted_exactly w t s).0 e).fair in
    record { none_twice = λ z k. subst NoneTwice (got_inj (sym ((reads_exactly t s).1 f.read.spells) ∙ (reads_exactly t z).1 k)) f.none_twice }
