-- Where the same is read, the replies are the same.
use mathlib.Core.Path.{◌≡◌, ap}
use Prim.Native.Nat.{ℕ}
use lib.Dec.{ltb}
use lib.ListN.{length}
use Rattle.rules.specs.Sizes.{most_bytes, least_workspace}
use Rattle.rules.specs.Text.{Bytes}
use Rattle.rules.specs.Tree.{Sheet}
use Rattle.rules.specs.Reading.{Result, read_sheet}
use Rattle.rules.specs.Entries.{◌>>=◌, refuse_if, read_text_up_to, read_up_to, fair, accepted_by, accepted, judged, judge, play_of, play, outcome_by, outcome}
use Rattle.rules.specs.SameReplies.{SameReplies}
use Rattle.rules.specs.declared.Verdict.TheVariants.{SmallWorkspace, LongText}

-- 1 and 2, before what is read of the text itself
abbrev pub sized : (workspace : ℕ) → Bytes → Result Sheet → Result Sheet
sized w t r = refuse_if (ltb w least_workspace) SmallWorkspace >>= λ _. refuse_if (ltb most_bytes (length t)) LongText >>= λ _. r

pub same_replies : (t : Bytes) (r : Result Sheet) → read_sheet t ≡ r → SameReplies t (λ w. sized w t r) fair
unfolding read_up_to read_text_up_to judge accepted play outcome
same_replies t r e =
    record {
      to_judge = λ w. ap (λ (q : Result Sheet). judged (accepted_by fair (sized w t q))) e;
      to_play = λ w xs room. ap (λ (q : Result Sheet). play_of (accepted_by fair (sized w t q)) xs room) e;
      to_outcome = λ w i room. ap (λ (q : Result Sheet). outcome_by fair (sized w t q) i room) e;
    }
