-- What judge replies of a text.
use mathlib.Core.Path.{◌≡◌, refl, sym, ap, ◌∙◌}
use mathlib.Core.List.{List}
use Prim.Native.Nat.{ℕ, ◌≤◌}
use native.Mathlib.Omega.{arith}
use lib.ListN.{length}
use borrow.Author.Tests.{lt-ltb, le-ltb}
use Rattle.rules.specs.Sizes.{least_workspace}
use Rattle.rules.specs.Text.{Bytes}
use Rattle.rules.specs.Tree.{Sheet}
use Rattle.rules.specs.Reading.{Result, refused, got}
use Rattle.rules.specs.Entries.{◌>>=◌, refuse_if, read_text_up_to, read_text, read_up_to, accepted, judged, judge, JudgeKept}
use Rattle.rules.specs.declared.Verdict.{Verdict}
use Rattle.rules.specs.declared.Verdict.TheVariants.{SmallWorkspace}
use Rattle.std.specs.Prelude.{Option, Some, None}
use Rattle.std.specs.Option.{unwrap_or}
use Rattle.sheet.specs.Table.{RanReply, RanOn}
use Rattle.judging.specs.Checked.{passing}

-- of a text, with a workspace that suffices
pub text_accepted : (w : ℕ) (t : Bytes) → least_workspace ≤ w → accepted w t ≡ (read_text t >>= passing)
unfolding accepted read_up_to read_text_up_to refuse_if ◌>>=◌
text_accepted w t h = rw (le-ltb w least_workspace h)

module _ (w : ℕ) (t : Bytes) (h : least_workspace ≤ w) where
  pub text_judged : (r : Result Sheet) → read_text t ≡ r → judge w t ≡ judged (r >>= passing)
  unfolding judge
  text_judged r e = ap judged (text_accepted w t h) ∙ ap (λ (z : Result Sheet). judged (z >>= passing)) e

pub reply_refused : (t : Bytes) (v : Verdict) → read_text t ≡ refused v → v ≡ judge least_workspace t
unfolding judged ◌>>=◌
reply_refused t v e = sym (text_judged least_workspace t (omega arith) (refused v) e)

pub reply_sheet : (t : Bytes) (s : Sheet) (v : Verdict) → read_text t ≡ got s → v ≡ judged (passing s) → v ≡ judge least_workspace t
unfolding ◌>>=◌
reply_sheet t s v e j = j ∙ sym (text_judged least_workspace t (omega arith) (got s) e)

-- judge itself: with any workspace that is long enough the verdict is the same
pub judge_ran : {F : Type 0} (run : List ℕ → Verdict → F → List ℕ → Type 0) (ws : List ℕ) (t : Bytes) (o : Option Verdict) (before after : F) (ws' : List ℕ) → RanOn run ws o before after ws'
    → ((table table' : List ℕ) (v : Verdict) → run table v after table' → v ≡ judge least_workspace t) → JudgeKept ws t (unwrap_or o SmallWorkspace) ws'
judge_ran run ws t o before after ws' k each = record { reply = reply o k.reply_is; memory = k.memory }
  where
    reply : (o : Option Verdict) → RanReply run ws o before after → unwrap_or o SmallWorkspace ≡ judge (length ws) t
    reply None n = unfold judge judged accepted read_up_to read_text_up_to refuse_if ◌>>=◌ in sym (rw (lt-ltb (length ws) least_workspace n.0))
    reply (Some v) n =
        each _ _ v n.ran ∙ text_judged least_workspace t (omega arith) (read_text t) refl ∙ sym (text_judged (length ws) t n.enough (read_text t) refl)
