-- A reply's line, written part by part, is the reply that is defined.
use mathlib.Core.Path.{◌≡◌, refl, sym, ap, subst, ◌∙◌}
use Prim.Native.Nat.{ℕ, ◌+◌, ◌-◌, ◌≤◌}
use mathlib.Core.Bool.{Bool, true, false}
use mathlib.Core.List.{List, [], ◌∷◌, ◌++◌}
use native.Mathlib.Omega.{arith}
use lib.ListN.{length, get_or, take, drop}
use lib.Seq.{length-take-le, take-add, take_at, drop_at}
use Rattle.rules.specs.Words.{one_if}
use Rattle.rules.specs.Text.{Bytes}
use Rattle.rules.specs.Verdict.{told}
use Rattle.rules.specs.Entries.{play_shown, outcome_shown, room_after, JudgeKept, PlayKept, OutcomeKept}
use Rattle.rules.specs.declared.Told.{Told}
use Rattle.rules.specs.declared.Verdict.{Verdict}
use Rattle.rules.specs.declared.Played.{Played}
use Rattle.rules.specs.declared.Named.{Named}
use Rattle.rules.proofs.Lists.{part_from}
use Rattle.report.specs.All.{all_numbers}
use Rattle.report.specs.Line.{line_of, report_line}
use Rattle.report.specs.Writing.{Wrote}
use Rattle.report.proofs.Line.{wrote_judge}
use Rattle.requests.specs.declared.Ask.{Ask}
use Rattle.requests.specs.declared.Request.{Request}
use Rattle.replies.specs.Reply.{told_line, verdict_line, play_line, outcome_line, reply_of}

-- what is listed stands first in the room
listed_first : (xs room later : List ℕ) → later ≡ room_after xs room → take (length xs) later ≡ xs
unfolding room_after
listed_first xs room later e = ap (take (length xs)) e ∙ take_at xs (drop (length xs) room) (length xs) refl

module _ {workspace workspace' : List ℕ} {t replies : Bytes} {at : ℕ} {replies' : Bytes} {end : ℕ} where
  -- judge's reply, and with all counts
  module _ {v : Verdict} (k : JudgeKept workspace t v workspace') {all : Bool} where
    pub wrote_seven : all ≡ false → Wrote (report_line (told v)) replies at replies' end → Wrote (verdict_line all (length workspace) t) replies at replies' end
    unfolding verdict_line
    wrote_seven e w = rw e (wrote_judge k w)

    pub wrote_all : {numbers : List ℕ} → all ≡ true → numbers ≡ all_numbers (told v) → Wrote (line_of (get_or numbers 0 0) (take 8 (drop 1 numbers) ++ [])) replies at replies' end
        → Wrote (verdict_line all (length workspace) t) replies at replies' end
    unfolding verdict_line
    wrote_all e f w = subst (λ (l : Bytes). Wrote l replies at replies' end) (rw (e, f, k.reply)) w

  -- play's reply
  module _ {moves room room' : List ℕ} {p : Played} (k : PlayKept workspace t moves room p workspace' room') where
    pub wrote_play : {r : Told} {place answers over : ℕ} → r ≡ told p.verdict → place ≡ p.place → answers ≡ p.answers → over ≡ one_if p.over
        → Wrote (told_line r ((place ∷ answers ∷ over ∷ []) ++ take p.answers room')) replies at replies' end
        → Wrote (play_line (length workspace) t moves (length room)) replies at replies' end
    unfolding play_line play_shown
    wrote_play e f g h w = subst (λ (l : Bytes). Wrote l replies at replies' end) (rw (e, f, g, h, k.reply, listed_first _ room room' k.answers)) w

  -- outcome's reply
  module _ {number : ℕ} {room room' : List ℕ} {n : Named} (k : OutcomeKept workspace t number room n workspace' room') where
    pub wrote_outcome : {r : Told} {cells : ℕ} → r ≡ told n.verdict → cells ≡ n.cells
        → Wrote (told_line r ((cells ∷ []) ++ take n.cells room')) replies at replies' end
        → Wrote (outcome_line (length workspace) t number (length room)) replies at replies' end
    unfolding outcome_line outcome_shown
    wrote_outcome e f w = subst (λ (l : Bytes). Wrote l replies at replies' end) (rw (e, f, k.reply, listed_first _ room room' k.cells)) w

-- memory that was filled is as long as it was
module _ (t : Bytes) {replies : Bytes} {at : ℕ} {replies' : Bytes} {end w w' : ℕ} (e : w ≡ w') where
  pub judge_as : (all : Bool) → Wrote (verdict_line all w t) replies at replies' end → Wrote (verdict_line all w' t) replies at replies' end
  judge_as all h = rw (← e) h

  module _ {room room' : ℕ} (f : room ≡ room') where
    pub play_as : (moves : List ℕ) → Wrote (play_line w t moves room) replies at replies' end → Wrote (play_line w' t moves room') replies at replies' end
    play_as moves h = rw (← e, ← f) h

    pub outcome_as : (number : ℕ) → Wrote (outcome_line w t number room) replies at replies' end → Wrote (outcome_line w' t number room') replies at replies' end
    outcome_as number h = rw (← e, ← f) h

-- the numbers from place i up to place n
pub later_numbers : (i n : ℕ) (l : List ℕ) → i ≤ n → n ≤ length l → drop i (take n l) ≡ take (n - i) (drop i l)
later_numbers i n l h k =
    let sum : i + (n - i) ≡ n = omega arith in
    ap (λ (m : ℕ). drop i (take m l)) (sym sum) ∙ ap (drop i) (take-add i (n - i) l) ∙ drop_at (take i l) (take (n - i) (drop i l)) i (length-take-le i l (omega arith))

-- the reply to a request by what it asks, with as much memory lent as it says
module _ (r : Request) (ns : List ℕ) (t : Bytes) {replies : Bytes} {at : ℕ} {replies' : Bytes} {end w : ℕ} (lent : w ≡ r.work) where
  pub replied_judge : (all : Bool) → r.ask ≡ Ask.Judge all → Wrote (verdict_line all w t) replies at replies' end → Wrote (reply_of r ns t) replies at replies' end
  unfolding reply_of
  replied_judge all e h = rw e (judge_as t lent all h)

  module _ {room : ℕ} (fits : room ≡ r.room) where
    pub replied_play : r.ask ≡ Ask.Play → Wrote (play_line w t (take (length ns - 3) (drop 3 ns)) room) replies at replies' end → Wrote (reply_of r ns t) replies at replies' end
    unfolding reply_of
    replied_play e h = rw (e, ← part_from ns 3) (play_as t lent fits _ h)

    pub replied_outcome : r.ask ≡ Ask.Outcome → Wrote (outcome_line w t (get_or ns 3 0) room) replies at replies' end → Wrote (reply_of r ns t) replies at replies' end
    unfolding reply_of
    replied_outcome e h = rw e (outcome_as t lent fits _ h)
