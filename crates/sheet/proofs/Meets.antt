-- What meets the hypotheses of `covers_play`: judge accepts P1, and play is given the move 3 on it; and it accepts a sheet with set-up stones.
use mathlib.Core.Path.{◌≡◌, refl, sym, ◌∙◌, subst⁻¹}
use Prim.Native.Nat.{ℕ}
use mathlib.Core.List.{List, [], ◌∷◌}
use lib.ListN.{length, replicate, length-replicate}
use native.Mathlib.Omega.{arith}
use Rattle.rules.specs.Sizes.{least_workspace}
use Rattle.rules.specs.Tree.{Sheet}
use Rattle.rules.specs.Board.{smallest}
use Rattle.rules.specs.Text.{Bytes}
use Rattle.rules.specs.Reading.{got}
use Rattle.rules.specs.Answering.{start, answered, is_empty}
use Rattle.rules.specs.Entries.{accepted, counts, judge, judged, JudgeKept, play, play_shown, workspace_after, room_after}
use Rattle.rules.specs.Promise.{Ruled, MovesToEmpty}
use Rattle.rules.specs.Samples.{sheet, P1, p1, stones, on_stones}
use Rattle.rules.proofs.Computed.{p1_accepted, stones_accepted}
use Rattle.rules.specs.declared.Played.{Played}
use Rattle.rules.specs.declared.Verdict.TheVariants.{Accepted}
use Rattle.rules.proofs.Steps.{got_inj}
use Rattle.rules.proofs.Given.{accepted_exactly}
use Rattle.rules.proofs.Meets.{p1_ruled, p1_opponent}
use Rattle.sheet.specs.Promise.{Plays, Keeps, EndsAgainst, Promised}
use Rattle.sheet.proofs.Promise.{covers_play}

abbrev pub lent : List ℕ
lent = replicate least_workspace 0

-- judge returns that it accepts a text, and so play's promise holds
judged_accepted : (t : Bytes) (s : Sheet) → accepted least_workspace t ≡ got s → JudgeKept lent t (Accepted (counts s)) (workspace_after lent)
unfolding judge judged
judged_accepted t s e = record { reply = rw (length-replicate {A = ℕ} least_workspace 0, e) refl; memory = refl }

promised : (t : Bytes) (s : Sheet) → accepted least_workspace t ≡ got s → Promised t (counts s).waits
promised t s e = covers_play lent t (counts s) (workspace_after lent) (judged_accepted t s e)

pub p1_promised : Promised (sheet P1) (counts p1).waits
p1_promised = promised (sheet P1) p1 p1_accepted

-- from set-up stones of both sides too
pub stones_promised : Promised (sheet stones) (counts on_stones).waits
stones_promised = promised (sheet stones) on_stones stones_accepted

-- the promise is P1's
same_sheet : p1_promised.sheet ≡ p1
same_sheet = got_inj (sym ((accepted_exactly least_workspace (sheet P1) p1_promised.sheet).1 p1_promised.is_sheet) ∙ p1_accepted)

-- play is given 3, with room for its answer, and keeps its promise
abbrev pub returned : Played
returned = play_shown (play (length lent) (sheet P1) (3 ∷ []) 1)

abbrev pub answers : List ℕ
answers = room_after (play (length lent) (sheet P1) (3 ∷ []) 1).answers (0 ∷ [])

pub p1_plays : Plays (sheet P1) (3 ∷ []) (0 ∷ []) returned answers
p1_plays =
    record {
      workspace = lent;
      workspace_later = workspace_after lent;
      kept = record { reply = refl; memory = refl; answers = refl };
      enough = omega (arith, length-replicate {A = ℕ} least_workspace 0);
      room_enough = omega arith;
    }

pub p1_keeps : Keeps p1_promised.sheet (3 ∷ []) (answered (start p1_promised.sheet) 3) (0 ∷ []) returned answers
p1_keeps = p1_promised.plays _ _ _ _ p1_plays _ (subst⁻¹ (λ (s : Sheet). Ruled s (start s) (3 ∷ []) (answered (start s) 3)) same_sheet p1_ruled)

-- and there is an opponent whose game on it ends
pub p1_ends : EndsAgainst (sheet P1) p1_promised.sheet (λ g. smallest p1_promised.sheet.board (is_empty p1_promised.sheet g))
p1_ends = p1_promised.ends _ (subst⁻¹ (λ (s : Sheet). MovesToEmpty s (λ g. smallest s.board (is_empty s g))) same_sheet p1_opponent)
