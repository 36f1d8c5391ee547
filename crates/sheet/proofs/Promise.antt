-- Demand 3 of the entries: from their contracts and the theorems of rules.
use mathlib.Core.Path.{◌≡◌, refl, sym, ap, ◌∙◌}
use Prim.Native.Nat.{ℕ, ◌<◌, ◌≤◌}
use mathlib.Core.List.{List}
use lib.ListN.{length, get_or, get_or-append}
use native.Mathlib.Omega.{arith}
use Rattle.rules.specs.Sizes.{least_workspace}
use Rattle.rules.specs.Text.{Bytes}
use Rattle.rules.specs.Tree.{Sheet}
use Rattle.rules.specs.Reading.{got}
use Rattle.rules.specs.Answering.{is_over}
use Rattle.rules.specs.Entries.{counts, PlayReply, accepted, play_shown, room_after}
use Rattle.rules.specs.Plain.{IsSheet}
use Rattle.rules.specs.declared.Counts.{Counts}
use Rattle.rules.specs.declared.Played.{Played}
use Rattle.rules.specs.declared.Verdict.TheVariants.{Done}
use Rattle.rules.proofs.Tests.{true_of}
use Rattle.rules.proofs.Given.{accepted_exactly}
use Rattle.rules.proofs.Refusals.{accepted_reply}
use Rattle.rules.proofs.Cover.{demand_3}
use Rattle.sheet.specs.Promise.{PlayKeeps, PlayEnds, CoversPlay}

-- another workspace that suffices changes nothing
in_another : (w v : ℕ) (t : Bytes) (s : Sheet) → least_workspace ≤ v → IsSheet w t s → IsSheet v t s
in_another w v t s l h =
    let f = h.fair in
    record {
      fair =
          record {
            read = record { sizes = record { enough = l; short = f.read.sizes.short }; spells = f.read.spells };
            free = f.free;
            apart = f.apart;
            none_twice = f.none_twice;
            elusive = f.elusive;
            few = f.few;
          };
      satisfying = h.satisfying;
    }

module _ (t : Bytes) (s : Sheet) (h : IsSheet least_workspace t s) where
  accepted_in : (w : ℕ) → least_workspace ≤ w → accepted w t ≡ got s
  accepted_in w l = (accepted_exactly w t s).1 (in_another least_workspace w t s l h)

  play_keeps : PlayKeeps t s
  unfolding room_after
  play_keeps moves room r later p g ruled =
      let w = length p.workspace in
      let k = p.kept in
      let a = accepted_in w p.enough in
      let cover = demand_3 w t s a in
      let d = cover.plays moves g ruled (length room) p.room_enough in
      let written : later ≡ room_after g.answers room = k.answers ∙ ap (λ (z : PlayReply). room_after z.answers room) d.reply in
      let there : (place : ℕ) → place < length moves → get_or later place 0 ≡ get_or g.answers place 0 =
      λ place small. ap (λ (l : List ℕ). get_or l place 0) written ∙ get_or-append g.answers _ 0 place (omega (arith, small, d.one_each))
      in
      record {
        reply = k.reply ∙ ap play_shown d.reply ∙ shown d.one_each;
        one_each = d.one_each;
        written = written;
        each = λ place small. rw (there place small) (cover.each_answer moves g ruled place small);
      }
    where
      shown : length g.answers ≡ length moves
          → play_shown (record { verdict = Done; place = 0; answers = g.answers; over = is_over s g }) ≡ record { verdict = Done; place = 0; answers = length moves; over = is_over s g }
      shown e = unfold play_shown in rw e refl

  play_ends : PlayEnds t s
  play_ends opponent to_empty =
      let j = (demand_3 least_workspace t s (accepted_in least_workspace (omega arith))).is_joined opponent to_empty in
      record {
        end = j;
        plays =
            λ room r later p.
            let kept = play_keeps j.moves room r later p j.game j.ruled in
            (kept, ap (λ (z : Played). z.over) kept.reply ∙ true_of (is_over s j.game) j.joined);
      }

pub covers_play : CoversPlay
unfolding counts
covers_play ws t n after k =
    let a = (accepted_reply (length ws) t n).0 (sym k.reply) in
    let h = in_another (length ws) least_workspace t a.sheet (omega arith) a.is_sheet in
    record {
      sheet = a.sheet;
      is_sheet = h;
      waits_are = ap (λ (z : Counts). z.waits) a.counts_are;
      cover = demand_3 least_workspace t a.sheet (accepted_in t a.sheet h least_workspace (omega arith));
      plays = play_keeps t a.sheet h;
      ends = play_ends t a.sheet h;
    }
