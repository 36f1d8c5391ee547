-- Sheets without set-up lines get the reply they got.
use mathlib.Core.Path.{◌≡◌, refl, ap, subst}
use Prim.Native.Nat.{ℕ}
use mathlib.Core.List.{[], ◌∷◌}
use mathlib.Core.Option.{Option, none, some}
use lib.Dec.{ltb}
use lib.ListN.{length}
use Rattle.rules.specs.Sizes.{most_bytes, least_workspace}
use Rattle.rules.specs.Text.{Bytes}
use Rattle.rules.specs.Lines.{Header, header_line}
use Rattle.rules.specs.Tree.{Move, Sheet, cells_of, at_start}
use Rattle.rules.specs.Reading.{Result, refused, got, Spot, ended, read_tree, planted, read_body, headed, read_sheet_up_to, read_sheet}
use Rattle.rules.specs.Outcomes.{outcomes}
use Rattle.rules.specs.Answering.{start, mine}
use Rattle.rules.specs.Entries.{◌>>=◌, refuse_if, refuse_fault, fair}
use Rattle.rules.specs.Before.{WithoutSetUp, headed_before, read_before, fair_before, AsBefore, SameWithoutSetUp}
use Rattle.rules.specs.declared.Board.{Board}
use Rattle.rules.specs.declared.Player.{Player}
use Rattle.rules.specs.declared.Verdict.TheVariants.{SmallWorkspace, LongText}
use Rattle.rules.proofs.Steps.{not_refused, got_inj, then_got}
use Rattle.rules.proofs.Lines.{header_is}
use Rattle.rules.proofs.SetUp.{set_up_none}
use Rattle.rules.proofs.Unread.{no_line_read}
use Rattle.rules.proofs.Given.{bare_free}
use Rattle.rules.proofs.SameReplies.{same_replies}

-- on a sheet without set-up stones all is as it was
module _ (b : Board) (p : Player) (m : Move) where
  abbrev bare : Sheet
  bare = record { board = b; player = p; set_up = []; root = m }

  bare_before : AsBefore bare
  unfolding fair fair_before refuse_fault ◌>>=◌ outcomes start mine at_start cells_of
  bare_before = record { fair_is = rw (bare_free bare refl); outcomes_are = refl; start_is = refl; mine_are = λ g. refl }

-- the sheets that were read before have none
ended_before : (h : Header) (r : Result (Move × Spot)) (s : Sheet) → ended h [] r ≡ got s → AsBefore s
unfolding ended
ended_before h (refused v) s e = absurd (not_refused e)
ended_before h (got x) s e = by_text x.1.text refl
  where
    by_text : (t : Bytes) → x.1.text ≡ t → AsBefore s
    by_text [] k = subst AsBefore (got_inj (rw (k, ended) at e)) (bare_before h.board h.player x.0)
    by_text (c ∷ t) k = absurd (not_refused (rw (k, ended) at e))

headed_before_lem : (o : Option (Header × Bytes)) (s : Sheet) → headed_before o ≡ got s → AsBefore s
unfolding headed_before read_tree
headed_before_lem none s e = absurd (not_refused e)
headed_before_lem (some x) s e = ended_before x.0 _ s e

read_before_lem : (w : ℕ) (t : Bytes) (s : Sheet) → read_before w t ≡ got s → AsBefore s
unfolding read_before
read_before_lem w t s e =
    let a = then_got (refuse_if (ltb w least_workspace) SmallWorkspace) _ s e in
    let b = then_got (refuse_if (ltb most_bytes (length t)) LongText) _ s a.2 in
    headed_before_lem (header_line t) s b.2

-- without set-up lines the same is read
module _ (t : Bytes) (h : WithoutSetUp t) where
  same_sheet : read_sheet t ≡ headed_before (header_line t)
  unfolding read_sheet_up_to
  same_sheet = by_header (header_line t) refl
    where
      by_header : (o : Option (Header × Bytes)) → header_line t ≡ o → headed o ≡ headed_before o
      by_header none e = unfold headed headed_before in refl
      by_header (some x) e =
          let k = header_is t x e in
          unfold headed headed_before read_body planted in
          ap (planted x.0) (set_up_none (length x.1) x.0.board [] x.1 (no_line_read x.1 (h.no_line x.0.board x.0.player x.1 k.1 k.0)))

  pub same_without : SameWithoutSetUp t
  unfolding read_before
  same_without = record { replies = same_replies t (headed_before (header_line t)) same_sheet; on_sheets = λ w s e. read_before_lem w t s e }
