-- A text is read in one way: two replies that the contract of `read_sheet` allows are equal, with the table that they leave, and their
-- sets hold the same stones.
use mathlib.Core.Path.{◌≡◌, sym, ap, subst⁻¹, ◌∙◌}
use mathlib.Core.List.{List}
use Prim.Native.Nat.{ℕ}
use Rattle.rules.specs.Text.{Bytes}
use Rattle.rules.specs.Tree.{Sheet}
use Rattle.rules.specs.declared.Board.{Board}
use Rattle.nodes.specs.Sheets.{HeldStones}
use Rattle.nodes.specs.declared.head.Head.{Head}
use Rattle.std.specs.Prelude.{Result, Ok, Err}
use Rattle.rules.specs.declared.Verdict.{Verdict}
use Rattle.rules.proofs.Steps.{not_refused, got_inj}
use Rattle.reading.proofs.OneReply.{SameSetUp, same_stones}
use Rattle.loading.specs.Held.{SheetReply, SheetKept}

-- the same sheet without its tree, but for how the sets hold the stones
pub record SameHead (h h' : Head) : Type 0 where
  pub board_same : h.grid.board ≡ h'.grid.board
  pub player_same : h.player ≡ h'.player
  pub set_up_same : SameSetUp h.grid.board h.set_up h'.set_up

-- or the same refusal
abbrev pub SameReply : Result Head Verdict → Result Head Verdict → Type 0
SameReply (Ok h) (Ok h') = SameHead h h'
SameReply (Ok h) (Err v) = ⊥
SameReply (Err v) (Ok h) = ⊥
SameReply (Err v) (Err u) = v ≡ u

pub record OneSheet (r r' : Result Head Verdict) (t t' : List ℕ) : Type 0 where
  pub reply_same : SameReply r r'
  pub table_same : t ≡ t'

pub one_sheet : {text : Bytes} {t : List ℕ} (r r' : Result Head Verdict) (t' t'' : List ℕ) → SheetKept text t r t' → SheetKept text t r' t'' → OneSheet r r' t' t''
one_sheet {text} r r' t' t'' p q = record { reply_same = same r r' p.reply_is q.reply_is; table_same = p.table_is ∙ sym q.table_is }
  where
    same : (a a' : Result Head Verdict) → SheetReply text a t' → SheetReply text a' t'' → SameReply a a'
    same (Ok h) (Ok k) x y =
        let e : x.sheet ≡ y.sheet = got_inj (sym x.reads ∙ y.reads) in
        let board : h.grid.board ≡ k.grid.board = sym x.whole.tree.on ∙ ap (λ (s : Sheet). s.board) e ∙ y.whole.tree.on in
        record {
          board_same = board;
          player_same = sym x.for ∙ ap (λ (s : Sheet). s.player) e ∙ y.for;
          set_up_same =
              record {
                first_same = x.whole.set_up.first_is ∙ ap (λ (s : Sheet). s.root.line) e ∙ sym y.whole.set_up.first_is;
                stones_same =
                    same_stones (ap (λ (s : Sheet). s.set_up) e) x.whole.set_up.stones
                    (subst⁻¹ (λ (d : Board). HeldStones d y.sheet.set_up k.set_up.stones.own k.set_up.stones.opp) board y.whole.set_up.stones);
              };
        }
    same (Ok h) (Err v) x y = absurd (not_refused (sym y ∙ x.reads))
    same (Err v) (Ok h) x y = absurd (not_refused (sym x ∙ y.reads))
    same (Err v) (Err u) x y = cc (sym x ∙ y)
