-- A body is read in one way: two replies that the contract of `read_body` allows are equal but for how their sets hold the stones, and
-- they leave the same table.
use mathlib.Core.Path.{◌≡◌, sym, ap, ◌∙◌}
use mathlib.Core.List.{List}
use Prim.Native.Nat.{ℕ, ◌+◌}
use lib.ListN.{length}
use Rattle.std.specs.Prelude.{Ok, Err}
use Rattle.std.specs.Prelude as code
use Rattle.rules.specs.Text.{Bytes}
use Rattle.rules.specs.Tree.{Stone, own_cells, opp_cells, Sheet}
use Rattle.rules.specs.Words.{among}
use Rattle.rules.specs.declared.Board.{Board}
use Rattle.rules.specs.declared.Player.TheVariants.{D}
use Rattle.rules.specs.declared.Verdict.{Verdict}
use Rattle.rules.proofs.Steps.{not_refused, got_inj}
use Rattle.cells.specs.Cells.{held}
use Rattle.cells.specs.declared.Cells.{Cells}
use Rattle.nodes.specs.Sheets.{HeldStones}
use Rattle.nodes.specs.declared.head.SetUp.{SetUp}
use Rattle.reading.specs.Kept.{BodyReply, BodyKept}

-- the own set holds the same cells as another, and so does the opponent's
pub record SameStones (b : Board) (own opp own' opp' : Cells) : Type 0 where
  pub own_same : (x : ℕ) → held b own.rows x ≡ held b own'.rows x
  pub opp_same : (x : ℕ) → held b opp.rows x ≡ held b opp'.rows x

pub same_stones : {b : Board} {cs cs' : List Stone} {own opp own' opp' : Cells} → cs ≡ cs' → HeldStones b cs own opp → HeldStones b cs' own' opp'
    → SameStones b own opp own' opp'
same_stones e h k =
    record {
      own_same = λ x. h.own_held.same x ∙ ap (λ (l : List Stone). among (own_cells l) x) e ∙ sym (k.own_held.same x);
      opp_same = λ x. h.opp_held.same x ∙ ap (λ (l : List Stone). among (opp_cells l) x) e ∙ sym (k.opp_held.same x);
    }

-- the same stones are set up, and the first node has the same line
pub record SameSetUp (b : Board) (u v : SetUp) : Type 0 where
  pub first_same : u.first ≡ v.first
  pub stones_same : SameStones b u.stones.own u.stones.opp v.stones.own v.stones.opp

-- both got, or refused for the same reason
abbrev pub SameReply : Board → code.Result SetUp Verdict → code.Result SetUp Verdict → Type 0
SameReply b (Ok u) (Ok v) = SameSetUp b u v
SameReply b (Err v) (Err w) = v ≡ w
SameReply b (Ok u) (Err v) = ⊥
SameReply b (Err v) (Ok u) = ⊥

pub record OneBody (b : Board) (r r' : code.Result SetUp Verdict) (t t' : List ℕ) : Type 0 where
  pub reply_same : SameReply b r r'
  pub table_same : t ≡ t'

pub one_body : {b : Board} {body : Bytes} {t : List ℕ} (r r' : code.Result SetUp Verdict) (t' t'' : List ℕ)
    → BodyKept b body t r t' → BodyKept b body t r' t'' → OneBody b r r' t' t''
one_body {b} {body} r r' t' t'' p q =
    record { reply_same = same r r' (p.reply_is D) (q.reply_is D); table_same = p.table_is ∙ sym q.table_is }
  where
    same : (r r' : code.Result SetUp Verdict) → BodyReply b D body r t' → BodyReply b D body r' t'' → SameReply b r r'
    same (Ok u) (Ok v) x y =
        let e : x.set_up ≡ y.set_up = ap (λ (s : Sheet). s.set_up) (got_inj (sym x.reads ∙ y.reads)) in
        record {
          first_same = x.first_is ∙ ap (λ (l : List Stone). length l + 2) e ∙ sym y.first_is;
          stones_same = same_stones e x.held y.held;
        }
    same (Ok u) (Err v) x y = not_refused (sym y ∙ x.reads)
    same (Err v) (Ok u) x y = not_refused (sym x ∙ y.reads)
    same (Err v) (Err w) x y = let e = sym x ∙ y in cc e
