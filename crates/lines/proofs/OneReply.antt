-- A line is read in one way: two answers that the contract of `header_line`, of `set_up_line` or of `node_line` allows say the same, and the
-- text after it is the same.
use mathlib.Core.Path.{◌≡◌, refl, sym, ap, ap₂, ◌∙◌}
use Prim.Native.Nat.{ℕ, ◌-◌}
use lib.ListN.{length}
use Rattle.std.specs.Prelude as code
use Rattle.std.specs.Borrow.{Bor}
use Rattle.rules.specs.Text.{Bytes, Reader}
use Rattle.rules.specs.Lines as L
use Rattle.rules.proofs.Steps.{some_inj}
use Rattle.rules.specs.declared.LineKind.{LineKind}
use Rattle.lines.specs.Seen.{Reads, skipped, seen_as, number_seen, place_seen, place_of, name_of, said, line_seen, side_of, set_up_of, set_up_seen, header_of, header_seen}
use Rattle.lines.specs.declared.nodes.Place.{Place}
use Rattle.lines.specs.declared.nodes.Line.{Line}
use Rattle.lines.specs.declared.set_up.Side.{Side}
use Rattle.lines.specs.declared.set_up.SetUpLine.{SetUpLine}
use Rattle.lines.specs.declared.header.Header.{Header}

-- two answers that say the same, with the same text after it
abbrev pub Alike : {X : Type 0} → (r r' : code.Option (X × Bor Bytes)) → Type 0
Alike code.None code.None = Unit {0}
Alike code.None (code.Some y) = ⊥
Alike (code.Some x) code.None = ⊥
Alike (code.Some x) (code.Some y) = (x.0 ≡ y.0) × (x.1.now ≡ y.1.now)

-- what was read, and the place in the text where it goes on
abbrev pub placed : {X : Type 0} → Bytes → code.Option (X × Bor Bytes) → code.Option (X × ℕ)
placed s code.None = code.None
placed s (code.Some x) = code.Some (x.0, length s - length x.1.now)

-- so it goes on at the same place
pub one_place_after : {X : Type 0} (s : Bytes) (r r' : code.Option (X × Bor Bytes)) → Alike r r' → placed s r ≡ placed s r'
one_place_after s code.None code.None e = refl
one_place_after s code.None (code.Some y) e = absurd e
one_place_after s (code.Some x) code.None e = absurd e
one_place_after {X} s (code.Some x) (code.Some y) e = ap₂ (λ (a : X) (t : Bytes). code.Some (a, length s - length t)) e.0 e.1

module _ {X A : Type 0} (f : X → A) (one : (x y : X) → f x ≡ f y → x ≡ y) where
  seen_alike : (r r' : code.Option (X × Bor Bytes)) → seen_as f r ≡ seen_as f r' → Alike r r'
  seen_alike code.None code.None e = tt
  seen_alike code.None (code.Some y) e = cc
  seen_alike (code.Some x) code.None e = cc
  seen_alike (code.Some x) (code.Some y) e =
      let f-rest = some_inj e in
      (one x.0 y.0 (ap (λ (z : A × Bytes). z.0) f-rest), ap (λ (z : A × Bytes). z.1) f-rest)

  -- what a reader gives, and the text after it
  one_read : {s : Bytes} {reader : Reader A} (r r' : code.Option (X × Bor Bytes)) → Reads s reader (seen_as f r) → Reads s reader (seen_as f r') → Alike r r'
  one_read r r' p q = seen_alike r r' (p.same ∙ sym q.same)

-- a number
pub one_number : {s : Bytes} {reader : Reader ℕ} (r r' : code.Option (ℕ × Bor Bytes)) → Reads s reader (number_seen r) → Reads s reader (number_seen r') → Alike r r'
one_number = one_read (λ n. n) (λ m n e. e)

-- a byte: the text after it is the same
abbrev pub SameRest : (r r' : code.Option (Bor Bytes)) → Type 0
SameRest code.None code.None = Unit {0}
SameRest code.None (code.Some y) = ⊥
SameRest (code.Some x) code.None = ⊥
SameRest (code.Some x) (code.Some y) = x.now ≡ y.now

same_rest : (r r' : code.Option (Bor Bytes)) → skipped r ≡ skipped r' → SameRest r r'
same_rest code.None code.None e = tt
same_rest code.None (code.Some y) e = cc
same_rest (code.Some x) code.None e = cc
same_rest (code.Some x) (code.Some y) e = ap (λ (z : Unit {0} × Bytes). z.1) (some_inj e)

pub one_byte : {s : Bytes} {reader : Reader (Unit {0})} (r r' : code.Option (Bor Bytes)) → Reads s reader (skipped r) → Reads s reader (skipped r') → SameRest r r'
one_byte r r' p q = same_rest r r' (p.same ∙ sym q.same)

-- line 1
same_header : (h h' : Header) → header_of h ≡ header_of h' → h ≡ h'
same_header h h' e = ap (λ (z : L.Header). let back : Header = record { board = z.board; player = z.player } in back) e

pub one_header : {s : Bytes} (r r' : code.Option (Header × Bor Bytes))
    → Reads s L.header_line (header_seen r) → Reads s L.header_line (header_seen r') → Alike r r'
one_header = one_read header_of same_header

-- a set-up line
same_place : (p p' : Place) → place_of p ≡ place_of p' → p ≡ p'
same_place p p' e = ap (λ (z : L.Place). let back : Place = record { column = z.column; row = z.row } in back) e

same_side : (o o' : Side) → side_of o ≡ side_of o' → o ≡ o'
same_side Side.Own Side.Own e = refl
same_side Side.Opp Side.Opp e = refl
same_side Side.Own Side.Opp e = cc
same_side Side.Opp Side.Own e = cc

same_set_up : (l l' : SetUpLine) → set_up_of l ≡ set_up_of l' → l ≡ l'
same_set_up l l' e =
    ap₂ (λ (o : Side) (p : Place). let line : SetUpLine = record { side = o; place = p } in line)
    (same_side l.side l'.side (ap (λ (z : L.SetUpLine). z.side) e))
    (same_place l.place l'.place (ap (λ (z : L.SetUpLine). z.place) e))

pub one_place : {s : Bytes} (r r' : code.Option (Place × Bor Bytes)) → Reads s L.place (place_seen r) → Reads s L.place (place_seen r') → Alike r r'
one_place = one_read place_of same_place

pub one_set_up : {s : Bytes} (r r' : code.Option (SetUpLine × Bor Bytes))
    → Reads s L.set_up_line (set_up_seen r) → Reads s L.set_up_line (set_up_seen r') → Alike r r'
one_set_up = one_read set_up_of same_set_up

-- a node's line
same_name : (c d : code.Option Place) → name_of c ≡ name_of d → c ≡ d
same_name (code.Some p) (code.Some q) e = ap code.Some (same_place p q (some_inj e))
same_name (code.Some p) code.None e = cc
same_name code.None (code.Some q) e = cc
same_name code.None code.None e = refl

same_line : (l l' : Line) → said l ≡ said l' → l ≡ l'
same_line l l' e =
    ap₂ (λ (p : code.Option Place) (n : ℕ). let line : Line = record { place = p; under = n } in line)
    (same_name l.place l'.place (ap (λ (z : L.Line). z.place) e))
    (ap (λ (z : L.Line). z.under) e)

pub one_line : {s : Bytes} (k : LineKind) (r r' : code.Option (Line × Bor Bytes))
    → Reads s (L.reader_of k) (line_seen r) → Reads s (L.reader_of k) (line_seen r') → Alike r r'
one_line k = one_read said same_line
