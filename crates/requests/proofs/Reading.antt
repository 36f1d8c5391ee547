-- How the code reads a request's line: its word, its numbers and their limits; and the laws of such lines.
use Rattle.std.specs.Prelude.{if◌then◌else◌, Option, Some, None}
use mathlib.Core.Path.{◌≡◌, refl, sym, ap, ◌∙◌}
use Prim.Native.Nat.{ℕ, ◌+◌, ◌*◌, ◌<◌, ◌≤◌}
use mathlib.Core.Bool.{Bool, true, false, ◌&&◌}
use mathlib.Core.List.{List, [], ◌∷◌}
use native.Mathlib.Omega.{arith}
use lib.Dec.{T, eqb, leb, leb→le}
use lib.ListN.{length, get_or, take, length-append}
use Rattle.rules.specs.Text.{Bytes}
use Rattle.rules.proofs.Tests.{fst, snd}
use Rattle.report.specs.Line.{fields}
use Rattle.report.proofs.Line.{fields_every, fields_short}
use Rattle.rules.proofs.Decimal.{Every, every_none, every_more, every_append, every_so}
use Rattle.requests.specs.Request.{name_of, FirstField, CountOf, HasNumbers, RequestOf, RequestReply, LineOf, LineReply}
use Rattle.requests.specs.declared.Ask.{Ask}
use Rattle.requests.specs.declared.Request.{Request}
use Rattle.requests.proofs.Fields.{NoTab, field_one, field_no_tab, numbers_end, fields_one}

-- the test that no byte comes before the digits
abbrev past : Bytes → Bool
past [] = true
past (b ∷ t) = leb 48 b && past t

-- what the test tells
letters : (t : Bytes) → T (past t) → Every (λ (b : ℕ). 48 ≤ b) t
letters [] h = every_none
letters (b ∷ t) h = every_more (leb→le 48 b (fst (leb 48 b) (past t) h)) (letters t (snd (leb 48 b) (past t) h))

-- a word's letters come after the digits
name_letters : (ask : Ask) → Every (λ (b : ℕ). 48 ≤ b) (name_of ask)
name_letters (Ask.Judge false) = letters (name_of (Ask.Judge false)) tt
name_letters (Ask.Judge true) = letters (name_of (Ask.Judge true)) tt
name_letters Ask.Play = letters (name_of Ask.Play) tt
name_letters Ask.Outcome = letters (name_of Ask.Outcome) tt

-- so a word is a field
name_no_tab : (ask : Ask) → NoTab (name_of ask)
name_no_tab ask = every_so (λ b h e. omega arith) (name_letters ask)

-- the words differ, already in their lengths
name_one : (a b : Ask) → name_of a ≡ name_of b → a ≡ b
name_one a b e = sym (back a) ∙ ap ask_of e ∙ back b
  where
    ask_of : Bytes → Ask
    ask_of t = if eqb (length t) 5 then Ask.Judge false else if eqb (length t) 6 then Ask.Judge true else if eqb (length t) 4 then Ask.Play else Ask.Outcome

    back : (ask : Ask) → ask_of (name_of ask) ≡ ask
    back (Ask.Judge false) = refl
    back (Ask.Judge true) = refl
    back Ask.Play = refl
    back Ask.Outcome = refl

-- the first field of a request's line is its word, and the rest is its numbers
pub line_parts : {line word rest : Bytes} {ns : List ℕ} {r : Request} → FirstField line word rest → LineOf line ns r
    → (word ≡ name_of r.ask) × (rest ≡ fields ns)
line_parts {line} {word} {rest} {ns} {r} f l =
    field_one word (name_of r.ask) (field_no_tab f) (name_no_tab r.ask) f.ends (numbers_end ns) (sym f.parts ∙ l.written)

-- the line is the word and the numbers, or no request's
pub line_read : {line word rest : Bytes} {numbers : List ℕ} {n : ℕ} (ask : Ask) (r : Option Request)
    → FirstField line word rest → word ≡ name_of ask → CountOf rest numbers n → RequestReply ask (take n numbers) r → LineReply line numbers r
line_read {line} {word} {rest} {numbers} {n} ask None f w k h =
    λ ns r l.
    let p = line_parts f l in
    let same : ns ≡ take n numbers = fields_one ns (take n numbers) (sym p.1 ∙ k.reads) in
    h r (record { ask_is = name_one r.ask ask (sym p.0 ∙ w); means = rw same at l.means })
line_read {line} {word} {rest} {numbers} {n} ask (Some r) f w k h =
    let same : take r.count numbers ≡ take n numbers = ap (λ (m : ℕ). take m numbers) (sym h.means.size ∙ k.size) in
    record {
      few = rw same k.few;
      written = f.parts ∙ rw (h.ask_is, same, ← k.reads, ← w);
      means = rw same h.means;
    }

-- numbers and what is asked make one request
request_one : {ns : List ℕ} (r p : Request) → r.ask ≡ p.ask → RequestOf ns r → RequestOf ns p → r ≡ p
request_one r p e a b =
    let w : r.work ≡ p.work = a.work_is ∙ sym b.work_is in
    let y : r.bytes ≡ p.bytes = a.bytes_is ∙ sym b.bytes_is in
    let m : r.room ≡ p.room = a.room_is ∙ sym b.room_is in
    let n : r.count ≡ p.count = sym a.size ∙ b.size in
    let t : ◌≡◌ {A = Request} (made r.ask r.work r.bytes r.room r.count) (made p.ask p.work p.bytes p.room p.count) = cc in
    t
  where
    made : Ask → ℕ → ℕ → ℕ → ℕ → Request
    made ask work bytes room count = record { ask = ask; work = work; bytes = bytes; room = room; count = count }

-- a line is one request's
pub line_one : {line : Bytes} {ns ms : List ℕ} {r p : Request} → LineOf line ns r → LineOf line ms p → (ns ≡ ms) × (r ≡ p)
line_one {line} {ns} {ms} {r} {p} a b =
    let one = field_one (name_of r.ask) (name_of p.ask) (name_no_tab r.ask) (name_no_tab p.ask) (numbers_end ns) (numbers_end ms) (sym a.written ∙ b.written) in
    let same : ns ≡ ms = fields_one ns ms one.1 in
    (same, request_one r p (name_one r.ask p.ask one.0) (rw same at a.means) b.means)

-- a word and as many numbers as its kind has, of eleven bytes each, are short
name_short : (ask : Ask) (n : ℕ) → HasNumbers ask n → n ≤ 403 → length (name_of ask) + 11 * n ≤ 4437
name_short (Ask.Judge false) n h l = omega arith
name_short (Ask.Judge true) n h l = omega arith
name_short Ask.Play n h l = omega arith
name_short Ask.Outcome n h l = omega arith

-- a request's line is short
pub line_short : {line : Bytes} {ns : List ℕ} {r : Request} → LineOf line ns r → length line ≤ 4437
line_short {line} {ns} {r} a =
    omega (
      arith,
      ap length a.written,
      length-append (name_of r.ask) (fields ns),
      fields_short ns (record { each = λ j h. omega (arith, a.few.small j) }),
      name_short r.ask (length ns) (rw (← a.means.size) at a.means.counted) a.few.count,
    )

-- a request's line has no line feed
pub line_no_feed : {line : Bytes} {ns : List ℕ} {r : Request} → LineOf line ns r → (j : ℕ) → j < length line → ¬ (get_or line j 0 ≡ 10)
line_no_feed {line} {ns} {r} a =
    (rw (← a.written) at (every_append (name_of r.ask) (fields ns)
    (every_so (λ b h e. omega arith) (name_letters r.ask))
    (fields_every {P = λ (b : ℕ). ¬ (b ≡ 10)} (λ e. omega arith) (λ b d e. omega (arith, d.least)) ns))).each
