-- How the code reads the numbers of a line one after another, and why what it refuses is no such list.
use Rattle.std.specs.Prelude.{Some, None}
use mathlib.Core.Path.{◌≡◌, refl, sym, ap, ◌∙◌}
use Prim.Native.Nat.{ℕ, ◌+◌, ◌-◌, ◌<◌, ◌≤◌}
use mathlib.Core.List.{List, [], ◌∷◌, ◌++◌, append_assoc, append-nil}
use mathlib.Core.Logic.{⊎_elim}
use native.Mathlib.Numerals.{add-one}
use native.Mathlib.Nat.{eq-zero-or-pos}
use native.Mathlib.Omega.{arith}
use lib.ListN.{length, get_or, take, set, length-set, length-append, get_or-eq_default}
use lib.Seq.{length-take-le, take-suc-set, get_or_at}
use Rattle.rules.specs.Text.{Bytes}
use Rattle.rules.specs.Decimal.{decimal}
use Rattle.report.specs.Line.{fields}
use Rattle.report.proofs.Line.{fields_append}
use Rattle.rules.proofs.Decimal.{Every, every_none, every_more, every_append}
use Rattle.requests.specs.Request.{most32, NumberReply, Ends, FirstField, CountOf, CountReply}
use Rattle.requests.proofs.Fields.{field_one, field_no_tab, decimal_no_tab, numbers_end, Others, fields_others}

-- past its end a list reads as 0, so that 0 must have the property too
every_at : {P : ℕ → Type 0} {ns : List ℕ} → Every P ns → P 0 → (j : ℕ) → P (get_or ns j 0)
every_at {P} {ns} p z j =
    ⊎_elim (λ e. rw (get_or-eq_default ns 0 (le e)) z) (λ h. p.each j (omega arith)) (eq-zero-or-pos (length ns - j))
  where
    le : length ns - j ≡ 0 → length ns ≤ j
    le e = omega arith

-- the text is the first numbers, and the rest
pub record Listing (text : Bytes) (numbers : List ℕ) (rest : Bytes) (count : ℕ) : Type 0 where
  pub long : length numbers ≡ 403
  pub few : count ≤ 403
  pub small : Every (λ (n : ℕ). n ≤ most32) (take count numbers)
  pub listed : text ≡ fields (take count numbers) ++ rest
  pub ends : Ends rest

-- as many numbers were read as are counted
listing_size : {text : Bytes} {numbers : List ℕ} {rest : Bytes} {count : ℕ} → Listing text numbers rest count → length (take count numbers) ≡ count
listing_size {numbers = numbers} {count = count} s = length-take-le count numbers (omega (arith, s.long, s.few))

-- no number yet
pub listing_none : {text : Bytes} {numbers : List ℕ} → Ends text → length numbers ≡ 403 → Listing text numbers text 0
unfolding fields
listing_none e l = record { long = l; few = omega arith; small = every_none; listed = refl; ends = e }

-- a number more
pub listing_more : {text : Bytes} {numbers : List ℕ} {rest : Bytes} {count b : ℕ} {next field others : Bytes} (v : ℕ) → Listing text numbers rest count
    → rest ≡ b ∷ next → count < 403 → FirstField next field others → NumberReply field (Some v) → Listing text (set numbers count v) others (count + 1)
unfolding fields
listing_more {text} {numbers} {rest} {count} {b} {next} {field} {others} v s on h f d =
    record {
      long = simp length-set s.long;
      few = omega arith;
      small = rw longer (every_append (take count numbers) (v ∷ []) s.small (every_more d.0 every_none));
      listed = s.listed ∙ rw (longer, fields_append, append_assoc) (ap (λ (t : Bytes). fields (take count numbers) ++ t) one);
      ends = f.ends;
    }
  where
    longer : take (count + 1) (set numbers count v) ≡ take count numbers ++ v ∷ []
    longer = rw add-one (take-suc-set numbers count v (omega (arith, s.long)))

    tab : b ≡ 9
    tab = (rw on at s.ends).stops (omega arith)

    one : rest ≡ fields (v ∷ []) ++ others
    one = rw (on, tab, f.parts, d.1) (ap (λ (t : Bytes). 9 ∷ t ++ others) (sym (append-nil (decimal v))))

-- the numbers are the whole text
pub listing_all : {text : Bytes} {numbers : List ℕ} {rest : Bytes} {count : ℕ} → Listing text numbers rest count → length rest ≡ 0 → CountOf text numbers count
listing_all {text} {numbers} {rest} {count} s h =
    let e : rest ≡ [] = nil rest h in
    record {
      size = listing_size s;
      few = record { count = omega (arith, s.few, listing_size s); small = λ j. every_at s.small (omega arith) j };
      reads = s.listed ∙ rw (e, append-nil);
    }
  where
    nil : (t : Bytes) → length t ≡ 0 → t ≡ []
    nil [] e = refl
    nil (b ∷ t) e = absurd (omega arith)

-- the numbers ns are those that were read, one with which the text goes on, and others
record NextNumber (numbers : List ℕ) (count : ℕ) (next : Bytes) (ns : List ℕ) : Type 0 where
  number : ℕ
  others : List ℕ
  splits : ns ≡ take count numbers ++ number ∷ others
  reads : next ≡ decimal number ++ fields others

-- where the text goes on, so do any numbers that it can be
listing_next : {text : Bytes} {numbers : List ℕ} {rest : Bytes} {count b : ℕ} {next : Bytes} {ns : List ℕ} → Listing text numbers rest count
    → rest ≡ b ∷ next → text ≡ fields ns → NextNumber numbers count next ns
unfolding fields
listing_next {text} {numbers} {rest} {count} {b} {next} {ns} s on e = go o.rest o.splits o.reads
  where
    o : Others (take count numbers) ns rest
    o = fields_others (take count numbers) ns s.ends (sym e ∙ s.listed)

    go : (others : List ℕ) → ns ≡ take count numbers ++ others → rest ≡ fields others → NextNumber numbers count next ns
    go [] p q = absurd (omega (arith, ap length on, ap length q))
    go (n ∷ others) p q = record { number = n; others = others; splits = p; reads = cc on }

-- a text that goes on after 403 numbers has too many
pub refused_more : {text : Bytes} {numbers : List ℕ} {rest : Bytes} {count b : ℕ} {next : Bytes} → Listing text numbers rest count → rest ≡ b ∷ next → count ≡ 403
    → CountReply text numbers None
refused_more {text} {numbers} {rest} {count} s on k ns f e =
    let n = listing_next s on e in
    omega (
      arith,
      f.count,
      ap length n.splits,
      length-append (take count numbers) (n.number ∷ n.others),
      listing_size s,
    )

-- a text whose next field is no number is no such numbers
pub refused_field : {text : Bytes} {numbers : List ℕ} {rest : Bytes} {count b : ℕ} {next field others : Bytes} → Listing text numbers rest count
    → rest ≡ b ∷ next → FirstField next field others → NumberReply field None → CountReply text numbers None
refused_field {text} {numbers} {rest} {count} {b} {next} {field} {others} s on e r ns f d =
    let n = listing_next s on d in
    let one = field_one field (decimal n.number) (field_no_tab e) (decimal_no_tab n.number) e.ends (numbers_end n.others) (sym e.parts ∙ n.reads) in
    r n.number (rw (n.splits, get_or_at (take count numbers) n.number n.others 0 count (listing_size s)) at (f.small count)) one.0
