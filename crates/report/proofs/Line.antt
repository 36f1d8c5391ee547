-- Lines of numbers, and how the code writes them into a room, one number after another.
use mathlib.Core.Path.{◌≡◌, refl, sym, ap, subst, ◌∙◌}
use Prim.Native.Nat.{ℕ, ◌+◌, ◌*◌, ◌^◌, ◌<◌, ◌≤◌}
use mathlib.Core.List.{List, [], ◌∷◌, ◌++◌, append_assoc, append-nil}
use native.Mathlib.Numerals.{add-one}
use native.Mathlib.Omega.{arith}
use lib.ListN.{length, get_or, take, length-append}
use lib.Seq.{append_snoc, take-suc, take_all}
use Rattle.rules.specs.Text.{Bytes}
use Rattle.rules.specs.Verdict.{told}
use Rattle.rules.specs.Entries.{JudgeKept}
use Rattle.rules.specs.declared.Told.{Told}
use Rattle.rules.specs.declared.Verdict.{Verdict}
use Rattle.rules.specs.Decimal.{decimal}
use Rattle.report.specs.Line.{fields, line_of, report_line, judge_line}
use Rattle.report.specs.Writing.{Wrote, WroteWithin}
use Rattle.rules.proofs.Decimal.{Every, every_none, every_more, every_tail, every_append, every_so, Digit, decimal_digits, decimal_short}
use Rattle.report.proofs.Writing.{wrote_none, wrote_length, wrote_then}

-- the numbers of two lists stand one list after the other
pub fields_append : (a b : List ℕ) → fields (a ++ b) ≡ fields a ++ fields b
unfolding fields
fields_append [] b = refl
fields_append (n ∷ a) b = rw (fields_append a b) (ap (λ (t : Bytes). 9 ∷ t) (sym (append_assoc (decimal n) (fields a) (fields b))))

-- every byte of them has a property that the tab and the digits have
pub fields_every : {P : ℕ → Type 0} → P 9 → ((b : ℕ) → Digit b → P b) → (ns : List ℕ) → Every P (fields ns)
unfolding fields
fields_every p q [] = every_none
fields_every p q (n ∷ ns) = every_more p (every_append (decimal n) (fields ns) (every_so q (decimal_digits n)) (fields_every p q ns))

-- numbers of 32 bits take eleven bytes each at most
pub fields_short : (ns : List ℕ) → Every (λ (n : ℕ). n < 2 ^ 32) ns → length (fields ns) ≤ 11 * length ns
unfolding fields
fields_short [] p = omega arith
fields_short (n ∷ ns) p =
    omega (
      arith,
      length-append (decimal n) (fields ns),
      decimal_short 9 n (omega (arith, p.each 0 (omega arith))),
      fields_short ns (every_tail p),
    )

fields_more : (ns : List ℕ) (i : ℕ) → i < length ns → fields (take (i + 1) ns) ≡ fields (take i ns) ++ 9 ∷ [] ++ decimal (get_or ns i 0)
unfolding fields
fields_more ns i h = rw (add-one, take-suc ns i 0 h, fields_append, append_snoc, append-nil)

-- the loop that writes them has written the first i
pub record Writing (numbers room₀ : List ℕ) (at : ℕ) (room : List ℕ) (end i : ℕ) : Type 0 where
  pub on : i ≤ length numbers
  pub long : length room ≡ length room₀
  pub within : WroteWithin (11 * i) (fields (take i numbers)) room₀ at room end

pub writing_start : {numbers room : List ℕ} {at : ℕ} → at ≤ length room → Writing numbers room at room at 0
unfolding fields
writing_start {numbers} {room} {at} h = record { on = omega arith; long = refl; within = record { wrote = wrote_none room at h; short = omega arith } }

pub writing_more : {numbers room₀ room : List ℕ} {at end i : ℕ} {room₁ room₂ : List ℕ} {e₁ e₂ : ℕ}
    → Writing numbers room₀ at room end i → i < length numbers
    → Wrote (9 ∷ []) room end room₁ e₁ → WroteWithin 10 (decimal (get_or numbers i 0)) room₁ e₁ room₂ e₂
    → Writing numbers room₀ at room₂ e₂ (i + 1)
writing_more {numbers} {room₀} {room} {at} {end} {i} w h v u =
    record {
      on = omega arith;
      long = wrote_length u.wrote ∙ wrote_length v ∙ w.long;
      within = record { wrote = rw (fields_more numbers i h) (wrote_then (wrote_then w.within.wrote v) u.wrote); short = omega (arith, v.ends) };
    }

pub writing_end : {numbers room₀ room : List ℕ} {at end i : ℕ}
    → Writing numbers room₀ at room end i → length numbers ≤ i → WroteWithin (11 * length numbers) (fields numbers) room₀ at room end
writing_end {numbers} {room₀} {room} {at} {end} {i} w h =
    let e : i ≡ length numbers = omega arith in
    record { wrote = rw (take_all i numbers h) at w.within.wrote; short = omega arith }

-- a line is its first number, two lists of others and a line feed
line_parts : (n : ℕ) (a b : List ℕ) → line_of n (a ++ b) ≡ decimal n ++ fields a ++ fields b ++ 10 ∷ []
unfolding line_of
line_parts n a b = rw (fields_append a b, ← append_assoc)

pub wrote_line : (n : ℕ) (a b : List ℕ) {most most' : ℕ} {room : Bytes} {at : ℕ} {room₁ : Bytes} {e₁ : ℕ} {room₂ : Bytes} {e₂ : ℕ} {room₃ : Bytes} {e₃ : ℕ} {room₄ : Bytes} {e₄ : ℕ}
    → WroteWithin 10 (decimal n) room at room₁ e₁ → WroteWithin most (fields a) room₁ e₁ room₂ e₂ → WroteWithin most' (fields b) room₂ e₂ room₃ e₃
    → Wrote (10 ∷ []) room₃ e₃ room₄ e₄ → Wrote (line_of n (a ++ b)) room at room₄ e₄
wrote_line n a b v w x u = rw (line_parts n a b) (wrote_then (wrote_then (wrote_then v.wrote w.wrote) x.wrote) u)

-- the judging program's line is that of what is told
pub wrote_report : {t s : Told} {room : List ℕ} {at : ℕ} {room' : List ℕ} {n : ℕ} → t ≡ s
    → Wrote (line_of t.number (t.line ∷ t.cell ∷ t.index ∷ t.counts.moves ∷ t.counts.waits ∷ t.counts.outcomes ∷ [])) room at room' n
    → Wrote (report_line s) room at room' n
unfolding report_line
wrote_report e p = rw (← e) p

-- the line of the verdict that judge promises
pub wrote_judge : {workspace workspace' : List ℕ} {t : Bytes} {v : Verdict} {room : Bytes} {at : ℕ} {room' : Bytes} {end : ℕ}
    → JudgeKept workspace t v workspace' → Wrote (report_line (told v)) room at room' end → Wrote (judge_line (length workspace) t) room at room' end
unfolding judge_line
wrote_judge {room = room} {at} {room'} {end} k w = subst (λ (v : Verdict). Wrote (report_line (told v)) room at room' end) k.reply w
