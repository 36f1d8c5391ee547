-- The fields of a line: a text begins with one field only.
use mathlib.Core.Path.{◌≡◌, refl, sym, ap}
use Prim.Native.Nat.{ℕ}
use mathlib.Core.List.{List, [], ◌∷◌, ◌++◌, append_assoc, append-nil}
use native.Mathlib.Omega.{arith}
use lib.ListN.{length}
use Rattle.rules.specs.Text.{Bytes}
use Rattle.rules.specs.Decimal.{decimal}
use Rattle.report.specs.Line.{fields}
use Rattle.rules.proofs.Decimal.{Every, every_tail, every_so, decimal_digits}
use Rattle.rules.proofs.ReadBack.{decimal_one}
use Rattle.requests.specs.Request.{Ends, FirstField}

-- no byte of a field is a tab
abbrev pub NoTab : Bytes → Type 0
NoTab t = Every (λ (b : ℕ). ¬ (b ≡ 9)) t

-- what follows a field is no field's beginning
no_start : {t : Bytes} (b : ℕ) (c u : Bytes) → Ends t → NoTab (b ∷ c) → ¬ (t ≡ b ∷ u)
no_start b c u e w h = w.each 0 (omega arith) ((rw h at e).stops (omega arith))

-- a text begins with one field only
pub field_one : (a b : Bytes) {t u : Bytes} → NoTab a → NoTab b → Ends t → Ends u → a ++ t ≡ b ++ u → (a ≡ b) × (t ≡ u)
field_one [] [] p q d e h = (refl, h)
field_one [] (y ∷ b) p q d e h = absurd (no_start y b _ d q h)
field_one (x ∷ a) [] p q d e h = absurd (no_start x a _ e p (sym h))
field_one (x ∷ a) (y ∷ b) {t} {u} p q d e h =
    let k : a ++ t ≡ b ++ u = cc in
    let r = field_one a b (every_tail p) (every_tail q) d e k in
    let f : a ≡ b = r.0 in
    (cc, r.1)

-- a number's digits are a field
pub decimal_no_tab : (n : ℕ) → NoTab (decimal n)
decimal_no_tab n = every_so (λ b d e. omega (arith, d.least)) (decimal_digits n)

-- numbers may follow a field, whatever may follow them
fields_ends : (ns : List ℕ) (t : Bytes) → Ends t → Ends (fields ns ++ t)
unfolding fields
fields_ends [] t e = e
fields_ends (n ∷ ns) t e = record { stops = λ _. refl }

-- a field may be the last
ends_none : Ends []
ends_none = record { stops = λ h. absurd (omega arith) }

-- numbers may follow a field, and be the last
pub numbers_end : (ns : List ℕ) → Ends (fields ns)
numbers_end ns = rw append-nil at (fields_ends ns [] ends_none)

-- the numbers ns begin with ms, and the others are the text
pub record Others (ms ns : List ℕ) (t : Bytes) : Type 0 where
  pub rest : List ℕ
  pub splits : ns ≡ ms ++ rest
  pub reads : t ≡ fields rest

-- where the numbers of a line begin as those of another do, so do the lists
pub fields_others : (ms ns : List ℕ) {t : Bytes} → Ends t → fields ns ≡ fields ms ++ t → Others ms ns t
unfolding fields
fields_others [] ns e h = record { rest = ns; splits = refl; reads = sym h }
fields_others (m ∷ ms) [] e h = absurd (omega (arith, ap length h))
fields_others (m ∷ ms) (n ∷ ns) {t} e h =
    let k : decimal n ++ fields ns ≡ (decimal m ++ fields ms) ++ t = cc in
    let one = field_one (decimal n) (decimal m) (decimal_no_tab n) (decimal_no_tab m) (numbers_end ns) (fields_ends ms t e) (rw append_assoc at k) in
    let r = fields_others ms ns e one.1 in
    let f : n ≡ m = decimal_one one.0 in
    record { rest = r.rest; splits = cc r.splits; reads = r.reads }

-- a line's numbers are one list
pub fields_one : (ns ms : List ℕ) → fields ns ≡ fields ms → ns ≡ ms
unfolding fields
fields_one ns ms h = go o.rest o.splits o.reads
  where
    o : Others ms ns []
    o = fields_others ms ns ends_none (rw append-nil h)

    go : (rest : List ℕ) → ns ≡ ms ++ rest → [] ≡ fields rest → ns ≡ ms
    go [] s r = rw append-nil at s
    go (n ∷ rest) s r = absurd (omega (arith, ap length r))

-- no byte of a text's first field is a tab
pub field_no_tab : {text field rest : Bytes} → FirstField text field rest → NoTab field
field_no_tab f = record { each = f.no_tab }
