-- The rows settled one after another: the first of them take nothing in.
use mathlib.Core.Path.{◌≡◌, sym, ap, subst, ◌∙◌}
use mathlib.Core.List.{List}
use Prim.Native.Nat.{ℕ, zero, suc, ◌+◌, ◌-◌, ◌^◌, ◌<◌, ◌≤◌}
use native.Mathlib.Decide.{ℕ_discrete}
use native.Mathlib.Nat.{le_refl}
use native.Mathlib.Numerals.{add-one, sub-one}
use native.Mathlib.Omega.{arith}
use lib.ListN.{length, get_or, set, length-set}
use lib.Seq.{get_or-set_same, get_or-set_other}
use Rattle.std.specs.Int.{bit_at}
use Rattle.cells.specs.Rows.{In}
use Rattle.cells.specs.Growing.{grown_row, to_up, to_up_right, Linked, own, Framed, Closure}
use Rattle.cells.proofs.Grown.{grown_at, at_le, at_keeps, at_linked, TakesNone, takes_none, takes_none_on, none_up, none_up_right, top_keeps, closed, linked_through}
use Rattle.cells.proofs.Room.{room, room_less}

-- a set's 21 words, of 32 bits each
pub record Words (a : List ℕ) : Type 0 where
  pub long : length a ≡ 21
  pub fits : (k : ℕ) → get_or a k 0 < 2 ^ 32

-- the words have grown from a inside s, and the rows above the given one take nothing in
pub record Settled (s a : List ℕ) (row : ℕ) (words : List ℕ) : Type 0 where
  pub kept : Words words
  pub sound : (c k : ℕ) → In words c k → Linked s a c k
  pub holds : (c k : ℕ) → In a c k → In words c k
  pub settled : (k : ℕ) → suc k < row → TakesNone s words k

pub settled_none : (s : List ℕ) {a : List ℕ} → Words a → Settled s a 1 a
settled_none s w = record { kept = w; sound = λ c k i. own i; holds = λ c k i. i; settled = λ k h. absurd (omega (arith, h)) }

-- the word of a row as the code makes it
abbrev pub grown_here : (s words : List ℕ) → ℕ → ℕ
grown_here s words row = grown_row (get_or s row 0) (get_or words (row - 1) 0) (get_or words row 0) (get_or words (row + 1) 0)

word_is : (s words : List ℕ) {word : ℕ} (row : ℕ) → word ≡ grown_here s words (suc row) → word ≡ grown_at s words row
word_is s words row e = rw (add-one, sub-one) at e

-- a row that takes nothing in
pub settled_more : {s a words : List ℕ} (rows row : ℕ) → Settled s a row words → 1 ≤ row → Framed rows s → get_or words row 0 ≡ grown_here s words row → Settled s a (row + 1) words
settled_more rows zero g h fr e = absurd (omega arith)
settled_more {s} {a} {words} rows (suc row) g h fr e =
    record { kept = g.kept; sound = g.sound; holds = g.holds; settled = λ k l. go k l (ℕ_discrete k row) }
  where
    go : (k : ℕ) → suc k < suc row + 1 → Dec (k ≡ row) → TakesNone s words k
    go k l (yes same) = rw same (takes_none rows s words row fr (sym (word_is s words row e)))
    go k l (no other) = g.settled k (omega (arith, l, other))

-- a row that takes cells in
module _ {s a words : List ℕ} {row : ℕ} (g : Settled s a (suc row) words) (few : row < 20) where
  abbrev grown : List ℕ
  grown = set words (suc row) (grown_at s words row)

  here : get_or grown (suc row) 0 ≡ grown_at s words row
  here = get_or-set_same words (suc row) (grown_at s words row) 0 (omega (arith, g.kept.long))

  other : (k : ℕ) → k ≤ row → get_or grown k 0 ≡ get_or words k 0
  other k l = get_or-set_other words (suc row) k (grown_at s words row) 0 (λ e. omega (arith, l, e))

  -- the row itself, or another
  by_row : (k : ℕ) (P : ℕ → ℕ → Type 0) → (k ≡ suc row → P (suc row) (grown_at s words row)) → P k (get_or words k 0) → P k (get_or grown k 0)
  by_row k P new old = go (ℕ_discrete k (suc row))
    where
      go : Dec (k ≡ suc row) → P k (get_or grown k 0)
      go (yes same) = rw (same, here) (new same)
      go (no apart) = rw (get_or-set_other words (suc row) k (grown_at s words row) 0 apart) old

  -- the rows above the one before it take nothing in still
  still : (k : ℕ) → suc (suc k) ≤ row → TakesNone s grown k
  still k l =
      let none = g.settled k (omega (arith, l)) in
      let same = other (suc (suc k)) l in
      takes_none_on s words grown k none (λ r h. other r (omega (arith, h, l))) (λ c i j. none c c (suc (suc k)) (rw same at i) to_up j)
      (λ c i j. none (suc c) c (suc (suc k)) (rw same at i) to_up_right j)

  -- and so does that one, where it grows to itself from the row
  kept_up : (rows k : ℕ) → Framed rows s → suc k ≡ row → grown_row (get_or s row 0) 0 (get_or words row 0) (grown_at s words row) ≡ get_or words row 0 → TakesNone s grown k
  kept_up rows k fr is e =
      let f : grown_row (get_or s (suc k) 0) 0 (get_or words (suc k) 0) (grown_at s words row) ≡ get_or words (suc k) 0 = rw is e in
      let low : get_or grown (suc (suc k)) 0 ≡ grown_at s words row = rw is here in
      takes_none_on s words grown k (g.settled k (omega (arith, is))) (λ r h. other r (omega (arith, h, is)))
      (λ c i j. none_up rows s fr k _ _ f c (rw low at i) j) (λ c i j. none_up_right rows s fr k _ _ f c (rw low at i) j)

  grows : (rows row' : ℕ) → Framed rows s → grown_at s words row < 2 ^ 32 → ((k : ℕ) → suc k < row' → TakesNone s grown k) → Settled s a row' grown
  grows rows row' fr w none =
      record {
        kept = record { long = length-set words (suc row) (grown_at s words row) ∙ g.kept.long; fits = λ k. by_row k (λ (i x : ℕ). x < 2 ^ 32) (λ _. w) (g.kept.fits k) };
        sound = λ c k. by_row k (λ (i x : ℕ). bit_at x c ≡ 1 → Linked s a c i) (λ _ e. linked_through g.sound (at_linked s words row rows fr c e)) (g.sound c k);
        holds = λ c k i. by_row k (λ (i x : ℕ). bit_at x c ≡ 1) (λ same. at_keeps s words row c (g.holds c (suc row) (subst (In a c) same i))) (g.holds c k i);
        settled = none;
      }

  less : grown_at s words row < 2 ^ 32 → ¬ (grown_at s words row ≡ get_or words (suc row) 0) → room grown < room words
  less w new =
      room_less words grown (sym (length-set words (suc row) (grown_at s words row)))
      (λ k. by_row k (λ (i x : ℕ). get_or words i 0 ≤ x) (λ _. at_le s words row) (le_refl (get_or words k 0)))
      (λ k. by_row k (λ (i x : ℕ). x < 2 ^ 32) (λ _. w) (g.kept.fits k))
      (λ e. new (sym here ∙ sym (ap (λ (l : List ℕ). get_or l (suc row) 0) e)))

-- the same of the word that the code makes: what is settled then, from the row above on or from the row itself, and that there is less room
module _ {s a words : List ℕ} {word : ℕ} (fits : word < 2 ^ 32) where
  pub settled_back : (rows row : ℕ) → Settled s a row words → 1 ≤ row → row < 21 → Framed rows s → word ≡ grown_here s words row → Settled s a (row - 1) (set words row word)
  settled_back rows zero g h few fr e = absurd (omega arith)
  settled_back rows (suc row) g h few fr e =
      let i = word_is s words row e in
      rw i (grows g (omega arith) rows (suc row - 1) fr (subst (λ (x : ℕ). x < 2 ^ 32) i fits) (λ k l. still g (omega arith) k (omega arith)))

  pub settled_here : (rows row : ℕ) → Settled s a row words → 1 ≤ row → row < 21 → Framed rows s → word ≡ grown_here s words row
      → grown_row (get_or s (row - 1) 0) 0 (get_or words (row - 1) 0) word ≡ get_or words (row - 1) 0 → Settled s a row (set words row word)
  settled_here rows zero g h few fr e f = absurd (omega arith)
  settled_here rows (suc row) g h few fr e f =
      let i = word_is s words row e in
      rw i (grows g (omega arith) rows (suc row) fr (subst (λ (x : ℕ). x < 2 ^ 32) i fits) (λ k l. go k l (ℕ_discrete (suc k) row)))
    where
      go : (k : ℕ) → suc k < suc row → Dec (suc k ≡ row) → TakesNone s (set words (suc row) (grown_at s words row)) k
      go k l (yes is) = kept_up g (omega arith) rows k fr is (rw (sub-one, word_is s words row e) at f)
      go k l (no apart) = still g (omega arith) k (omega arith)

  pub settled_room : (row : ℕ) → Settled s a row words → 1 ≤ row → row < 21 → word ≡ grown_here s words row → ¬ (word ≡ get_or words row 0)
      → room (set words row word) < room words
  settled_room zero g h few e new = absurd (omega arith)
  settled_room (suc row) g h few e new =
      let i = word_is s words row e in
      rw i (less g (omega arith) (subst (λ (x : ℕ). x < 2 ^ 32) i fits) (λ same. new (i ∙ same)))

-- only below row 1 is there a row above that takes anything in
pub not_top : {s : List ℕ} {word : ℕ} (rows row h d : ℕ) → Framed rows s → 1 ≤ row → word < 2 ^ 32 → word ≡ grown_row (get_or s (row - 1) 0) 0 h d → ¬ (word ≡ h) → 2 ≤ row
not_top rows zero h d fr l w e new = absurd (omega arith)
not_top {s} rows (suc zero) h d fr l w e new = absurd (new (e ∙ top_keeps rows s h d fr (subst (λ (x : ℕ). x < 2 ^ 32) e w)))
not_top rows (suc (suc row)) h d fr l w e new = omega arith

-- all rows are settled
pub settled_all : {s a words : List ℕ} {row : ℕ} (rows : ℕ) → Settled s a row words → rows < row → Framed rows s → Closure s a words
settled_all {s} {a} {words} rows g h fr = record { sound = g.sound; whole = closed rows s a words fr (λ k l. g.settled k (omega (arith, l, h))) g.holds }
