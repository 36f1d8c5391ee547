-- One law for each reader of a line: what it read is what is written, before what is left; and what is written is read.
use mathlib.Core.Path.{◌≡◌, refl, ap, subst, ◌∙◌}
use Prim.Native.Nat.{ℕ, zero, suc, ◌+◌, ◌-◌, ◌≤◌}
use mathlib.Core.Bool.{Bool, true, false, ◌&&◌}
use mathlib.Core.List.{List, [], ◌∷◌, ◌++◌, append_assoc}
use mathlib.Core.Logic.{◌≢◌, ◌⊎◌, inl, inr}
use mathlib.Core.Option.{Option, none, some, IsSome}
use Prim.Native.Char.{code}
use Prim.Native.String as S
use lib.Dec.{T, eqb, eqb→eq, leb, leb→le}
use borrow.Author.Tests.{le-leb}
use native.Mathlib.Omega.{arith}
use Rattle.rules.specs.Sizes.{highest_row, most_under}
use Rattle.rules.specs.Board.{on_board, cell_at, is_cell, column_of, row_of}
use Rattle.rules.specs.Text.{Bytes, Reader, bind, ◌>>◌, ◌or_else◌, give, guard, any_byte, byte, word, tab, line_feed, is_digit, digits, number, number_in}
use Rattle.rules.specs.Lines.{Place, Line, Header, Side, own, opp, SetUpLine, side, set_up_line, player, letter, place, move_line, dash_line, wait_line, header_up_to, reader_of}
use Rattle.rules.specs.Decimal.{decimal}
use Rattle.rules.specs.Written.{printed, tabbed, a_line, written_player, written_header, written_place, place_of, written_side, written_set_up, written_move, written_wait}
use Rattle.rules.specs.Reading.{within, cell_of}
use Rattle.rules.specs.Unread.{BoardUpTo, BoardSize, Nameable, IsLine, of_move, of_first, of_dash, of_wait}
use Rattle.rules.specs.declared.Board.{Board}
use Rattle.rules.specs.declared.LineKind.{LineKind}
use Rattle.rules.specs.declared.LineKind.TheVariants as K
use Rattle.rules.specs.declared.Player.{Player}
use Rattle.rules.specs.declared.Player.TheVariants.{D, A}
use Rattle.rules.proofs.Tests.{fst, snd}
use Rattle.rules.proofs.Places.{on_test, test_on, cell_range, cell_place, at_place, column_at, row_at, cell_at_lem}
use Rattle.rules.proofs.Steps.{none≢some, some_inj, bind_some}
use Rattle.rules.proofs.ReadBack.{number_is, read_back}

-- What was read by one reader and then by others: a test that holds, a byte, a word, a number
module _ {B X : Type 0} {y : B × Bytes} where
  guard_then : (g : Bool) (t : Bytes) (f : Unit {0} → Reader B) → bind (guard g t) f ≡ some y → (T g → f tt t ≡ some y → X) → X
  unfolding bind guard
  guard_then true t f e k = k tt e
  guard_then false t f e k = absurd (none≢some e)

  step_then : {A : Type 0} (r : Reader A) (t : Bytes) (f : A → Reader B) → bind (r t) f ≡ some y
      → ((a : A) (u : Bytes) → r t ≡ some (a, u) → f a u ≡ some y → X) → X
  step_then r t f e k = let (x, p, q) = bind_some (r t) f y e in k x.0 x.1 p q

  byte_then : (b : ℕ) (t : Bytes) (f : Unit {0} → Reader B) → bind (byte b t) f ≡ some y → ((u : Bytes) → t ≡ b ∷ u → f tt u ≡ some y → X) → X
  unfolding bind byte any_byte
  byte_then b [] f e k = absurd (none≢some e)
  byte_then b (c ∷ u) f e k = guard_then (eqb c b) u f e λ g q. k u (ap (λ (d : ℕ). d ∷ u) (eqb→eq c b g)) q

word_is : (w : S.String) (t : Bytes) (y : Unit {0} × Bytes) → word w t ≡ some y → t ≡ printed w ++ y.1
unfolding word printed give
word_is S.[] t y e = ap (λ (z : Unit {0} × Bytes). z.1) (some_inj e)
word_is (S.◌∷◌ c w) t y e = byte_then (code c) t _ e λ u p q. p ∙ ap (λ (v : Bytes). code c ∷ v) (word_is w u y q)

word_then : {B X : Type 0} {y : B × Bytes} (w : S.String) (t : Bytes) (f : Unit {0} → Reader B) → bind (word w t) f ≡ some y
    → ((u : Bytes) → t ≡ printed w ++ u → f tt u ≡ some y → X) → X
word_then w t f e k = step_then (word w) t f e λ a u p. k u (word_is w t (a, u) p)

number_in_is : (lo hi : ℕ) (t : Bytes) (y : ℕ × Bytes) → number_in lo hi t ≡ some y → (t ≡ decimal y.0 ++ y.1) × (lo ≤ y.0) × (y.0 ≤ hi)
unfolding number_in give
number_in_is lo hi t y e =
    step_then number t _ e λ n u p q.
    guard_then (leb lo n && leb n hi) u _ q λ g r.
    subst (λ (z : ℕ × Bytes). (t ≡ decimal z.0 ++ z.1) × (lo ≤ z.0) × (z.0 ≤ hi)) (some_inj r)
    (number_is t (n, u) p, leb→le lo n (fst (leb lo n) (leb n hi) g), leb→le n hi (snd (leb lo n) (leb n hi) g))

number_then : {B X : Type 0} {y : B × Bytes} (lo hi : ℕ) (t : Bytes) (f : ℕ → Reader B) → bind (number_in lo hi t) f ≡ some y
    → ((n : ℕ) (u : Bytes) → t ≡ decimal n ++ u → lo ≤ n → n ≤ hi → f n u ≡ some y → X) → X
number_then lo hi t f e k =
    step_then (number_in lo hi) t f e λ n u p q.
    let r = number_in_is lo hi t (n, u) p in
    k n u r.0 r.1 r.2 q

-- one of two readers read it
or_then : {A X : Type 0} {y : A × Bytes} (r q : Reader A) (t : Bytes) → (r or_else q) t ≡ some y → (r t ≡ some y → X) → (q t ≡ some y → X) → X
unfolding ◌or_else◌
or_then {A} {X} {y} r q t e k l = go (r t) refl
  where
    go : (o : Option (A × Bytes)) → r t ≡ o → X
    go none f = l (rw (f, ◌or_else◌) at e)
    go (some x) f = k (f ∙ rw (f, ◌or_else◌) at e)

player_is : (t : Bytes) (y : Player × Bytes) → player t ≡ some y → t ≡ written_player y.0 ++ y.1
unfolding player written_player give
player_is t y e =
    or_then (word "D" >> give D) (word "A" >> give A) t e
    (λ d. word_then "D" t _ d λ u p q. p ∙ ap (λ (z : Player × Bytes). written_player z.0 ++ z.1) (some_inj q))
    (λ a. word_then "A" t _ a λ u p q. p ∙ ap (λ (z : Player × Bytes). written_player z.0 ++ z.1) (some_inj q))

-- line 1
pub header_is : {most : ℕ} (t : Bytes) (y : Header × Bytes) → header_up_to most t ≡ some y → (t ≡ written_header y.0.board y.0.player ++ y.1) × BoardUpTo most y.0.board
unfolding header_up_to written_header tab line_feed printed a_line tabbed give
header_is {most} t y e =
    word_then "hex" t _ e λ u₁ p₁ e₁.
    byte_then 9 u₁ _ e₁ λ u₂ p₂ e₂.
    number_then 1 most u₂ _ e₂ λ c u₃ p₃ c₁ c₂ e₃.
    byte_then 9 u₃ _ e₃ λ u₄ p₄ e₄.
    number_then 1 most u₄ _ e₄ λ r u₅ p₅ r₁ r₂ e₅.
    byte_then 9 u₅ _ e₅ λ u₆ p₆ e₆.
    step_then player u₆ _ e₆ λ p u₇ p₇ e₇.
    byte_then 10 u₇ _ e₇ λ u₈ p₈ e₈.
    subst (λ (z : Header × Bytes). (t ≡ written_header z.0.board z.0.player ++ z.1) × BoardUpTo most z.0.board) (some_inj e₈)
    (rw (p₁, p₂, p₃, p₄, p₅, p₆, player_is u₆ (p, u₇) p₇, p₈) (simp append_assoc), record { columns = (c₁, c₂); rows = (r₁, r₂) })

letter_is : (t : Bytes) (y : ℕ × Bytes) → letter t ≡ some y → (t ≡ (96 + y.0) ∷ y.1) × (1 ≤ y.0) × (y.0 ≤ 26)
unfolding letter bind any_byte give
letter_is [] y e = absurd (none≢some e)
letter_is (b ∷ t) y e =
    guard_then (leb 97 b && leb b 122) t _ e λ g p.
    let low : 97 ≤ b = leb→le 97 b (fst (leb 97 b) (leb b 122) g) in
    let high : b ≤ 122 = leb→le b 122 (snd (leb 97 b) (leb b 122) g) in
    let back : b ≡ 96 + (b - 96) = omega arith in
    subst (λ (z : ℕ × Bytes). (b ∷ t ≡ (96 + z.0) ∷ z.1) × (1 ≤ z.0) × (z.0 ≤ 26)) (some_inj p)
    (ap (λ (c : ℕ). c ∷ t) back, omega arith, omega arith)

place_is : (t : Bytes) (y : Place × Bytes) → place t ≡ some y → (t ≡ written_place (some y.0) ++ y.1) × Nameable y.0
unfolding place written_place give
place_is t y e =
    step_then letter t _ e λ c u p q.
    number_then 1 highest_row u _ q λ n v r lo hi e'.
    let l = letter_is t (c, u) p in
    subst (λ (z : Place × Bytes). (t ≡ written_place (some z.0) ++ z.1) × Nameable z.0) (some_inj e')
    (l.0 ∙ ap (λ (v : Bytes). (96 + c) ∷ v) r, record { letters = (l.1, l.2); rows = (lo, hi) })

-- a set-up line
side_is : (t : Bytes) (y : Side × Bytes) → side t ≡ some y → t ≡ written_side y.0 ++ y.1
unfolding side written_side give
side_is t y e =
    or_then (word "own" >> give own) (word "opp" >> give opp) t e
    (λ d. word_then "own" t _ d λ u p q. p ∙ ap (λ (z : Side × Bytes). written_side z.0 ++ z.1) (some_inj q))
    (λ a. word_then "opp" t _ a λ u p q. p ∙ ap (λ (z : Side × Bytes). written_side z.0 ++ z.1) (some_inj q))

pub set_up_is : (t : Bytes) (y : SetUpLine × Bytes) → set_up_line t ≡ some y
    → (t ≡ written_set_up y.0.side (some y.0.place) ++ y.1) × Nameable y.0.place
unfolding set_up_line written_set_up tab line_feed printed a_line tabbed give
set_up_is t y e =
    step_then side t _ e λ o u₁ p₁ e₁.
    byte_then 9 u₁ _ e₁ λ u₂ p₂ e₂.
    step_then place u₂ _ e₂ λ p u₃ p₃ e₃.
    byte_then 10 u₃ _ e₃ λ u₄ p₄ e₄.
    let (named, nameable) = place_is u₂ (p, u₃) p₃ in
    subst (λ (z : SetUpLine × Bytes). (t ≡ written_set_up z.0.side (some z.0.place) ++ z.1) × Nameable z.0.place) (some_inj e₄)
    (rw (side_is t (o, u₁) p₁, p₂, named, p₄) (simp append_assoc), nameable)

-- what the reader of a kind of line read is such a line, before what is left
pub record LineRead (k : LineKind) (t : Bytes) (y : Line × Bytes) : Type 0 where
  pub line : Bytes
  pub is_line : IsLine k line y.0
  pub before : t ≡ line ++ y.1

abbrev cell_line_lem : Place → ℕ → Line
cell_line_lem p n = record { place = some p; under = n }

-- a move's line with a cell, of either kind
move_line_is : (k : LineKind) → ((p : Place) (n : ℕ) → Nameable p → n ≤ most_under → IsLine k (written_move (some p) n) (cell_line_lem p n)) → (t : Bytes) (y : Line × Bytes)
    → move_line t ≡ some y → LineRead k t y
unfolding move_line written_move tab line_feed printed a_line tabbed give
move_line_is k of t y e =
    word_then "m" t _ e λ u₁ p₁ e₁.
    byte_then 9 u₁ _ e₁ λ u₂ p₂ e₂.
    step_then place u₂ _ e₂ λ p u₃ p₃ e₃.
    byte_then 9 u₃ _ e₃ λ u₄ p₄ e₄.
    number_then 0 most_under u₄ _ e₄ λ n u₅ p₅ _ high e₅.
    byte_then 10 u₅ _ e₅ λ u₆ p₆ e₆.
    let (named, nameable) = place_is u₂ (p, u₃) p₃ in
    subst (LineRead k t) (some_inj e₆)
    (record { line = written_move (some p) n; is_line = of p n nameable high; before = rw (p₁, p₂, named, p₄, p₅, p₆) (simp append_assoc) })

pub line_is : (k : LineKind) (t : Bytes) (y : Line × Bytes) → reader_of k t ≡ some y → LineRead k t y
unfolding dash_line wait_line written_move written_wait written_place tab line_feed printed a_line tabbed give
line_is K.Move t y e = move_line_is K.Move of_move t y e
line_is K.First t y e =
    or_then move_line dash_line t e (λ m. move_line_is K.First of_first t y m) λ d.
    word_then "m" t _ d λ u₁ p₁ e₁.
    byte_then 9 u₁ _ e₁ λ u₂ p₂ e₂.
    word_then "-" u₂ _ e₂ λ u₃ p₃ e₃.
    byte_then 9 u₃ _ e₃ λ u₄ p₄ e₄.
    number_then 0 most_under u₄ _ e₄ λ n u₅ p₅ _ high e₅.
    byte_then 10 u₅ _ e₅ λ u₆ p₆ e₆.
    subst (LineRead K.First t) (some_inj e₆)
    (record { line = written_move none n; is_line = of_dash n high; before = rw (p₁, p₂, p₃, p₄, p₅, p₆) (simp append_assoc) })
line_is K.Wait t y e =
    word_then "w" t _ e λ u₁ p₁ e₁.
    byte_then 9 u₁ _ e₁ λ u₂ p₂ e₂.
    number_then 1 most_under u₂ _ e₂ λ n u₃ p₃ low high e₃.
    byte_then 10 u₃ _ e₃ λ u₄ p₄ e₄.
    subst (LineRead K.Wait t) (some_inj e₄)
    (record { line = written_wait n; is_line = of_wait n low high; before = rw (p₁, p₂, p₃, p₄) (simp append_assoc) })

-- what a line of each kind says
move_says : {line : Bytes} {l : Line} → IsLine K.Move line l → (line ≡ written_move l.place l.under) × IsSome l.place
move_says (of_move p n h f) = (refl, tt)

root_says : {line : Bytes} {l : Line} → IsLine K.First line l → line ≡ written_move l.place l.under
root_says (of_first p n h f) = refl
root_says (of_dash n f) = refl

of_wait_says : {line : Bytes} {l : Line} → IsLine K.Wait line l → (l.place ≡ none) × (1 ≤ l.under) × (line ≡ written_wait l.under)
of_wait_says (of_wait n h f) = (refl, h, refl)

-- a move's line, and a wait's
pub move_is : (t : Bytes) (y : Line × Bytes) → move_line t ≡ some y → (t ≡ written_move y.0.place y.0.under ++ y.1) × IsSome y.0.place
unfolding reader_of
move_is t y e =
    let r = line_is K.Move t y e in
    let says = move_says r.is_line in
    (r.before ∙ ap (λ (v : Bytes). v ++ y.1) says.0, says.1)

pub root_is : (t : Bytes) (y : Line × Bytes) → (move_line or_else dash_line) t ≡ some y → t ≡ written_move y.0.place y.0.under ++ y.1
unfolding reader_of
root_is t y e = let r = line_is K.First t y e in r.before ∙ ap (λ (v : Bytes). v ++ y.1) (root_says r.is_line)

pub wait_says : (t : Bytes) (y : Line × Bytes) → wait_line t ≡ some y → (y.0.place ≡ none) × (1 ≤ y.0.under) × (t ≡ written_wait y.0.under ++ y.1)
unfolding reader_of
wait_says t y e =
    let r = line_is K.Wait t y e in
    let says = of_wait_says r.is_line in
    (says.0, says.1, r.before ∙ ap (λ (v : Bytes). v ++ y.1) says.2)

-- What is written is read
number_back : (lo hi n : ℕ) (u : Bytes) → lo ≤ n → n ≤ hi → digits u ≡ [] → number_in lo hi (decimal n ++ u) ≡ some (n, u)
unfolding number_in bind guard give
number_back lo hi n u l h e = rw (read_back n u e, le-leb lo n l, le-leb n hi h)

step_back : {A B : Type 0} {o : Option (A × Bytes)} {a : A} {u : Bytes} {z : Option (B × Bytes)} → o ≡ some (a, u) → (f : A → Reader B) → f a u ≡ z → bind o f ≡ z
unfolding bind
step_back e f q = rw e q

-- a line and what follows it, field by field
tabbed_on : List Bytes → Bytes → Bytes
tabbed_on [] u = 10 ∷ u
tabbed_on (f ∷ fs) u = 9 ∷ f ++ tabbed_on fs u

line_on : (f : Bytes) (fs : List Bytes) (u : Bytes) → a_line f fs ++ u ≡ f ++ tabbed_on fs u
unfolding a_line tabbed tabbed_on
line_on f [] u = append_assoc f (10 ∷ []) u
line_on f (g ∷ gs) u = append_assoc f (9 ∷ g ++ tabbed gs) u ∙ ap (λ (v : Bytes). f ++ 9 ∷ v) (line_on g gs u)

player_back : (p : Player) (u : Bytes) → player (written_player p ++ u) ≡ some (p, u)
unfolding player written_player printed word byte any_byte guard bind give ◌or_else◌
player_back D u = refl
player_back A u = refl

pub header_back : {most : ℕ} (b : Board) (p : Player) (u : Bytes) → BoardUpTo most b → header_up_to most (written_header b p ++ u) ≡ some (record { board = b; player = p }, u)
unfolding header_up_to written_header tabbed_on tab line_feed byte word any_byte guard bind printed give digits is_digit
header_back {most} b p u z =
    ap (header_up_to most) (line_on (printed "hex") (decimal b.columns ∷ decimal b.rows ∷ written_player p ∷ []) u)
    ∙ step_back (number_back 1 most b.columns _ z.columns.0 z.columns.1 refl) _
    (step_back (number_back 1 most b.rows _ z.rows.0 z.rows.1 refl) _ (step_back (player_back p _) _ refl))

place_back : (p : Place) (u : Bytes) → Nameable p → digits u ≡ [] → place (written_place (some p) ++ u) ≡ some (p, u)
unfolding place letter written_place any_byte guard bind give
place_back p u n e =
    let back : 96 + p.column - 96 ≡ p.column = omega arith in
    rw (le-leb 97 (96 + p.column) (omega arith), le-leb (96 + p.column) 122 (omega arith), back)
    (step_back (number_back 1 highest_row p.row u n.rows.0 n.rows.1 e) _ refl)

side_back : (o : Side) (u : Bytes) → side (written_side o ++ u) ≡ some (o, u)
unfolding side written_side printed word byte any_byte guard bind give ◌or_else◌
side_back own u = refl
side_back opp u = refl

pub set_up_back : (o : Side) (p : Place) (u : Bytes) → Nameable p → set_up_line (written_set_up o (some p) ++ u) ≡ some (record { side = o; place = p }, u)
unfolding set_up_line written_set_up tabbed_on tab line_feed byte any_byte guard bind give digits is_digit
set_up_back o p u h =
    ap set_up_line (line_on (written_side o) (written_place (some p) ∷ []) u)
    ∙ step_back (side_back o _) _ (step_back (place_back p _ h refl) _ refl)

-- every set-up line begins with `o`
pub set_up_starts : (o : Side) (p : Option Place) (u : Bytes) → (rest : Bytes) × (written_set_up o p ++ u ≡ 111 ∷ rest)
unfolding written_set_up a_line written_side printed
set_up_starts own p u = (_, refl)
set_up_starts opp p u = (_, refl)

-- so a text that begins with another byte has none
pub no_set_up_line : (c : ℕ) (t : Bytes) → c ≢ 111 → set_up_line (c ∷ t) ≡ none
no_set_up_line c t h = go (set_up_line (c ∷ t)) refl
  where
    go : (o : Option (SetUpLine × Bytes)) → set_up_line (c ∷ t) ≡ o → o ≡ none
    go none e = refl
    go (some y) e =
        let starts = set_up_starts y.0.side (some y.0.place) y.1 in
        let same : c ∷ t ≡ 111 ∷ starts.0 = (set_up_is (c ∷ t) y e).0 ∙ starts.1 in
        absurd (h (cc same))

module _ (n : ℕ) (u : Bytes) (few : n ≤ most_under) where
  pub move_back : (p : Place) → Nameable p → move_line (written_move (some p) n ++ u) ≡ some (record { place = some p; under = n }, u)
  unfolding move_line written_move tabbed_on tab line_feed byte word any_byte guard bind printed give digits is_digit
  move_back p h =
      ap move_line (line_on (printed "m") (written_place (some p) ∷ decimal n ∷ []) u)
      ∙ step_back (place_back p _ h refl) _ (step_back (number_back 0 most_under n _ (omega arith) few refl) _ refl)

  pub dash_back : (move_line or_else dash_line) (written_move none n ++ u) ≡ some (record { place = none; under = n }, u)
  unfolding move_line dash_line written_move written_place tabbed_on tab line_feed byte word any_byte guard bind printed give digits is_digit ◌or_else◌ place letter
  dash_back =
      ap (move_line or_else dash_line) (line_on (printed "m") (printed "-" ∷ decimal n ∷ []) u)
      ∙ step_back (number_back 0 most_under n _ (omega arith) few refl) _ refl

  pub wait_back : 1 ≤ n → wait_line (written_wait n ++ u) ≡ some (record { place = none; under = n }, u)
  unfolding wait_line written_wait tabbed_on tab line_feed byte word any_byte guard bind printed give digits is_digit
  wait_back h =
      ap wait_line (line_on (printed "w") (decimal n ∷ []) u) ∙ step_back (number_back 1 most_under n _ h few refl) _ refl

-- a line of a kind, before any text, is read as what it says
pub line_back : (k : LineKind) (line : Bytes) (l : Line) (u : Bytes) → IsLine k line l → reader_of k (line ++ u) ≡ some (l, u)
unfolding ◌or_else◌
line_back _ _ _ u (of_move p n h f) = move_back n u f p h
line_back _ _ _ u (of_first p n h f) = rw (move_back n u f p h, ◌or_else◌)
line_back _ _ _ u (of_dash n f) = dash_back n u f
line_back _ _ _ u (of_wait n low f) = wait_back n u f low

-- A cell and its place: what a line names is the place of its cell, and a cell's place can be written
some_place : (b : Board) (x : ℕ) → 1 ≤ x → place_of b x ≡ some (record { column = column_of b x; row = row_of b x })
unfolding place_of
some_place b zero h = absurd (omega arith)
some_place b (suc x) h = refl

pub place_again : (b : Board) (o : Option Place) → T (within b o) → place_of b (cell_of b o) ≡ o
unfolding within cell_of place_of
place_again b none h = refl
place_again b (some p) h =
    let o = test_on b p.column p.row h in
    some_place b (cell_at b p.column p.row) (cell_range b _ (cell_at_lem b p.column p.row o)).0
    ∙ rw (column_at b p.column p.row o, row_at b p.column p.row o)

-- a cell's place
pub record Named (b : Board) (x : ℕ) : Type 0 where
  pub place : Place
  pub its_place : place_of b x ≡ some place
  pub nameable : Nameable place
  pub inside : T (on_board b place.column place.row)
  pub its_cell : cell_at b place.column place.row ≡ x

pub place_names : (b : Board) (x : ℕ) → BoardSize b → T (is_cell b x) → Named b x
place_names b x z h =
    let o = cell_place b x z.columns.0 h in
    record {
      place = record { column = column_of b x; row = row_of b x };
      its_place = some_place b x (cell_range b x h).0;
      nameable = record { letters = (o.left, omega (arith, z.columns.1)); rows = (o.top, omega (arith, z.rows.1)) };
      inside = on_test b (column_of b x) (row_of b x) o;
      its_cell = at_place b x h;
    }

-- the cell's place is on the board, is that cell's, and is read where it is written
pub record Names (r : Reader Line) (b : Board) (x : ℕ) : Type 0 where
  pub inside : T (within b (place_of b x))
  pub its_cell : cell_of b (place_of b x) ≡ x
  pub read : (n : ℕ) (u : Bytes) → n ≤ most_under → r (written_move (place_of b x) n ++ u) ≡ some (record { place = place_of b x; under = n }, u)

module _ (b : Board) (x : ℕ) (z : BoardSize b) where
  pub cell_names : T (is_cell b x) → Names move_line b x
  unfolding within cell_of
  cell_names h =
      let p = place_names b x z h in
      record {
        inside = rw p.its_place p.inside;
        its_cell = rw p.its_place p.its_cell;
        read = λ n u l. rw p.its_place (move_back n u l p.place p.nameable);
      }

  pub root_names : (x ≡ 0) ⊎ T (is_cell b x) → Names (move_line or_else dash_line) b x
  unfolding ◌or_else◌ within cell_of place_of
  root_names (inl e) = rw e (record { inside = tt; its_cell = refl; read = dash_back })
  root_names (inr h) =
      let m = cell_names h in
      record { inside = m.inside; its_cell = m.its_cell; read = λ n u l. rw (m.read n u l, ◌or_else◌) }
