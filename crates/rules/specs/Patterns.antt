-- C-14 "Patterns by name": the first reading of the typed text in line order, with 4, 21, 22, 23 at the typed line; the expanded text,
-- each use replaced by its lines; and the reading of a typed text.
use Rattle.std.specs.Prelude.{ℕ, zero, suc, ◌+◌, ◌-◌, Bool, true, false, not, List, [], ◌∷◌, ◌++◌, map, eqb, ltb, length, get_or, take, drop, replicate}
use Rattle.std.proofs.Math.Option.{Option, none, some}
use Rattle.rules.specs.Sizes.{largest, most_bytes}
use Rattle.rules.specs.Words.{any, same, first_that}
use Rattle.rules.specs.Text.{Bytes, Reader}
use Rattle.rules.specs.Lines.{Place, header_up_to, SetUpLine, set_up_line, kind_under}
use Rattle.rules.specs.Tree.{Sheet}
use Rattle.rules.specs.Written.{written_header, written_set_up, written_move, written_wait}
use Rattle.rules.specs.Typed.{lines_in, is_pat_or_use, Cell, named, unnamed, parameter, Typed, move, wait, use_of, typed_line, first_typed, Pat, pat_typed}
use Rattle.rules.specs.Reading.{Result, refused, got, read_sheet_up_to}
use Rattle.rules.specs.Checks.{◌>>=◌, refuse_if}
use Rattle.rules.specs.declared.LineKind.{LineKind}
use Rattle.rules.specs.declared.LineKind.TheVariants as K
use Rattle.rules.specs.declared.Verdict.TheVariants.{LongText, BadHeader, BadLine, UnknownName, WrongCells, NameTwice}

-- A pattern: its name, how many parameters it has, and what its lines say
pub record Pattern : Type 0 where
  pub name : Bytes
  pub parameters : ℕ
  pub lines : List Typed

-- the pattern of a name, among those defined so far, the latest first
unfoldable pub find : (name : Bytes) → List Pattern → Option Pattern
find n ps = first_that (λ (p : Pattern). same n p.name) ps

-- 21, a name not defined earlier; 22, wrong number of cells
unfoldable pub right_cells : (line cells : ℕ) → Option Pattern → Result (Unit {0})
right_cells l k none = refused (UnknownName l)
right_cells l k (some p) = refuse_if (not (eqb k p.parameters)) (WrongCells l)

unfoldable pub right_use : List Pattern → (line : ℕ) → Typed → Result (Unit {0})
right_use ps l (move c n) = got tt
right_use ps l (wait n) = got tt
right_use ps l (use_of n cs) = right_cells l (length cs) (find n ps)

-- 4, a line malformed in itself or out of order, where r reads the lines that may stand there; then 21, 22
unfoldable pub read_line : List Pattern → Reader Typed → (line : ℕ) → Bytes → Result Typed
read_line ps r l t = elim (r t) [
  | none ↦ refused (BadLine l)
  | some x ↦ do
    _ ← right_use ps l x.0
    got x.0
]

-- line by line, the first of them has the number l
unfoldable pub read_lines : List Pattern → Reader Typed → (line : ℕ) → List Bytes → Result (List Typed)
read_lines ps r l [] = got []
read_lines ps r l (t ∷ ts) = do
  x ← read_line ps r l t
  xs ← read_lines ps r (l + 1) ts
  got (x ∷ xs)

-- the kind of node that a line stands for, and how many are right under it: a `use` counts as one wait
unfoldable pub kind_of : Typed → LineKind
kind_of (move c n) = K.Move
kind_of (wait n) = K.Wait
kind_of (use_of n cs) = K.Wait

unfoldable pub under_of : Typed → ℕ
under_of (move c n) = n
under_of (wait n) = n
under_of (use_of n cs) = 0

unfoldable pub is_kind : LineKind → LineKind → Bool
is_kind K.First K.First = true
is_kind K.First K.Move = false
is_kind K.First K.Wait = false
is_kind K.Move K.First = false
is_kind K.Move K.Move = true
is_kind K.Move K.Wait = false
is_kind K.Wait K.First = false
is_kind K.Wait K.Move = false
is_kind K.Wait K.Wait = true

-- The lines are just the nodes that are due, the next one first: each line takes its node away, and those right under it come next
unfoldable pub just_these : (due : List LineKind) → List Typed → Bool
just_these [] [] = true
just_these [] (x ∷ xs) = false
just_these (k ∷ ks) [] = false
just_these (k ∷ ks) (x ∷ xs) = elim (is_kind k (kind_of x)) [ true ↦ just_these (replicate (under_of x) (kind_under k) ++ ks) xs | false ↦ false ]

unfoldable pub is_one_wait : List Typed → Bool
is_one_wait xs = just_these (K.Wait ∷ []) xs

-- what the lines say, where each is well formed
unfoldable pub said : Reader Typed → List Bytes → Option (List Typed)
said r [] = some []
said r (t ∷ ts) = elim (r t) [
  | none ↦ none
  | some x ↦ elim (said r ts) [ none ↦ none | some xs ↦ some (x.0 ∷ xs) ]
]

-- each line being well formed, not exactly one wait
unfoldable pub not_one_wait : Option (List Typed) → Bool
not_one_wait none = false
not_one_wait (some xs) = not (is_one_wait xs)

-- A `pat` line, and the lines after it. At the `pat` line: 4, a body cut short, or not exactly one wait; 23, a name defined twice.
-- Then at the body's lines 4, 21, 22: a pattern may use only earlier ones
unfoldable pub read_pattern : List Pattern → (line : ℕ) → Pat → List Bytes → Result Pattern
read_pattern ps l p ts = do
  _ ← refuse_if (ltb (length ts) p.lines) (BadLine l)
  _ ← refuse_if (not_one_wait (said (typed_line p.parameters) (take p.lines ts))) (BadLine l)
  _ ← refuse_if (any (λ (q : Pattern). same p.name q.name) ps) (NameTwice l)
  xs ← read_lines ps (typed_line p.parameters) (l + 1) (take p.lines ts)
  got (record { name = p.name; parameters = p.parameters; lines = xs })

-- What the first reading gives: the set-up lines, the patterns, the latest first, and the lines of the tree
pub record Source : Type 0 where
  pub set_up : List SetUpLine
  pub patterns : List Pattern
  pub tree : List Typed

-- Set-up lines come first, then patterns, then the tree. The tree: only its first line may have `-`
unfoldable pub source_tree : List Pattern → (line : ℕ) → List Bytes → Result Source
source_tree ps l [] = got (record { set_up = []; patterns = ps; tree = [] })
source_tree ps l (t ∷ ts) = do
  x ← read_line ps first_typed l t
  xs ← read_lines ps (typed_line 0) (l + 1) ts
  got (record { set_up = []; patterns = ps; tree = x ∷ xs })

-- the patterns; from the first line on that begins none, the tree. (So many lines at the front are a body, read with its `pat` line.)
unfoldable pub source_patterns : List Pattern → (line body : ℕ) → List Bytes → Result Source
source_patterns ps l body [] = source_tree ps l []
source_patterns ps l (suc body) (t ∷ ts) = source_patterns ps (l + 1) body ts
source_patterns ps l zero (t ∷ ts) = elim (pat_typed t) [
  | none ↦ source_tree ps l (t ∷ ts)
  | some x ↦ do
    p ← read_pattern ps l x.0 ts
    source_patterns (p ∷ ps) (l + 1) x.0.lines ts
]

-- the set-up lines; from the first line on that is none, the patterns
unfoldable pub source : (line : ℕ) → List Bytes → Result Source
source l [] = source_patterns [] l 0 []
source l (t ∷ ts) = elim (set_up_line t) [
  | none ↦ source_patterns [] l 0 (t ∷ ts)
  | some x ↦ do
    s ← source (l + 1) ts
    got (record { set_up = x.0 ∷ s.set_up; patterns = s.patterns; tree = s.tree })
]

-- the lines after the header; the first of them is line 2
unfoldable pub first_reading : List Bytes → Result Source
first_reading ts = source 2 ts

-- The expanded text. The cell that is meant, where `$1`, `$2` and so on stand for these cells
unfoldable pub meant : (cells : List (Option Place)) → Cell → Option Place
meant cs (named p) = some p
meant cs unnamed = none
meant cs (parameter k) = get_or cs (k - 1) none

-- the text of lines, where a use is replaced by what `uses` has for its name and cells
unfoldable pub line_text : (uses : Bytes → List (Option Place) → Bytes) → (cells : List (Option Place)) → Typed → Bytes
line_text uses cs (move c n) = written_move (meant cs c) n
line_text uses cs (wait n) = written_wait n
line_text uses cs (use_of n bs) = uses n (map (meant cs) bs)

unfoldable pub lines_text : (uses : Bytes → List (Option Place) → Bytes) → (cells : List (Option Place)) → List Typed → Bytes
lines_text uses cs [] = []
lines_text uses cs (x ∷ xs) = line_text uses cs x ++ lines_text uses cs xs

-- each use replaced by its lines: those of the pattern of that name, which uses only earlier ones
unfoldable pub use_text : List Pattern → (name : Bytes) → (cells : List (Option Place)) → Bytes
use_text [] n cs = []
use_text (p ∷ earlier) n cs = elim (same n p.name) [ true ↦ lines_text (use_text earlier) cs p.lines | false ↦ use_text earlier n cs ]

-- the set-up lines
unfoldable pub set_up_text : List SetUpLine → Bytes
set_up_text [] = []
set_up_text (l ∷ ls) = written_set_up l.side (some l.place) ++ set_up_text ls

-- and the lines of the tree, in which no parameter stands
unfoldable pub source_text : Source → Bytes
source_text s = set_up_text s.set_up ++ lines_text (use_text s.patterns) [] s.tree

-- A typed text. Some line after the first is a `pat` or a `use` line
unfoldable pub has_patterns : Bytes → Bool
has_patterns t = any is_pat_or_use (drop 1 (lines_in t))

-- 3; then the first reading; the header, and what the lines after it stand for
unfoldable pub expanded_up_to : (most : ℕ) → Bytes → Result Bytes
expanded_up_to most t = elim (header_up_to most t) [
  | none ↦ refused BadHeader
  | some x ↦ do
    s ← first_reading (lines_in x.1)
    got (written_header x.0.board x.0.player ++ source_text s)
]

abbrev pub expanded : Bytes → Result Bytes
expanded t = expanded_up_to largest t

-- size 2 holds for the expanded text, and replies are those of the expanded sheet. With no `pat` and no `use` line all stays as before
unfoldable pub read_typed_up_to : (most : ℕ) → Bytes → Result Sheet
read_typed_up_to most t = elim (has_patterns t) [
  | true ↦ do
    e ← expanded_up_to most t
    _ ← refuse_if (ltb most_bytes (length e)) LongText
    read_sheet_up_to most e
  | false ↦ read_sheet_up_to most t
]

abbrev pub read_typed : Bytes → Result Sheet
read_typed t = read_typed_up_to largest t
