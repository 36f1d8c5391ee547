-- The rows of a branch in the table are its lines; and rows compared one by one.
use mathlib.Core.Path.{◌≡◌, refl, sym, ap, ap₂, ◌∙◌}
use mathlib.Core.Bool.{Bool, true, false, ◌&&◌}
use mathlib.Core.List.{List, ◌∷◌, ◌++◌}
use Prim.Native.Nat.{ℕ, zero, suc, ◌+◌, ◌-◌, ◌*◌, ◌≤◌, ◌<◌}
use native.Mathlib.Omega.{arith}
use lib.Dec.{eqb}
use lib.ListN.{length}
use Rattle.rules.specs.Words.{same}
use Rattle.rules.specs.Tree.{Waits, no_waits, wait, Moves, no_moves, move}
use Rattle.rules.specs.Written.{how_many_waits, how_many_moves}
use Rattle.rules.specs.Fair.{lines_under_move, lines_under_wait, branch}
use Rattle.rules.proofs.Twice.{same_long}
use Rattle.nodes.specs.Nodes.{a_wait, a_move, nodes_of_waits, nodes_of_moves, many, size}
use Rattle.nodes.specs.Table.{cell_in, under_in, end_in, WeighedRow, Each, first, At}
use Rattle.nodes.proofs.Table.{at_map, node_end}
use Rattle.fair.specs.Twice.{same_row, rows_in, branch_in, Spans}

-- rows, and rows after them
rows_then : (t : List ℕ) (i n a b : ℕ) → n ≡ a + b → rows_in t i n ≡ rows_in t i a ++ rows_in t (i + a) b
unfolding rows_in
rows_then t i n zero b e =
    let here : i ≡ i + 0 = omega arith in
    let all : n ≡ b = omega arith in
    ap₂ (rows_in t) here all
rows_then t i zero (suc a) b e = absurd (omega arith)
rows_then t i (suc n) (suc a) b e =
    let here : i + 1 + a ≡ i + suc a = omega arith in
    ap (λ (l : List ℕ). cell_in t i ∷ under_in t i ∷ l) (rows_then t (i + 1) n a b (omega arith) ∙ ap (λ (k : ℕ). rows_in t (i + 1) a ++ rows_in t k b) here)

rows_long : (t : List ℕ) (i n : ℕ) → length (rows_in t i n) ≡ n + n
unfolding rows_in
rows_long t i zero = omega arith
rows_long t i (suc n) = omega (arith, rows_long t (i + 1) n)

-- as many nodes stand right under a node as its line tells
many_waits : (ws : Waits) → many (nodes_of_waits ws) ≡ how_many_waits ws
unfolding many nodes_of_waits how_many_waits
many_waits no_waits = refl
many_waits (wait line ms ws) = ap suc (many_waits ws)

many_moves : (ms : Moves) → many (nodes_of_moves ms) ≡ how_many_moves ms
unfolding many nodes_of_waits how_many_moves
many_moves no_moves = refl
many_moves (move line c ws ms) = ap suc (many_moves ms)

-- nodes that stand in the table have the lines of their tree as rows
mutual
  unfolding lines_under_move rows_in nodes_of_waits size

  waits_rows : {t : List ℕ} {i : ℕ} (ws : Waits) → Each (WeighedRow t) a_wait i (nodes_of_waits ws) → rows_in t i (size (nodes_of_waits ws)) ≡ lines_under_move ws
  waits_rows no_waits e = refl
  waits_rows {t} {i} (wait line ms ws) (first p below rest) =
      ap₂ (λ (x : ℕ) (l : List ℕ). x ∷ l) p.row.cell
      (ap₂ (λ (x : ℕ) (l : List ℕ). x ∷ l) (p.row.under ∙ many_moves ms)
      (rows_then t (i + 1) _ (size (nodes_of_moves ms)) (size (nodes_of_waits ws)) refl ∙ ap₂ ◌++◌ (moves_rows ms below) (waits_rows ws rest)))

  moves_rows : {t : List ℕ} {i : ℕ} (ms : Moves) → Each (WeighedRow t) a_move i (nodes_of_moves ms) → rows_in t i (size (nodes_of_moves ms)) ≡ lines_under_wait ms
  moves_rows no_moves e = refl
  moves_rows {t} {i} (move line c ws ms) (first p below rest) =
      ap₂ (λ (x : ℕ) (l : List ℕ). x ∷ l) p.row.cell
      (ap₂ (λ (x : ℕ) (l : List ℕ). x ∷ l) (p.row.under ∙ many_waits ws)
      (rows_then t (i + 1) _ (size (nodes_of_waits ws)) (size (nodes_of_moves ms)) refl ∙ ap₂ ◌++◌ (waits_rows ws below) (moves_rows ms rest)))

-- a move that stands weighed at node i
module _ {t : List ℕ} {i c : ℕ} (ws : Waits) (a : At (WeighedRow t) a_move i c (nodes_of_waits ws)) where
  pub branch_rows : branch_in t i ≡ branch c ws
  unfolding branch rows_in
  branch_rows =
      let rows : end_in t i - i ≡ suc (size (nodes_of_waits ws)) = omega (arith, a.here.end) in
      ap (rows_in t i) rows
      ∙ ap₂ (λ (x : ℕ) (l : List ℕ). x ∷ l) a.here.row.cell
      (ap₂ (λ (x : ℕ) (l : List ℕ). x ∷ l) (a.here.row.under ∙ many_waits ws) (waits_rows ws a.below))

  pub branch_spans : Spans t i
  branch_spans = record { onward = omega (arith, a.here.end); fits = omega (arith, a.here.end, node_end (at_map (λ k j d u r. r.row) a)) }

-- the row of a node whose branch is in the table
pub span_room : {t : List ℕ} {i : ℕ} → Spans t i → 4 * i + 3 < length t
span_room s = omega (arith, s.onward, s.fits)

-- branches of another number of rows are not the same
pub other_long : (t : List ℕ) (i j n m : ℕ) → (m ≡ n → ⊥) → false ≡ same (rows_in t i n) (rows_in t j m)
other_long t i j n m z = sym (same_long (rows_in t i n) (rows_in t j m) (λ e. z (omega (arith, e, rows_long t i n, rows_long t j m))))

-- ---- the loop that compares n rows: what is left of them decides
pub record Comparing (t : List ℕ) (i j n k : ℕ) : Type 0 where
  pub decides : same (rows_in t i n) (rows_in t j n) ≡ same (rows_in t (i + k) (n - k)) (rows_in t (j + k) (n - k))

pub comparing_starts : (t : List ℕ) (i j n : ℕ) → Comparing t i j n 0
comparing_starts t i j n =
    let here : i ≡ i + 0 = omega arith in
    let there : j ≡ j + 0 = omega arith in
    let all : n ≡ n - 0 = omega arith in
    record { decides = ap₂ same (ap₂ (rows_in t) here all) (ap₂ (rows_in t) there all) }

both_rows : (a b c : Bool) → (a && (b && c)) ≡ ((a && b) && c)
both_rows true b c = refl
both_rows false b c = refl

module _ {t : List ℕ} {i j n k : ℕ} (w : Comparing t i j n k) where
  next_row : k < n → same (rows_in t i n) (rows_in t j n) ≡ (same_row t (i + k) (j + k) && same (rows_in t (i + (k + 1)) (n - (k + 1))) (rows_in t (j + (k + 1)) (n - (k + 1))))
  unfolding same rows_in
  next_row p =
      let more : n - k ≡ suc (n - (k + 1)) = omega arith in
      let here : i + k + 1 ≡ i + (k + 1) = omega arith in
      let there : j + k + 1 ≡ j + (k + 1) = omega arith in
      w.decides
      ∙ ap (λ (m : ℕ). same (rows_in t (i + k) m) (rows_in t (j + k) m)) more
      ∙ both_rows (eqb (cell_in t (i + k)) (cell_in t (j + k))) (eqb (under_in t (i + k)) (under_in t (j + k))) _
      ∙ ap₂ (λ (x y : ℕ). same_row t (i + k) (j + k) && same (rows_in t x (n - (k + 1))) (rows_in t y (n - (k + 1)))) here there

  pub comparing_again : k < n → same_row t (i + k) (j + k) ≡ true → Comparing t i j n (k + 1)
  comparing_again p e = record { decides = next_row p ∙ ap (λ (y : Bool). y && same (rows_in t (i + (k + 1)) (n - (k + 1))) (rows_in t (j + (k + 1)) (n - (k + 1)))) e }

  pub comparing_stops : k < n → same_row t (i + k) (j + k) ≡ false → false ≡ same (rows_in t i n) (rows_in t j n)
  comparing_stops p e = sym (next_row p ∙ ap (λ (y : Bool). y && same (rows_in t (i + (k + 1)) (n - (k + 1))) (rows_in t (j + (k + 1)) (n - (k + 1)))) e)

  pub comparing_ends : n ≤ k → true ≡ same (rows_in t i n) (rows_in t j n)
  unfolding same rows_in
  comparing_ends p =
      let none_left : n - k ≡ 0 = omega arith in
      sym (w.decides ∙ ap (λ (m : ℕ). same (rows_in t (i + k) m) (rows_in t (j + k) m)) none_left)
