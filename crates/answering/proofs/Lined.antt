-- The lines of a sheet that reads: that of each node is so much past its number as that of the first node.
use mathlib.Core.Path.{◌≡◌, sym, ap, ◌∙◌}
use Prim.Native.Nat.{ℕ, zero, suc, ◌+◌}
use native.Mathlib.Omega.{arith}
use mathlib.Core.List.{List, [], ◌∷◌, ◌++◌, append_assoc, append-nil}
use Rattle.rules.specs.Tree.{Waits, no_waits, wait, Moves, no_moves, move, Sheet, move_count, wait_count}
use Rattle.rules.specs.Plain.{lines_of_waits, lines_of_moves, lines_of, up_from, WellRead}
use Rattle.nodes.specs.Nodes.{size, nodes_of_waits, nodes_of_moves}
use Rattle.answering.specs.Rows.{LinedWaits, LinedMoves}

-- lines one after another, the first is two past i: the first of them, and the others
record Next (f i line : ℕ) (rest : List ℕ) : Type 0 where
  many : ℕ
  line_is : line ≡ i + f
  others : rest ≡ up_from (i + 1 + f) many

next_line_lem : (f i line n : ℕ) (rest : List ℕ) → (line ∷ rest) ≡ up_from (i + f) n → Next f i line rest
unfolding up_from
next_line_lem f i line zero rest e = let z : ◌≡◌ {A = ℕ} 0 1 = cc in absurd (omega arith)
next_line_lem f i line (suc n) rest e =
    let q : suc (i + f) ≡ i + 1 + f = omega arith in
    let g : rest ≡ up_from (suc (i + f)) n = cc in
    record { many = n; line_is = cc; others = g ∙ ap (λ (k : ℕ). up_from k n) q }

mutual
  unfolding lines_of_waits nodes_of_waits size LinedWaits

  lined_waits : (f : ℕ) (ws : Waits) (i n : ℕ) (rest : List ℕ) → lines_of_waits ws ++ rest ≡ up_from (i + f) n
      → LinedWaits f i ws × (m : ℕ) × (rest ≡ up_from (i + size (nodes_of_waits ws) + f) m)
  lined_waits f no_waits i n rest e =
      let q : i ≡ i + 0 = omega arith in
      (tt, n, e ∙ ap (λ (k : ℕ). up_from (k + f) n) q)
  lined_waits f (wait line ms ws) i n rest e =
      let h = next_line_lem f i line n ((lines_of_moves ms ++ lines_of_waits ws) ++ rest) e in
      let u = lined_moves f ms (i + 1) h.many (lines_of_waits ws ++ rest) (sym (append_assoc (lines_of_moves ms) (lines_of_waits ws) rest) ∙ h.others) in
      let a = lined_waits f ws (i + 1 + size (nodes_of_moves ms)) u.1 rest u.2 in
      let q : i + 1 + size (nodes_of_moves ms) + size (nodes_of_waits ws) + f ≡ i + suc (size (nodes_of_moves ms) + size (nodes_of_waits ws)) + f = omega arith in
      ((h.line_is, u.0, a.0), a.1, a.2 ∙ ap (λ (k : ℕ). up_from k a.1) q)

  lined_moves : (f : ℕ) (ms : Moves) (i n : ℕ) (rest : List ℕ) → lines_of_moves ms ++ rest ≡ up_from (i + f) n
      → LinedMoves f i ms × (m : ℕ) × (rest ≡ up_from (i + size (nodes_of_moves ms) + f) m)
  lined_moves f no_moves i n rest e =
      let q : i ≡ i + 0 = omega arith in
      (tt, n, e ∙ ap (λ (k : ℕ). up_from (k + f) n) q)
  lined_moves f (move line c ws ms) i n rest e =
      let h = next_line_lem f i line n ((lines_of_waits ws ++ lines_of_moves ms) ++ rest) e in
      let u = lined_waits f ws (i + 1) h.many (lines_of_moves ms ++ rest) (sym (append_assoc (lines_of_waits ws) (lines_of_moves ms) rest) ∙ h.others) in
      let a = lined_moves f ms (i + 1 + size (nodes_of_waits ws)) u.1 rest u.2 in
      let q : i + 1 + size (nodes_of_waits ws) + size (nodes_of_moves ms) + f ≡ i + suc (size (nodes_of_waits ws) + size (nodes_of_moves ms)) + f = omega arith in
      ((h.line_is, u.0, a.0), a.1, a.2 ∙ ap (λ (k : ℕ). up_from k a.1) q)

pub lined_root : (s : Sheet) → WellRead s → LinedWaits s.root.line 1 s.root.waits
unfolding lines_of
lined_root s r =
    let first = s.root.line in
    let from : first ≡ 0 + first = omega arith in
    let h = next_line_lem first 0 first (move_count s + wait_count s) (lines_of_waits s.root.waits) (r.in_order ∙ ap (λ (k : ℕ). up_from k (move_count s + wait_count s)) from) in
    (lined_waits first s.root.waits 1 h.many [] (append-nil (lines_of_waits s.root.waits) ∙ h.others)).0
