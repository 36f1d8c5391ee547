-- The search for the first faulty node: a loop over the node numbers finds the fault that rules finds over the moves, or over the waits.
use mathlib.Core.Path.{◌≡◌, refl, sym, ap, ap₂, fun_ext, subst, subst⁻¹, ◌∙◌}
use mathlib.Core.Logic.{◌≢◌, ⊎_elim}
use mathlib.Core.Bool.{Bool, true, false, true≢false}
use mathlib.Core.Option.{Option, none, some}
use Prim.Native.Nat.{ℕ, zero, suc, ◌+◌, ◌-◌, ◌*◌, ◌<◌, ◌≤◌}
use native.Mathlib.Nat.{eq-zero-or-pos, mul-le-mul}
use native.Mathlib.Omega.{arith}
use mathlib.Core.List.{List, [], ◌∷◌}
use lib.Dec.{leb, leb→le}
use lib.ListN.{length}
use Rattle.rules.specs.Sizes.{most_nodes}
use Rattle.rules.specs.declared.Board.{Board}
use Rattle.rules.specs.Board.{is_cell, cells, smallest}
use Rattle.rules.specs.Words.{among, first_some}
use Rattle.rules.specs.Tree.{Wait, Move, Sheet, set_up_cells, every_move, every_wait}
use Rattle.rules.specs.Fair.{Fault, on_set_up, not_apart, not_elusive, fault_at, first_fault, twice_at, first_on_set_up, first_not_apart, first_twice, first_not_elusive}
use Rattle.rules.proofs.Tests.{snd}
use Rattle.cells.specs.Cells.{Fits}
use Rattle.cells.proofs.Smallest.{smallest_held}
use Rattle.nodes.specs.Table.{end_in}
use Rattle.nodes.specs.Order.{TreeNode, is_move, is_wait, moves_among, waits_among}
use Rattle.nodes.specs.Sheets.{HoldsSheet, SomeSheet}
use Rattle.nodes.proofs.Order.{waits_length, moves_of_waits_lem, waits_of_waits_lem}
use Rattle.nodes.proofs.Table.{node_end}
use Rattle.nodes.proofs.Sheets.{sheet_stands, sheet_end}
use Rattle.fair.specs.Faults.{not_free, first_free, at_moves, at_waits, line_of, NodeAt, SomeTreeNode, FaultAt, FaultFound, bare}
use Rattle.fair.specs.Twice.{twice_by}
use Rattle.fair.specs.declared.Fault as answered
use Rattle.std.specs.Prelude as code
use Rattle.std.specs.Option.{MatchOption}
use Rattle.fair.proofs.FirstTold.{FirstTold}
use Rattle.fair.proofs.WhichKind.{none_smallest}
use Rattle.fair.proofs.Laid.{Laid, laid_end, laid_node, tree_of, sheet_laid}

-- the fault of a node, by its smallest faulty cell; and of a wait that has a branch twice
abbrev pub least_fault : (faulty : TreeNode → ℕ → Bool) → Board → TreeNode → Option Fault
least_fault faulty b n = fault_at (line_of n) (smallest b (faulty n))

abbrev pub twice_fault : Board → TreeNode → Option Fault
twice_fault b (is_move m) = none
twice_fault b (is_wait w) = twice_at w

-- a fault, or else another
abbrev or_else : Option Fault → Option Fault → Option Fault
or_else a b = elim a [ some f ↦ some f | none ↦ b ]

-- the nodes of the other kind are passed over
module _ (at : TreeNode → Option Fault) where
  moves_first : (of : Move → Option Fault) → ((m : Move) → at (is_move m) ≡ of m) → ((w : Wait) → at (is_wait w) ≡ none)
      → (ns : List TreeNode) → first_some at ns ≡ first_some of (moves_among ns)
  unfolding moves_among first_some
  moves_first of here other [] = refl
  moves_first of here other (is_move m ∷ ns) = ap₂ or_else (here m) (moves_first of here other ns)
  moves_first of here other (is_wait w ∷ ns) = ap₂ or_else (other w) (moves_first of here other ns)

  waits_first : (of : Wait → Option Fault) → ((w : Wait) → at (is_wait w) ≡ of w) → ((m : Move) → at (is_move m) ≡ none)
      → (ns : List TreeNode) → first_some at ns ≡ first_some of (waits_among ns)
  unfolding waits_among first_some
  waits_first of here other [] = refl
  waits_first of here other (is_move m ∷ ns) = ap₂ or_else (other m) (waits_first of here other ns)
  waits_first of here other (is_wait w ∷ ns) = ap₂ or_else (here w) (waits_first of here other ns)

-- a node that is not asked has no fault
not_asked : (b : Board) (line : ℕ) → fault_at line (smallest b (λ x. false)) ≡ none
unfolding fault_at
not_asked b line = rw (none_smallest b)

tree_moves : (faulty : Move → ℕ → Bool) (s : Sheet) → first_fault s.board (λ (m : Move). m.line) faulty (every_move s) ≡ first_some (least_fault (at_moves faulty) s.board) (tree_of s)
unfolding every_move moves_among first_fault
tree_moves faulty s =
    ap (λ (l : List Move). first_fault s.board (λ (m : Move). m.line) faulty (s.root ∷ l)) (sym (moves_of_waits_lem s.root.waits))
    ∙ sym (moves_first (least_fault (at_moves faulty) s.board) _ (λ m. refl) (λ w. not_asked s.board w.line) (tree_of s))

tree_waits : (at : TreeNode → Option Fault) (of : Wait → Option Fault) → ((w : Wait) → at (is_wait w) ≡ of w) → ((m : Move) → at (is_move m) ≡ none)
    → (s : Sheet) → first_some of (every_wait s) ≡ first_some at (tree_of s)
unfolding every_wait waits_among
tree_waits at of here other s = ap (first_some of) (sym (waits_of_waits_lem s.root.waits)) ∙ sym (waits_first at of here other (tree_of s))

pub tree_apart : (s : Sheet) → first_not_apart s ≡ first_some (least_fault (at_moves not_apart) s.board) (tree_of s)
unfolding first_not_apart
tree_apart s = tree_moves not_apart s

pub tree_elusive : (s : Sheet) → first_not_elusive s ≡ first_some (least_fault (at_waits not_elusive) s.board) (tree_of s)
unfolding first_not_elusive first_fault
tree_elusive s = tree_waits (least_fault (at_waits not_elusive) s.board) _ (λ w. refl) (λ m. not_asked s.board m.line) s

pub tree_free : (stones : ℕ → Bool) (s : Sheet) → first_free stones s ≡ first_some (least_fault (at_moves (not_free stones)) s.board) (tree_of s)
tree_free stones s = tree_moves (not_free stones) s

pub tree_twice : (s : Sheet) → first_twice s ≡ first_some (twice_fault s.board) (tree_of s)
unfolding first_twice
tree_twice s = tree_waits (twice_fault s.board) twice_at (λ w. refl) (λ m. refl) s

-- a smallest cell is at most the board's last one
pub smallest_low : (b : Board) (set : ℕ → Bool) → Fits b → smallest b set ≤ 361
unfolding is_cell cells
smallest_low b set f =
    ⊎_elim (λ z. omega arith)
    (λ p.
    let i = (smallest_held b set (λ z. omega arith)).0 in
    let most : b.columns * b.rows ≤ 19 * 19 = mul-le-mul {n₂ = 19} {m₂ = 19} f.few_columns f.few_rows in
    omega (arith, leb→le (smallest b set) (b.columns * b.rows) (snd (leb 1 (smallest b set)) (leb (smallest b set) (b.columns * b.rows)) i)))
    (eq-zero-or-pos (smallest b set))

-- the node at i has this fault
record Has (at : Board → TreeNode → Option Fault) (b : Board) (i : ℕ) (n : TreeNode) (f : answered.Fault) : Type 0 where
  here : f.node ≡ i
  fault_is : at b n ≡ some (record { line = line_of n; cell = f.cell })

-- of a held sheet, the nodes from i on are left, and its first fault is theirs
pub record Left (first : Sheet → Option Fault) (at : Board → TreeNode → Option Fault) (b : Board) (t : List ℕ) (i end : ℕ) (s : Sheet) : Type 0 where
  pub rest : List TreeNode
  pub laid : Laid b t s.root.line i rest
  pub to_end : i + length rest ≡ end
  pub same : first s ≡ first_some (at b) rest

-- so it is of whatever sheet is held
abbrev pub Searching : (Sheet → Option Fault) → (Board → TreeNode → Option Fault) → Board → List ℕ → (i end : ℕ) → Type 0
Searching first at b t i end = (s : Sheet) → HoldsSheet t b s → Left first at b t i end s

pub search_starts : (first : Sheet → Option Fault) (at : Board → TreeNode → Option Fault) (b : Board) (t : List ℕ) (end : ℕ) → end ≡ end_in t 0
    → ((s : Sheet) → first s ≡ first_some (at s.board) (tree_of s)) → Searching first at b t 0 end
search_starts first at b t end e tree s h =
    record {
      rest = tree_of s;
      laid = sheet_laid s h;
      to_end = omega (arith, sheet_end h, waits_length s.root.waits);
      same = tree s ∙ ap (λ (z : Board). first_some (at z) (tree_of s)) h.on;
    }

-- while some are left, one is at i, on its line
record Next (first : Sheet → Option Fault) (at : Board → TreeNode → Option Fault) (b : Board) (t : List ℕ) (i end : ℕ) (s : Sheet) : Type 0 where
  node : TreeNode
  stands : NodeAt b t i node
  line_is : line_of node ≡ i + s.root.line
  others : List TreeNode
  laid : Laid b t s.root.line (i + 1) others
  to_end : i + 1 + length others ≡ end
  same : first s ≡ or_else (at b node) (first_some (at b) others)

next_node : {first : Sheet → Option Fault} {at : Board → TreeNode → Option Fault} {b : Board} {t : List ℕ} {i end : ℕ} {s : Sheet} → i < end → Left first at b t i end s → Next first at b t i end s
unfolding first_some
next_node {first} {at} {b} {t} {i} {end} {s} p l = go l.rest l.laid l.to_end l.same
  where
    go : (ns : List TreeNode) → Laid b t s.root.line i ns → i + length ns ≡ end → first s ≡ first_some (at b) ns → Next first at b t i end s
    go [] o e q = absurd (omega arith)
    go (n ∷ ns) (laid_node a k o) e q = record { node = n; stands = a; line_is = k; others = ns; laid = o; to_end = omega arith; same = q }

module _ {first : Sheet → Option Fault} {at : Board → TreeNode → Option Fault} {b : Board} {t : List ℕ} {i end : ℕ} (w : Searching first at b t i end) where
  -- it is not faulty
  pub search_again : i < end → ((n : TreeNode) → NodeAt b t i n → at b n ≡ none) → Searching first at b t (i + 1) end
  search_again p gone s h =
      let n = next_node p (w s h) in
      record {
        rest = n.others;
        laid = n.laid;
        to_end = n.to_end;
        same = n.same ∙ ap (λ (o : Option Fault). or_else o (first_some (at b) n.others)) (gone n.node n.stands);
      }

  -- it is the first that is
  search_found : i < end → (f : answered.Fault) → ((n : TreeNode) → NodeAt b t i n → Has at b i n f)
      → (s : Sheet) → HoldsSheet t b s → i < most_nodes → FaultFound s (first s) (code.Some f)
  search_found p f there s h low =
      let n = next_node p (w s h) in
      let has = there n.node n.stands in
      let line : line_of n.node ≡ f.node + s.root.line = omega (arith, n.line_is, has.here) in
      record {
        seen =
            sym
            (n.same
            ∙ ap (λ (o : Option Fault). or_else o (first_some (at b) n.others)) has.fault_is
            ∙ ap (λ (l : ℕ). some (record { line = l; cell = f.cell })) line);
        low = omega (arith, low, has.here);
      }

  -- none is
  pub search_ends : end ≤ i → (s : Sheet) → HoldsSheet t b s → FaultFound s (first s) code.None
  search_ends p s h =
      let l = w s h in
      record { seen = sym (l.same ∙ go l.rest l.to_end); low = tt }
    where
      go : (ns : List TreeNode) → i + length ns ≡ end → first_some (at b) ns ≡ none
      go [] e = unfold first_some in refl
      go (n ∷ ns) e = absurd (omega arith)

-- a node of a held sheet
pub sheet_node : {b : Board} {t : List ℕ} {i : ℕ} → SomeSheet t b → i < end_in t 0 → SomeTreeNode b t i
sheet_node {b} {t} {i} s p = go (sheet_laid s.sheet s.held) (omega (arith, p, sheet_end s.held, waits_length s.sheet.root.waits)) (omega arith)
  where
    go : {k : ℕ} {ns : List TreeNode} → Laid b t s.sheet.root.line k ns → i < k + length ns → k ≤ i → SomeTreeNode b t i
    go laid_end p q = absurd (omega arith)
    go {k} (laid_node {n = n} a l o) p q =
        ⊎_elim
        (λ e.
        let here : i ≡ k = omega arith in
        record { node = n; at = subst⁻¹ (λ (j : ℕ). NodeAt b t j n) here a })
        (λ z. go o (omega arith) (omega arith))
        (eq-zero-or-pos (i - k))

-- what is told first of the nodes is the first fault of a held sheet, where of each is told what fault it has
module _ (first : Sheet → Option Fault) (at : Board → TreeNode → Option Fault) {b : Board} {t : List ℕ} {end : ℕ} (told : ℕ → code.Option answered.Fault → Type 0)
    (tree : (s : Sheet) → first s ≡ first_some (at s.board) (tree_of s))
    (gone : (i : ℕ) → told i code.None → (n : TreeNode) → NodeAt b t i n → at b n ≡ none)
    (there : (i : ℕ) (f : answered.Fault) → told i (code.Some f) → (n : TreeNode) → NodeAt b t i n → Has at b i n f)
    (e : end ≡ end_in t 0) where
  none_told : (i : ℕ) → i ≤ end → ((j : ℕ) → j < i → told j code.None) → Searching first at b t i end
  none_told zero p f = search_starts first at b t end e tree
  none_told (suc i) p f =
      let next : suc i ≡ i + 1 = omega arith in
      subst⁻¹ (λ (k : ℕ). Searching first at b t k end) next
      (search_again (none_told i (omega arith) (λ j q. f j (omega arith))) (omega arith) (gone i (f i (omega arith))))

  search_tells : (r : code.Option answered.Fault) → FirstTold told end r → (s : Sheet) → HoldsSheet t b s → FaultFound s (first s) r
  search_tells code.None f s h = search_ends (none_told end (omega arith) f) (omega arith) s h
  search_tells (code.Some f) q s h =
      search_found (none_told q.0 (omega (arith, q.1)) q.3) q.1 f (there q.0 f q.2) s h (omega (arith, q.1, e, sheet_end h, node_end (sheet_stands h), h.long))

-- by the smallest faulty cells
some_cell : (line c : ℕ) → c ≢ 0 → fault_at line c ≡ some (record { line = line; cell = c })
unfolding fault_at
some_cell line zero z = absurd (z refl)
some_cell line (suc c) z = refl

pub least_first : {first : Sheet → Option Fault} (faulty : TreeNode → ℕ → Bool) {b : Board} {t : List ℕ} {end : ℕ}
    → ((s : Sheet) → first s ≡ first_some (least_fault faulty s.board) (tree_of s)) → end ≡ end_in t 0
    → {r : code.Option answered.Fault} → FirstTold (FaultAt faulty b t) end r → (s : Sheet) → HoldsSheet t b s → FaultFound s (first s) r
unfolding fault_at
least_first {first} faulty {b} {t} tree e = search_tells first (least_fault faulty) (FaultAt faulty b t) tree gone there e _
  where
    gone : (i : ℕ) → FaultAt faulty b t i code.None → (n : TreeNode) → NodeAt b t i n → least_fault faulty b n ≡ none
    gone i e n a = rw (e n a)

    there : (i : ℕ) (f : answered.Fault) → FaultAt faulty b t i (code.Some f) → (n : TreeNode) → NodeAt b t i n → Has (least_fault faulty) b i n f
    there i f e n a =
        let is = e n a in
        record { here = is.0; fault_is = ap (fault_at (line_of n)) (sym is.1) ∙ some_cell (line_of n) f.cell (λ q. is.2 (sym is.1 ∙ q)) }

-- by the waits that have a branch twice
abbrev pub TwiceAt : Board → List ℕ → ℕ → Bool → Type 0
TwiceAt b t i r = (n : TreeNode) → NodeAt b t i n → r ≡ twice_by n

abbrev BareAt : Board → List ℕ → ℕ → code.Option answered.Fault → Type 0
BareAt b t i (code.Some f) = (f.node ≡ i) × (f.cell ≡ 0) × TwiceAt b t i true
BareAt b t i code.None = TwiceAt b t i false

twice_gone : (b : Board) (n : TreeNode) → false ≡ twice_by n → twice_fault b n ≡ none
unfolding twice_at
twice_gone b (is_move m) z = refl
twice_gone b (is_wait w) z = rw (sym z)

twice_there : (b : Board) (n : TreeNode) → true ≡ twice_by n → twice_fault b n ≡ some (record { line = line_of n; cell = 0 })
unfolding twice_at
twice_there b (is_move m) z = absurd (true≢false z)
twice_there b (is_wait w) z = rw (sym z)

pub twice_first : {b : Board} {t : List ℕ} {end : ℕ} → end ≡ end_in t 0 → (r : code.Option ℕ)
    → MatchOption r ((k : ℕ) → 0 ≤ k → k < end → TwiceAt b t k false) (λ i. (0 ≤ i) × (i < end) × TwiceAt b t i true × ((k : ℕ) → 0 ≤ k → k < i → TwiceAt b t k false))
    → (s : Sheet) → HoldsSheet t b s → FaultFound s (first_twice s) (bare r)
twice_first {b} {t} {end} e = by_answer
  where
    tells : (r : code.Option answered.Fault) → FirstTold (BareAt b t) end r → (s : Sheet) → HoldsSheet t b s → FaultFound s (first_twice s) r
    tells =
        search_tells first_twice twice_fault (BareAt b t) tree_twice (λ i z n a. twice_gone b n (z n a))
        (λ i f z n a. record { here = z.0; fault_is = twice_there b n (z.2 n a) ∙ ap (λ (c : ℕ). some (record { line = line_of n; cell = c })) (sym z.1) }) e

    by_answer : (r : code.Option ℕ)
        → MatchOption r ((k : ℕ) → 0 ≤ k → k < end → TwiceAt b t k false) (λ i. (0 ≤ i) × (i < end) × TwiceAt b t i true × ((k : ℕ) → 0 ≤ k → k < i → TwiceAt b t k false))
        → (s : Sheet) → HoldsSheet t b s → FaultFound s (first_twice s) (bare r)
    by_answer code.None h = tells code.None (λ k q. h k (omega arith) q)
    by_answer (code.Some i) h = tells (code.Some (record { node = i; cell = 0 })) (i, h.1, (refl, refl, h.2), λ k q. h.3 k (omega arith) q)

-- the stones are those of the sheet
pub set_up_found : {s : Sheet} {r : code.Option answered.Fault} (stones : ℕ → Bool) → ((x : ℕ) → stones x ≡ among (set_up_cells s.set_up) x)
    → FaultFound s (first_free stones s) r → FaultFound s (first_on_set_up s) r
unfolding first_on_set_up on_set_up
set_up_found {s} {r} stones e f =
    subst (λ (o : Option Fault). FaultFound s o r) (ap (λ (g : ℕ → Bool). first_fault s.board (λ (m : Move). m.line) (not_free g) (every_move s)) (fun_ext e)) f
