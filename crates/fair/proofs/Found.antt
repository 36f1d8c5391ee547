-- The faulty cells of a move: the loop over its waits that tallies their cells.
use mathlib.Core.Path.{◌≡◌, refl, sym, ap, ap₂, ◌∙◌}
use mathlib.Core.Bool.{Bool, true, false, ◌&&◌, ◌||◌}
use Prim.Native.Nat.{ℕ, zero, suc, ◌+◌, ◌<◌, ◌≤◌}
use native.Mathlib.Omega.{arith}
use mathlib.Core.List.{List}
use lib.Dec.{eqb, leb}
use borrow.Author.Tests.{le-leb}
use Rattle.rules.specs.declared.Board.{Board}
use Rattle.rules.specs.Words.{one_if}
use Rattle.rules.specs.Tree.{Waits, no_waits, wait, Move}
use Rattle.rules.specs.Fair.{in_waits, in_moves, holding, not_apart}
use Rattle.cells.specs.Cells.{held}
use Rattle.nodes.specs.Nodes.{Nodes, no_nodes, node, Kind, a_wait, a_move, nodes_of_waits, in_node}
use Rattle.nodes.specs.Table.{under_in, RowOn, At, SomeNode}
use Rattle.nodes.specs.Collecting.{CollectsAny}
use Rattle.nodes.proofs.Trees.{moves_cells}
use Rattle.nodes.proofs.Walk.{Walking, walking_starts, walking_again, walking_ends}
use Rattle.fair.specs.Faults.{MoveAt, FoundAtMove, OneMoreSet}

-- in how many of the nodes x is found
unfoldable pub holding_in : Kind → Nodes → ℕ → ℕ
holding_in k no_nodes x = 0
holding_in k (node c u a) x = one_if (in_node k c u x) + holding_in k a x

waits_holding : (ws : Waits) (x : ℕ) → holding_in a_wait (nodes_of_waits ws) x ≡ holding ws x
unfolding holding_in holding nodes_of_waits
waits_holding no_waits x = refl
waits_holding (wait line ms ws) x = ap₂ (λ (y : Bool) (n : ℕ). one_if y + n) (moves_cells ms x) (waits_holding ws x)

none_more : (n : ℕ) → 0 + n ≡ n
none_more n = omega arith

-- found in some wait, found in one or more
some_holding : (ws : Waits) (x : ℕ) → leb 1 (holding ws x) ≡ in_waits ws x
unfolding holding in_waits one_if
some_holding no_waits x = refl
some_holding (wait line ms ws) x = go (in_moves ms x) (some_holding ws x)
  where
    go : (y : Bool) → leb 1 (holding ws x) ≡ in_waits ws x → leb 1 (one_if y + holding ws x) ≡ (y || in_waits ws x)
    go true e = le-leb 1 (1 + holding ws x) (omega arith)
    go false e = ap (leb 1) (none_more (holding ws x)) ∙ e

-- found twice in all, where n more are to come: it was, or was found once and comes again, or comes twice
unfoldable pub crowded : (twice once : Bool) → (n : ℕ) → Bool
crowded t o n = (t || (o && leb 1 n)) || leb 2 n

crowded_more : (t o h : Bool) (n : ℕ) → crowded (t || (o && h)) (o || h) n ≡ crowded t o (one_if h + n)
unfolding crowded one_if
crowded_more true o h n = refl
crowded_more false true true n = ap (λ (y : Bool). y || leb 2 (1 + n)) (sym (le-leb 1 (1 + n) (omega arith)))
crowded_more false true false n = ap (crowded false true) (sym (none_more n))
crowded_more false false true zero = refl
crowded_more false false true (suc n) =
    ap (λ (y : Bool). y || leb 2 (suc n)) (le-leb 1 (suc n) (omega arith)) ∙ sym (le-leb 2 (1 + suc n) (omega arith))
crowded_more false false false n = ap (crowded false false) (sym (none_more n))

crowded_all : (t o : Bool) → crowded t o 0 ≡ t
unfolding crowded
crowded_all true o = refl
crowded_all false true = refl
crowded_all false false = refl

-- the cells of one node, collected alone
module _ {k : Kind} {b : Board} {t : List ℕ} {i : ℕ} {none rows : List ℕ} {next : ℕ} (h : CollectsAny k b t i none rows next) (e : (x : ℕ) → held b none x ≡ false) where
  alone_held : (c : ℕ) (u : Nodes) → At (RowOn b t) k i c u → (x : ℕ) → 1 ≤ x → held b rows x ≡ in_node k c u x
  alone_held c u n x p = (h c u n).held_are x p ∙ ap (λ (y : Bool). y || in_node k c u x) (e x)

-- ---- at a move

-- with what was found once and twice so far, and with what is left, the faulty cells are whole
pub record Tallied (b : Board) (cell : ℕ) (once twice : List ℕ) (all rest : Nodes) : Type 0 where
  pub whole : (x : ℕ) → 1 ≤ x → crowded (held b twice x) (held b once x) (holding_in a_wait rest x) ≡ crowded false (eqb x cell) (holding_in a_wait all x)

abbrev pub Tallying : Board → List ℕ → (cell : ℕ) → (once twice : List ℕ) → (i under next j : ℕ) → Type 0
Tallying b t cell once twice i under next j = Walking (RowOn b t) (RowOn b t) a_move i under next j (Tallied b cell once twice)

pub tallying_starts : (b : Board) (t : List ℕ) (cell : ℕ) (once twice : List ℕ) (i under : ℕ) → under ≡ under_in t i
    → ((x : ℕ) → 1 ≤ x → held b once x ≡ eqb x cell) → ((x : ℕ) → held b twice x ≡ false) → Tallying b t cell once twice i under (i + 1) 0
tallying_starts b t cell once twice i under e o w =
    walking_starts (λ c u r. omega (arith, r.row.under))
    (λ u. record { whole = λ x p. ap₂ (λ (y z : Bool). crowded y z (holding_in a_wait u x)) (w x) (o x p) })

module _ {b : Board} {t : List ℕ} {cell : ℕ} {once twice : List ℕ} {i under next j : ℕ} (w : Tallying b t cell once twice i under next j) where
  -- the cells of one more wait are in the tally
  pub tallying_again : j < under → SomeNode (RowOn b t) a_move i → {none more once' twice' : List ℕ} {to : ℕ}
      → CollectsAny a_wait b t next none more to → ((x : ℕ) → held b none x ≡ false) → OneMoreSet once twice more once' twice'
      → Tallying b t cell once' twice' i under to (j + 1)
  unfolding holding_in
  tallying_again p n {none} {more} {once'} {twice'} h e d =
      walking_again w p n (λ c v m.
      record {
        next_is = (h c v m).next_is;
        each = λ a st. st;
        holds = λ u a f. record {
          whole = λ x q.
              ap₂ (λ (y z : Bool). crowded y z (holding_in a_wait a x)) (d.twice_are b x) (d.once_are b x)
              ∙ crowded_more (held b twice x) (held b once x) (held b more x) (holding_in a_wait a x)
              ∙ ap (λ (y : Bool). crowded (held b twice x) (held b once x) (one_if y + holding_in a_wait a x)) (alone_held h e c v m x q)
              ∙ f.whole x q;
        };
      })

  -- all are
  pub tallying_done : under ≤ j → ((m : Move) → MoveAt b t i m → cell ≡ m.cell) → FoundAtMove not_apart b t i twice
  unfolding holding_in not_apart crowded
  tallying_done p own m n x q =
      let d = walking_ends w p m.cell (nodes_of_waits m.waits) n in
      sym (crowded_all (held b twice x) (held b once x))
      ∙ d.1.whole x q
      ∙ ap₂ (λ (c k : ℕ). crowded false (eqb x c) k) (own m n) (waits_holding m.waits x)
      ∙ ap (λ (y : Bool). (eqb x m.cell && y) || leb 2 (holding m.waits x)) (some_holding m.waits x)
