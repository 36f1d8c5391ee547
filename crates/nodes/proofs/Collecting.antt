-- The loop over the nodes under a node that collects their cells, and a move's stone.
use mathlib.Core.Path.{◌≡◌, refl, sym, ap, ◌∙◌}
use mathlib.Core.Logic.{⊎_elim}
use mathlib.Core.Bool.{Bool, false, ◌||◌, or_assoc, or-false}
use Prim.Native.Nat.{ℕ, zero, suc, ◌+◌, ◌<◌, ◌≤◌}
use native.Mathlib.Nat.{eq-zero-or-pos}
use native.Mathlib.Omega.{arith}
use mathlib.Core.List.{List}
use lib.Dec.{eqb}
use borrow.Author.Tests.{ne_eqb}
use Rattle.rules.specs.declared.Board.{Board}
use Rattle.rules.specs.Tree.{stone}
use Rattle.rules.specs.Words.{among}
use Rattle.cells.specs.Cells.{held}
use Rattle.nodes.specs.Nodes.{Nodes, Kind, other, named, in_nodes, in_node}
use Rattle.nodes.specs.Table.{under_in, RowOn, SomeNode}
use Rattle.nodes.specs.Collecting.{CollectsAny}
use Rattle.nodes.proofs.Walk.{Walking, walking_starts, walking_again, walking_ends}

-- the cells so far and those of what is left are all the cells, besides those at the start
pub record Gathering (k : Kind) (b : Board) (start rows : List ℕ) (n rest : Nodes) : Type 0 where
  pub all : (x : ℕ) → 1 ≤ x → (held b rows x || in_nodes k rest x) ≡ (held b start x || in_nodes k n x)

-- the loop's invariant at a node i of kind k with so many nodes right under it, the cells of j of which are collected
abbrev pub Collecting : Kind → Board → List ℕ → (start rows : List ℕ) → (i under next j : ℕ) → Type 0
Collecting k b t start rows i under next j = Walking (RowOn b t) (RowOn b t) k i under next j (Gathering (other k) b start rows)

pub collecting_starts : (k : Kind) (b : Board) (t start : List ℕ) (i under : ℕ) → under ≡ under_in t i → Collecting k b t start start i under (i + 1) 0
collecting_starts k b t start i under e = walking_starts (λ c u r. omega (arith, r.row.under)) (λ u. record { all = λ x p. refl })

module _ {k : Kind} {b : Board} {t start rows : List ℕ} {i under next j : ℕ} (w : Collecting k b t start rows i under next j) where
  -- the cells of one more are collected
  pub collecting_again : j < under → SomeNode (RowOn b t) k i → (out : List ℕ) (to : ℕ) → CollectsAny (other k) b t next rows out to → Collecting k b t start out i under to (j + 1)
  unfolding in_nodes
  collecting_again p n out to h =
      walking_again w p n (λ c v m.
      let g = h c v m in
      record {
        next_is = g.next_is;
        each = λ a st. st;
        holds = λ u a f. record {
          all = λ x q.
              ap (λ (y : Bool). y || in_nodes (other k) a x) (g.held_are x q)
              ∙ or_assoc (held b rows x) (in_node (other k) c v x) (in_nodes (other k) a x)
              ∙ f.all x q;
        };
      })

  -- all are collected; the node's own cell was there at the start
  pub collecting_done : under ≤ j → (before : List ℕ) → ((c : ℕ) (u : Nodes) (x : ℕ) → RowOn b t k i c u → 1 ≤ x → held b start x ≡ (held b before x || named k c x))
      → CollectsAny k b t i before rows next
  unfolding in_nodes
  collecting_done p before own c u n =
      let d = walking_ends w p c u n in
      record {
        held_are = λ x q.
            sym (or-false (held b rows x))
            ∙ d.1.all x q
            ∙ ap (λ (y : Bool). y || in_nodes (other k) u x) (own c u x n.here q)
            ∙ or_assoc (held b before x) (named k c x) (in_nodes (other k) u x);
        next_is = d.0;
      }

-- a move's stone is its cell; the cell 0 puts none
pub no_stone : (c x : ℕ) → c ≡ 0 → among (stone c) x ≡ false
unfolding among stone
no_stone c x e = rw (e, stone)

pub stone_cell : (c x : ℕ) → 1 ≤ c → among (stone c) x ≡ eqb x c
unfolding among stone
stone_cell zero x p = absurd (omega arith)
stone_cell (suc c) x p = or-false (eqb x (suc c))

pub stone_of_lem : (c x : ℕ) → 1 ≤ x → among (stone c) x ≡ eqb x c
stone_of_lem c x p = ⊎_elim (λ e. no_stone c x e ∙ sym (ne_eqb x c (λ f. omega arith))) (λ q. stone_cell c x q) (eq-zero-or-pos c)
