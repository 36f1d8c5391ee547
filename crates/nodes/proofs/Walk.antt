-- A walk over nodes side by side: what is left of them, and one step. For any property of the rows, and any one of what is left.
use mathlib.Core.Path.{◌≡◌, refl}
use Prim.Native.Nat.{ℕ, ◌+◌, ◌-◌, ◌<◌, ◌≤◌}
use native.Mathlib.Omega.{arith}
use Rattle.nodes.specs.Nodes.{Nodes, no_nodes, node, Kind, other, many, size}
use Rattle.nodes.specs.Table.{Property, Each, first, At, SomeNode}

-- of the nodes n from b on, m are left, from next on, and Q holds of them
pub record Left (P : Property) (k : Kind) (b next m : ℕ) (n : Nodes) (Q : Nodes → Type 0) : Type 0 where
  pub rest : Nodes
  pub each : Each P k next rest
  pub many_left : many rest ≡ m
  pub to_end : next + size rest ≡ b + size n
  pub holds : Q rest

-- all are left
pub walk_all : {P : Property} {k : Kind} {b m : ℕ} {n : Nodes} {Q : Nodes → Type 0} → Each P k b n → many n ≡ m → Q n → Left P k b b m n Q
walk_all e h q = record { rest = _; each = e; many_left = h; to_end = refl; holds = q }

-- one of them is at next, and the others are after all under it
pub record Step (P : Property) (k : Kind) (b next m : ℕ) (n : Nodes) (Q : Nodes → Type 0) : Type 0 where
  pub cell : ℕ
  pub under : Nodes
  pub others : Nodes
  pub at : At P k next cell under
  pub each : Each P k (next + 1 + size under) others
  pub many_left : many others ≡ m - 1
  pub to_end : next + 1 + size under + size others ≡ b + size n
  pub holds : Q (node cell under others)

pub walk_step : {P : Property} {k : Kind} {b next m : ℕ} {n : Nodes} {Q : Nodes → Type 0} → ¬ (m ≡ 0) → Left P k b next m n Q → Step P k b next m n Q
unfolding many size
walk_step {P} {k} {b} {next} {m} {n} {Q} nz l = go l.rest l.each l.many_left l.to_end l.holds
  where
    go : (r : Nodes) → Each P k next r → many r ≡ m → next + size r ≡ b + size n → Q r → Step P k b next m n Q
    go no_nodes e h s q = absurd (nz (omega arith))
    go (node c u a) (first p below rest) h s q =
        record {
          cell = c;
          under = u;
          others = a;
          at = record { here = p; below = below };
          each = rest;
          many_left = omega arith;
          to_end = omega arith;
          holds = q;
        }

-- none is left
pub walk_done : {P : Property} {k : Kind} {b next m : ℕ} {n : Nodes} {Q : Nodes → Type 0} → m ≡ 0 → Left P k b next m n Q → (next ≡ b + size n) × Q no_nodes
unfolding many size
walk_done {P} {k} {b} {next} {m} {n} {Q} z l = go l.rest l.many_left l.to_end l.holds
  where
    go : (r : Nodes) → many r ≡ m → next + size r ≡ b + size n → Q r → (next ≡ b + size n) × Q no_nodes
    go no_nodes h s q = (omega arith, q)
    go (node c u a) h s q = absurd (omega arith)

-- a loop over the nodes right under node i: j of them are passed, the next is at next, and Q holds of what is under i and what is left.
-- What is under i had the property P₀ at the start, and what is left has P.
pub record Walking (P₀ P : Property) (k : Kind) (i under next j : ℕ) (Q : (all rest : Nodes) → Type 0) : Type 0 where
  pub turns : j ≤ under
  pub on : i < next
  pub left : (c : ℕ) (u : Nodes) → At P₀ k i c u → Left P (other k) (i + 1) next (under - j) u (Q u)

pub walking_starts : {P : Property} {k : Kind} {i under : ℕ} {Q : Nodes → Nodes → Type 0}
    → ((c : ℕ) (u : Nodes) → P k i c u → many u ≡ under) → ((u : Nodes) → Q u u) → Walking P P k i under (i + 1) 0 Q
walking_starts f q =
    record {
      turns = omega arith;
      on = omega arith;
      left = λ c u n. walk_all n.below (omega (arith, f c u n.here)) (q u);
    }

-- one node is passed: the next is after all under it, and what is left stays so
pub record Passed (P P' : Property) (k : Kind) (next to c : ℕ) (v : Nodes) (Q Q' : Nodes → Nodes → Type 0) : Type 0 where
  pub next_is : to ≡ next + 1 + size v
  pub each : (a : Nodes) → Each P k (next + 1 + size v) a → Each P' k (next + 1 + size v) a
  pub holds : (u a : Nodes) → Q u (node c v a) → Q' u a

module _ {P₀ P : Property} {k : Kind} {i under next j : ℕ} {Q : Nodes → Nodes → Type 0} (w : Walking P₀ P k i under next j Q) where
  walking_step : j < under → (c : ℕ) (u : Nodes) → At P₀ k i c u → Step P (other k) (i + 1) next (under - j) u (Q u)
  walking_step p c u n = walk_step (omega arith) (w.left c u n)

  -- while some are left, one is at next
  pub walking_child : j < under → SomeNode P₀ k i → SomeNode P (other k) next
  walking_child p n =
      let s = walking_step p _ _ n.at in
      record { cell = s.cell; under = s.under; at = s.at }

  pub walking_again : j < under → SomeNode P₀ k i → {P' : Property} {Q' : Nodes → Nodes → Type 0} {to : ℕ}
      → ((c : ℕ) (v : Nodes) → At P (other k) next c v → Passed P P' (other k) next to c v Q Q') → Walking P₀ P' k i under to (j + 1) Q'
  walking_again p n {P'} {Q'} {to} f =
      let s = walking_step p _ _ n.at in
      record {
        turns = omega arith;
        on = omega (arith, (f _ _ s.at).next_is, w.on);
        left = λ c u m.
            let s = walking_step p c u m in
            let h = f _ _ s.at in
            record {
              rest = s.others;
              each = rw h.next_is (h.each _ s.each);
              many_left = omega (arith, s.many_left);
              to_end = omega (arith, s.to_end, h.next_is);
              holds = h.holds u _ s.holds;
            };
      }

  -- none is left
  pub walking_ends : under ≤ j → (c : ℕ) (u : Nodes) → At P₀ k i c u → (next ≡ i + 1 + size u) × Q u no_nodes
  walking_ends p c u n = walk_done (omega arith) (w.left c u n)
