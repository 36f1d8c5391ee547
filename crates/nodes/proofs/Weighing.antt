-- What weighing leaves as it was, what it stores, and the loop over the nodes under a node.
use mathlib.Core.Path.{◌≡◌, refl, sym, ap, ◌∙◌}
use Prim.Native.Nat.{ℕ, ◌+◌, ◌*◌, ◌<◌, ◌≤◌}
use native.Mathlib.Omega.{arith}
use mathlib.Core.List.{List}
use lib.ListN.{length, get_or, set, length-set}
use lib.Seq.{get_or-set_same, get_or-set_other}
use Rattle.nodes.specs.Nodes.{Nodes, no_nodes, node, alone, Kind, a_wait, a_move, other, counted, nothing_counted, size, count_of, limited}
use Rattle.nodes.specs.Table.{under_in, with_weight, nothing, first, Row, WeighedRow, Stand, Weighed, At, SomeNode}
use Rattle.nodes.specs.Weighing.{with_own, weighed, Weighs, WeighsAny}
use Rattle.nodes.proofs.Limited.{limited_left, limited_right, counted_assoc, counted_nothing, counted_last}
use Rattle.nodes.proofs.Table.{each_map, Agree, agree_within, row_agree, weighed_row_agree, stand_agree, weighed_agree, node_end, alone_at}
use Rattle.nodes.proofs.Walk.{Walking, walking_starts, walking_child, walking_again, walking_ends}

-- number m of the table is no end and no count of the nodes from i up to e
pub record Kept (i e m : ℕ) : Type 0 where
  pub no_end : (j : ℕ) → i ≤ j → j < e → m ≡ 4 * j + 2 → ⊥
  pub no_count : (j : ℕ) → i ≤ j → j < e → m ≡ 4 * j + 3 → ⊥

kept_within : {i e i' e' m : ℕ} → i ≤ i' → e' ≤ e → Kept i e m → Kept i' e' m
kept_within p q h = record { no_end = λ j a b. h.no_end j (omega arith) (omega arith); no_count = λ j a b. h.no_count j (omega arith) (omega arith) }

pub kept_cell : {i e : ℕ} (j : ℕ) → Kept i e (4 * j)
kept_cell j = record { no_end = λ j a b x. omega arith; no_count = λ j a b x. omega arith }

pub kept_under : {i e : ℕ} (j : ℕ) → Kept i e (4 * j + 1)
kept_under j = record { no_end = λ j a b x. omega arith; no_count = λ j a b x. omega arith }

pub kept_before : {i e m : ℕ} → m < 4 * i → Kept i e m
kept_before p = record { no_end = λ j a b x. omega arith; no_count = λ j a b x. omega arith }

pub kept_after : {i e m : ℕ} → 4 * e ≤ m → Kept i e m
kept_after p = record { no_end = λ j a b x. omega arith; no_count = λ j a b x. omega arith }

weight_long : (t : List ℕ) (i e q : ℕ) → length (with_weight t i e q) ≡ length t
weight_long t i e q = length-set (set t (4 * i + 2) e) (4 * i + 3) q ∙ length-set t (4 * i + 2) e

weight_kept : (t : List ℕ) (i e q m : ℕ) → Kept i (i + 1) m → get_or (with_weight t i e q) m 0 ≡ get_or t m 0
weight_kept t i e q m h =
    get_or-set_other (set t (4 * i + 2) e) (4 * i + 3) m q 0 (h.no_count i (omega arith) (omega arith))
    ∙ get_or-set_other t (4 * i + 2) m e 0 (h.no_end i (omega arith) (omega arith))

-- weighing keeps the table's length, and each number that is no end and no count of a weighed node
pub weighed_long : (k : Kind) (n : Nodes) (i : ℕ) (t : List ℕ) → length (weighed k n i t) ≡ length t
unfolding weighed
weighed_long k no_nodes i t = refl
weighed_long k (node c u a) i t =
    let v = weighed (other k) u (i + 1) t in
    weighed_long k a (i + 1 + size u) (with_own k u i v)
    ∙ weight_long v i (i + 1 + size u) (limited (count_of (other k) u))
    ∙ weighed_long (other k) u (i + 1) t

pub weighed_kept : (k : Kind) (n : Nodes) (i : ℕ) (t : List ℕ) (m : ℕ) → Kept i (i + size n) m → get_or (weighed k n i t) m 0 ≡ get_or t m 0
unfolding weighed size
weighed_kept k no_nodes i t m h = refl
weighed_kept k (node c u a) i t m h =
    let v = weighed (other k) u (i + 1) t in
    weighed_kept k a (i + 1 + size u) (with_own k u i v) m (kept_within (omega arith) (omega arith) h)
    ∙ weight_kept v i (i + 1 + size u) (limited (count_of (other k) u)) m (kept_within (omega arith) (omega arith) h)
    ∙ weighed_kept (other k) u (i + 1) t m (kept_within (omega arith) (omega arith) h)

-- so all that stood in the table still stands there
pub weighed_row : (k : Kind) (n : Nodes) (i : ℕ) (t : List ℕ) {l : Kind} {j c : ℕ} {u : Nodes} → Row t l j c u → Row (weighed k n i t) l j c u
weighed_row k n i t {l} {j} r =
    record {
      room = omega (arith, weighed_long k n i t, r.room);
      cell = weighed_kept k n i t (4 * j) (kept_cell j) ∙ r.cell;
      under = weighed_kept k n i t (4 * j + 1) (kept_under j) ∙ r.under;
    }

pub weighed_stand : (k : Kind) (n : Nodes) (i : ℕ) (t : List ℕ) {l : Kind} {j : ℕ} {w : Nodes} → Stand t l j w → Stand (weighed k n i t) l j w
weighed_stand k n i t s = each_map (λ l j c u from to r. weighed_row k n i t r) s

-- and what stands before the weighed nodes, or after them, is as it was
pub weighed_before : (k : Kind) (n : Nodes) (i from : ℕ) (t : List ℕ) → Agree t (weighed k n i t) from i
weighed_before k n i from t = record { long = weighed_long k n i t; same = λ m lo hi. weighed_kept k n i t m (kept_before hi) }

-- a node's own end and count are stored: it has them, and all under it is as it was
own_row : (t : List ℕ) (k : Kind) (i c : ℕ) (u : Nodes) → Row t k i c u → WeighedRow (with_own k u i t) k i c u
own_row t k i c u r =
    let e = i + 1 + size u in
    let q = limited (count_of (other k) u) in
    let l = length-set t (4 * i + 2) e in
    record {
      row =
          record {
            room = omega (arith, weight_long t i e q, r.room);
            cell = weight_kept t i e q (4 * i) (kept_cell i) ∙ r.cell;
            under = weight_kept t i e q (4 * i + 1) (kept_under i) ∙ r.under;
          };
      end =
          get_or-set_other (set t (4 * i + 2) e) (4 * i + 3) (4 * i + 2) q 0 (omega arith)
          ∙ get_or-set_same t (4 * i + 2) e 0 (omega (arith, r.room));
      count = get_or-set_same (set t (4 * i + 2) e) (4 * i + 3) q 0 (omega (arith, r.room));
    }

own_agree : (t : List ℕ) (k : Kind) (u : Nodes) (i to : ℕ) → Agree t (with_own k u i t) (i + 1) to
own_agree t k u i to =
    record {
      long = weight_long t i (i + 1 + size u) (limited (count_of (other k) u));
      same = λ m lo hi. weight_kept t i (i + 1 + size u) (limited (count_of (other k) u)) m (kept_after lo);
    }

-- what is weighed stands weighed in the table
pub weighed_there : (k : Kind) (n : Nodes) (i : ℕ) (t : List ℕ) → Stand t k i n → Weighed (weighed k n i t) k i n
unfolding weighed size
weighed_there k no_nodes i t s = nothing
weighed_there k (node c u a) i t (first r below rest) =
    let e = i + 1 + size u in
    let v = weighed (other k) u (i + 1) t in
    let b = weighed_before (other k) u (i + 1) i t in
    let g = weighed_before k a e i (with_own k u i v) in
    first
    (weighed_row_agree g (omega arith) (omega arith) (own_row v k i c u (row_agree b (omega arith) (omega arith) r)))
    (weighed_agree (agree_within (omega arith) (omega arith) g) (weighed_agree (own_agree v k u i e) (weighed_there (other k) u (i + 1) t below)))
    (weighed_there k a e (with_own k u i v) (stand_agree {n = a} (agree_within (omega arith) (omega arith) (own_agree v k u i (e + size a))) (weighed_stand (other k) u (i + 1) t rest)))

-- a node that is weighed stands weighed in the table, the table is as long as before, and each number that is no end and no count
-- of the node and those under it is as before
pub weighs_at : {k : Kind} {t : List ℕ} {i c : ℕ} {u : Nodes} {count next : ℕ} {out : List ℕ} → Weighs k t i c u count next out → At (Row t) k i c u → At (WeighedRow out) k i c u
weighs_at {k} {t} {i} {c} {u} w n = rw w.table_is (alone_at (weighed_there k (alone c u) i t (first n.here n.below nothing)))

pub weighs_long : {k : Kind} {t : List ℕ} {i c : ℕ} {u : Nodes} {count next : ℕ} {out : List ℕ} → Weighs k t i c u count next out → length out ≡ length t
weighs_long {k} {t} {i} {c} {u} w = ap length w.table_is ∙ weighed_long k (alone c u) i t

pub weighs_small : {k : Kind} {t : List ℕ} {i count next : ℕ} {out : List ℕ} → SomeNode (Row t) k i → WeighsAny k t i count next out → count ≤ 65537
weighs_small n h = omega (arith, (h _ _ n.at).count_is)

-- in the loop under a node: what is left, after the count so far, makes the whole count and the whole table
pub record Counting (k : Kind) (t₀ t : List ℕ) (b next count : ℕ) (n rest : Nodes) : Type 0 where
  pub total : limited (counted k count (count_of k rest)) ≡ limited (count_of k n)
  pub table : weighed k rest next t ≡ weighed k n b t₀

-- the loop's invariant at a node i of kind k with so many nodes right under it, of which j are weighed
pub record Weighing (k : Kind) (t₀ t : List ℕ) (i under next count j : ℕ) : Type 0 where
  pub walk : Walking (Row t₀) (Row t) k i under next j (Counting (other k) t₀ t (i + 1) next count)
  pub small : count ≤ 65537
  pub long : length t ≡ length t₀

pub weighing_starts : (k : Kind) (t : List ℕ) (i under : ℕ) → under ≡ under_in t i → Weighing k t t i under (i + 1) (nothing_counted (other k)) 0
weighing_starts k t i under e =
    record {
      walk =
          walking_starts
          (λ c u r. omega (arith, r.under))
          (λ u. record { total = ap (λ (x : ℕ). limited x) (counted_nothing (other k) (count_of (other k) u)); table = refl });
      small = at_most (other k);
      long = refl;
    }
  where
    at_most : (l : Kind) → nothing_counted l ≤ 65537
    at_most a_wait = omega arith
    at_most a_move = omega arith

module _ {k : Kind} {t₀ t : List ℕ} {i under next count j : ℕ} (w : Weighing k t₀ t i under next count j) where
  -- none is left: the count, the node after all, and the table
  weighing_ends : under ≤ j → (c : ℕ) (u : Nodes) → At (Row t₀) k i c u → (next ≡ i + 1 + size u) × (count ≡ limited (count_of (other k) u)) × (t ≡ weighed (other k) u (i + 1) t₀)
  unfolding weighed count_of
  weighing_ends p c u n =
      let d = walking_ends w.walk p c u n in
      let e : limited count ≡ limited (count_of (other k) u) = ap (λ (x : ℕ). limited x) (sym (counted_last (other k) count)) ∙ d.1.total in
      (d.0, omega arith, d.1.table)

  -- then the node after all is in the table
  pub weighing_room : under ≤ j → SomeNode (Row t₀) k i → 4 * next ≤ length t₀
  weighing_room p n = omega (arith, node_end n.at, (weighing_ends p _ _ n.at).0)

  pub weighing_done : under ≤ j → (out : List ℕ) → out ≡ with_weight t i next count → WeighsAny k t₀ i count next out
  unfolding weighed
  weighing_done p out e c u n =
      let d = weighing_ends p c u n in
      record { count_is = d.1; next_is = d.0; table_is = rw (← d.0, ← d.1, ← d.2) e }

  -- one more is weighed
  pub weighing_again : j < under → SomeNode (Row t₀) k i → (q to r : ℕ) (out : List ℕ) → WeighsAny (other k) t next q to out → r ≡ limited (counted (other k) count q)
      → Weighing k t₀ out i under to r (j + 1)
  unfolding weighed count_of
  weighing_again p n q to r out h e =
      let s = walking_child w.walk p n in
      record {
        walk =
            walking_again w.walk p n (λ c v m.
            let g = h c v m in
            record {
              next_is = g.next_is;
              each = λ a st. rw g.table_is (weighed_stand (other k) (alone c v) next t st);
              holds = λ u a f. record { total = total c v a (count_of (other k) u) g.count_is f.total; table = rw (g.table_is, g.next_is) f.table };
            });
        small = omega arith;
        long = ap length (h _ _ s.at).table_is ∙ weighed_long (other k) (alone s.cell s.under) next t ∙ w.long;
      }
    where
      total : (c : ℕ) (u a : Nodes) (x : ℕ) → q ≡ limited (count_of (other (other k)) u) → limited (counted (other k) count (count_of (other k) (node c u a))) ≡ limited x
          → limited (counted (other k) r (count_of (other k) a)) ≡ limited x
      total c u a x f g =
          ap (λ (y : ℕ). limited (counted (other k) y (count_of (other k) a))) (e ∙ ap (λ (y : ℕ). limited (counted (other k) count y)) f ∙ limited_right (other k) count (count_of (other (other k)) u))
          ∙ limited_left (other k) (counted (other k) count (count_of (other (other k)) u)) (count_of (other k) a)
          ∙ ap (λ (y : ℕ). limited y) (counted_assoc (other k) count (count_of (other (other k)) u) (count_of (other k) a))
          ∙ g
