-- Laws of the storing definitions: one step of a loop, one node, and what the code keeps of them.
use mathlib.Core.Path.{◌≡◌, refl, sym, ap, ◌∙◌}
use Prim.Native.Nat.{ℕ, zero, suc, ◌-◌, ◌≤◌}
use native.Mathlib.Omega.{arith}
use mathlib.Core.List.{List}
use Rattle.std.specs.Prelude.{Ok, Err}
use Rattle.rules.specs.Lines.{reader_of, kind_under}
use Rattle.rules.specs.Reading.{refused, got, Spot, Node, node_line}
use Rattle.rules.specs.declared.Board.{Board}
use Rattle.rules.specs.declared.LineKind.{LineKind}
use Rattle.rules.specs.declared.Verdict.{Verdict}
use Rattle.nodes.specs.Table.{with_node}
use Rattle.reading.specs.Spots.{spot_of}
use Rattle.reading.specs.Storing.{Stored, store_all, store_under, store_node}
use Rattle.reading.specs.Kept.{node_said, SaidKept, ReadKept}
use Rattle.reading.specs.declared.Said.{Said}
use Rattle.reading.specs.declared.spot.Spot as code

-- a loop over nodes, step by step
module _ (one : Spot → List ℕ → Stored) (s : Spot) (t : List ℕ) where
  all_done : store_all zero one s t ≡ record { reply = got s; table = t }
  unfolding store_all
  all_done = refl

  all_refused : (n : ℕ) (v : Verdict) → (one s t).reply ≡ refused v → store_all (suc n) one s t ≡ record { reply = refused v; table = (one s t).table }
  unfolding store_all
  all_refused n v e = rw (e, store_all)

  all_more : (n : ℕ) (u : Spot) → (one s t).reply ≡ got u → store_all (suc n) one s t ≡ store_all n one u (one s t).table
  unfolding store_all
  all_more n u e = rw (e, store_all)

-- a line stored, and the nodes under it
pub node_refused : (levels : ℕ) (k : LineKind) (b : Board) (s : Spot) (t : List ℕ) (v : Verdict) → node_line b (reader_of k) levels s ≡ refused v
    → store_node levels k b s t ≡ record { reply = refused v; table = t }
unfolding store_node store_under
node_refused zero k b s t v e = rw e
node_refused (suc levels) k b s t v e = rw e

pub node_got : (levels : ℕ) (k : LineKind) (b : Board) (s : Spot) (t : List ℕ) (n : Node) (u : Spot) → 1 ≤ levels → node_line b (reader_of k) levels s ≡ got (n, u)
    → store_node levels k b s t ≡ store_all n.under (store_node (levels - 1) (kind_under k) b) u (with_node t s.nodes n.cell n.under)
unfolding store_node store_under
node_got zero k b s t n u h e = absurd (omega arith)
node_got (suc levels) k b s t n u h e =
    let d : suc levels - 1 ≡ levels = omega arith in
    rw (e, d)

-- The loop of `read_all`: what is still to be stored comes to what was to be stored at the start
pub record Going (b : Board) (k : LineKind) (levels : ℕ) (whole : Stored) (s : code.Spot) (left : ℕ) (t : List ℕ) : Type 0 where
  pub same : whole ≡ store_all left (store_node levels k b) (spot_of s) t

module _ {b : Board} {k : LineKind} {levels : ℕ} {whole : Stored} {s : code.Spot} {left : ℕ} {t : List ℕ} (g : Going b k levels whole s left t) where
  -- so many are left
  left_is : (n : ℕ) → left ≡ n → whole ≡ store_all n (store_node levels k b) (spot_of s) t
  left_is n e = g.same ∙ ap (λ (m : ℕ). store_all m (store_node levels k b) (spot_of s) t) e

  -- one node more
  pub going_on : (n : ℕ) → left ≡ suc n → (after : code.Spot) (t' : List ℕ) → ReadKept (store_node levels k b (spot_of s) t) (Ok after) t' → Going b k levels whole after n t'
  going_on n e after t' a =
      record {
        same =
            left_is (suc n) e ∙ all_more (store_node levels k b) (spot_of s) t n (spot_of after) (sym a.reply_is)
            ∙ ap (store_all n (store_node levels k b) (spot_of after)) (sym a.table_is);
      }

  -- a refusal ends it
  pub going_refused : (n : ℕ) → left ≡ suc n → (v : Verdict) (t' : List ℕ) → ReadKept (store_node levels k b (spot_of s) t) (Err v) t' → ReadKept whole (Err v) t'
  going_refused n e v t' a =
      let f = left_is (suc n) e ∙ all_refused (store_node levels k b) (spot_of s) t n v (sym a.reply_is) in
      record { reply_is = sym (ap (λ (z : Stored). z.reply) f); table_is = a.table_is ∙ sym (ap (λ (z : Stored). z.table) f) }

  pub going_done : left ≡ zero → ReadKept whole (Ok s) t
  going_done e =
      let f = left_is zero e ∙ all_done (store_node levels k b) (spot_of s) t in
      record { reply_is = sym (ap (λ (z : Stored). z.reply) f); table_is = sym (ap (λ (z : Stored). z.table) f) }

-- One node: its line is refused, or is stored and the nodes under it are read
module _ (b : Board) (k : LineKind) (levels : ℕ) (s : code.Spot) (t : List ℕ) where
  pub node_line_refused : (v : Verdict) → SaidKept b k levels s (Err v) → ReadKept (store_node levels k b (spot_of s) t) (Err v) t
  node_line_refused v h =
      let f = node_refused levels k b (spot_of s) t v (sym h.reply_is) in
      record { reply_is = sym (ap (λ (z : Stored). z.reply) f); table_is = sym (ap (λ (z : Stored). z.table) f) }

  pub node_stored : (l : Said) → SaidKept b k levels s (Ok l)
      → store_all l.under (store_node (levels - 1) (kind_under k) b) (node_said s l).1 (with_node t s.nodes l.cell l.under) ≡ store_node levels k b (spot_of s) t
  node_stored l h = sym (node_got levels k b (spot_of s) t (node_said s l).0 (node_said s l).1 h.taken.level_left (sym h.reply_is))
