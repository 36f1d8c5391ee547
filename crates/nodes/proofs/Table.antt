-- Laws of nodes in the table: their rows are all that matters, a row stored, and where the nodes end.
use mathlib.Core.Path.{◌≡◌, sym, ◌∙◌}
use Prim.Native.Nat.{ℕ, ◌+◌, ◌*◌, ◌<◌, ◌≤◌}
use native.Mathlib.Omega.{arith}
use mathlib.Core.List.{List}
use lib.ListN.{length, get_or, set, length-set}
use lib.Seq.{get_or-set_same, get_or-set_other}
use Rattle.rules.specs.declared.Board.{Board}
use Rattle.nodes.specs.Nodes.{Nodes, alone, Kind, many, size}
use Rattle.nodes.specs.Table.{with_node, Property, Each, nothing, first, Row, WeighedRow, RowOn, WeighedOn, Stand, Weighed, At}

-- a property of each node from i on gives another one
pub each_map : {P Q : Property} {k : Kind} {i : ℕ} {n : Nodes}
    → ((k : Kind) (j c : ℕ) (u : Nodes) → i ≤ j → j + 1 + size u ≤ i + size n → P k j c u → Q k j c u) → Each P k i n → Each Q k i n
unfolding size
each_map f nothing = nothing
each_map f (first p below rest) =
    first
    (f _ _ _ _ (omega arith) (omega arith) p)
    (each_map (λ k j c u from to q. f k j c u (omega arith) (omega arith) q) below)
    (each_map (λ k j c u from to q. f k j c u (omega arith) (omega arith) q) rest)

-- two properties of each node give a third one
pub each_both : {P Q R : Property} {k : Kind} {i : ℕ} {n : Nodes} → ((k : Kind) (j c : ℕ) (u : Nodes) → P k j c u → Q k j c u → R k j c u) → Each P k i n → Each Q k i n → Each R k i n
each_both f nothing nothing = nothing
each_both f (first p below rest) (first q below' rest') = first (f _ _ _ _ p q) (each_both f below below') (each_both f rest rest')

-- so of one node and all under it
pub at_map : {P Q : Property} {k : Kind} {i c : ℕ} {u : Nodes} → ((k : Kind) (j c : ℕ) (u : Nodes) → P k j c u → Q k j c u) → At P k i c u → At Q k i c u
at_map f n = record { here = f _ _ _ _ n.here; below = each_map (λ k j c u from to p. f k j c u p) n.below }

-- one node, as nodes side by side
pub alone_at : {P : Property} {k : Kind} {i c : ℕ} {u : Nodes} → Each P k i (alone c u) → At P k i c u
alone_at (first p below rest) = record { here = p; below = below }

-- the tables have the same numbers at the nodes from `from` up to `to`
pub record Agree (t v : List ℕ) (from to : ℕ) : Type 0 where
  pub long : length v ≡ length t
  pub same : (m : ℕ) → 4 * from ≤ m → m < 4 * to → get_or v m 0 ≡ get_or t m 0

pub agree_within : {t v : List ℕ} {from to from' to' : ℕ} → from ≤ from' → to' ≤ to → Agree t v from to → Agree t v from' to'
agree_within p q a = record { long = a.long; same = λ m lo hi. a.same m (omega arith) (omega arith) }

pub agree_then : {t v w : List ℕ} {from to : ℕ} → Agree t v from to → Agree v w from to → Agree t w from to
agree_then a d = record { long = d.long ∙ a.long; same = λ m lo hi. d.same m lo hi ∙ a.same m lo hi }

pub row_agree : {t v : List ℕ} {from to : ℕ} {k : Kind} {i c : ℕ} {u : Nodes} → Agree t v from to → from ≤ i → i < to → Row t k i c u → Row v k i c u
row_agree a p q r =
    record {
      room = omega (arith, a.long, r.room);
      cell = a.same _ (omega arith) (omega arith) ∙ r.cell;
      under = a.same _ (omega arith) (omega arith) ∙ r.under;
    }

pub weighed_row_agree : {t v : List ℕ} {from to : ℕ} {k : Kind} {i c : ℕ} {u : Nodes} → Agree t v from to → from ≤ i → i < to → WeighedRow t k i c u → WeighedRow v k i c u
weighed_row_agree a p q r =
    record {
      row = row_agree a p q r.row;
      end = a.same _ (omega arith) (omega arith) ∙ r.end;
      count = a.same _ (omega arith) (omega arith) ∙ r.count;
    }

-- what stands from i on depends on its own rows alone
pub stand_agree : {t v : List ℕ} {k : Kind} {i : ℕ} {n : Nodes} → Agree t v i (i + size n) → Stand t k i n → Stand v k i n
stand_agree a s = each_map (λ k j c u from to r. row_agree a from (omega arith) r) s

pub weighed_agree : {t v : List ℕ} {k : Kind} {i : ℕ} {n : Nodes} → Agree t v i (i + size n) → Weighed t k i n → Weighed v k i n
weighed_agree a s = each_map (λ k j c u from to r. weighed_row_agree a from (omega arith) r) s

-- weighed nodes stand
pub stand_of_weighed : {t : List ℕ} {k : Kind} {i : ℕ} {n : Nodes} → Weighed t k i n → Stand t k i n
stand_of_weighed s = each_map (λ k j c u from to r. r.row) s

pub weighed_on_at : {b : Board} {t v : List ℕ} {k : Kind} {i c : ℕ} {u : Nodes} → At (WeighedRow v) k i c u → At (RowOn b t) k i c u → At (WeighedOn b v) k i c u
weighed_on_at n m =
    record {
      here = record { weight = n.here; on = m.here.on; celled = m.here.celled };
      below = each_both (λ k j c u p q. record { weight = p; on = q.on; celled = q.celled }) n.below m.below;
    }

-- a weighed row on the board is a row on the board
pub on_row : {b : Board} {t : List ℕ} (k : Kind) (j c : ℕ) (u : Nodes) → WeighedOn b t k j c u → RowOn b t k j c u
on_row k j c u r = record { row = r.weight.row; on = r.on; celled = r.celled }

-- a row stored is there, and the rows of other nodes stay
pub stored_row : (t : List ℕ) (k : Kind) (i c n : ℕ) (u : Nodes) → 4 * i + 3 < length t → many u ≡ n → Row (with_node t i c n) k i c u
stored_row t k i c n u h e =
    let l = length-set t (4 * i + 1) n in
    record {
      room = omega (arith, length-set (set t (4 * i + 1) n) (4 * i) c);
      cell = get_or-set_same (set t (4 * i + 1) n) (4 * i) c 0 (omega arith);
      under = get_or-set_other (set t (4 * i + 1) n) (4 * i) (4 * i + 1) c 0 (omega arith) ∙ get_or-set_same t (4 * i + 1) n 0 (omega arith) ∙ sym e;
    }

pub stored : (t : List ℕ) (i c n from to : ℕ) → ((m : ℕ) → 4 * from ≤ m → m < 4 * to → (m ≡ 4 * i → ⊥) × (m ≡ 4 * i + 1 → ⊥)) → Agree t (with_node t i c n) from to
stored t i c n from to f =
    record {
      long = length-set (set t (4 * i + 1) n) (4 * i) c ∙ length-set t (4 * i + 1) n;
      same = λ m lo hi. get_or-set_other (set t (4 * i + 1) n) (4 * i) m c 0 (f m lo hi).0 ∙ get_or-set_other t (4 * i + 1) m n 0 (f m lo hi).1;
    }

pub stored_before : (t : List ℕ) (i c n from to : ℕ) → to ≤ i → Agree t (with_node t i c n) from to
stored_before t i c n from to p = stored t i c n from to (λ m lo hi. (λ e. omega arith, λ e. omega arith))

-- nodes that stand in the table end in it
pub stand_end : {t : List ℕ} {k : Kind} {i : ℕ} {n : Nodes} → 4 * i ≤ length t → Stand t k i n → 4 * (i + size n) ≤ length t
unfolding size
stand_end p nothing = omega arith
stand_end p (first r below rest) =
    let b = stand_end (omega (arith, r.room)) below in
    omega (arith, stand_end (omega (arith, b)) rest)

pub node_end : {t : List ℕ} {k : Kind} {i c : ℕ} {u : Nodes} → At (Row t) k i c u → 4 * (i + 1 + size u) ≤ length t
node_end n = stand_end (omega (arith, n.here.room)) n.below
