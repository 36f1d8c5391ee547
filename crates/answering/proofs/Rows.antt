-- Laws of marks: storing one keeps the rows, and what stands in the table depends on the rows alone.
use mathlib.Core.Path.{◌≡◌, refl, sym, ◌∙◌}
use mathlib.Core.Logic.{⊎_elim}
use Prim.Native.Nat.{ℕ, ◌+◌, ◌-◌, ◌*◌, ◌<◌, ◌≤◌}
use native.Mathlib.Nat.{eq-zero-or-pos}
use native.Mathlib.Omega.{arith}
use mathlib.Core.List.{List}
use lib.ListN.{length, length-set}
use lib.Seq.{get_or-set_same, get_or-set_other}
use Rattle.rules.specs.declared.Board.{Board}
use Rattle.nodes.specs.Nodes.{Nodes, no_nodes, node, Kind, size}
use Rattle.nodes.specs.Table.{count_in, Row, Each, At}
use Rattle.nodes.proofs.Table.{each_map}
use Rattle.answering.specs.Rows.{Ended, EndedOn, SameRows, Remarked, with_mark, Clear, marked}

-- the rows stay
pub same_self : (t : List ℕ) → SameRows t t
same_self t = record { long = refl; cell = λ i. refl; under = λ i. refl; end = λ i. refl }

pub same_back : {t v : List ℕ} → SameRows t v → SameRows v t
same_back p = record { long = sym p.long; cell = λ i. sym (p.cell i); under = λ i. sym (p.under i); end = λ i. sym (p.end i) }

pub same_twice : {t u v : List ℕ} → SameRows t u → SameRows u v → SameRows t v
same_twice p q =
    record {
      long = q.long ∙ p.long;
      cell = λ i. q.cell i ∙ p.cell i;
      under = λ i. q.under i ∙ p.under i;
      end = λ i. q.end i ∙ p.end i;
    }

pub remarked_twice : {t u v : List ℕ} → Remarked t u → Remarked u v → Remarked t v
remarked_twice p q =
    record {
      rows = same_twice p.rows q.rows;
      later = λ i h. q.later i (omega (arith, p.rows.end 0)) ∙ p.later i h;
    }

module _ (t : List ℕ) (i q : ℕ) where
  pub mark_rows : SameRows t (with_mark t i q)
  mark_rows =
      record {
        long = length-set t (4 * i + 3) q;
        cell = λ j. get_or-set_other t (4 * i + 3) (4 * j) q 0 (λ e. omega arith);
        under = λ j. get_or-set_other t (4 * i + 3) (4 * j + 1) q 0 (λ e. omega arith);
        end = λ j. get_or-set_other t (4 * i + 3) (4 * j + 2) q 0 (λ e. omega arith);
      }

  pub mark_there : 4 * i + 3 < length t → count_in (with_mark t i q) i ≡ q
  mark_there h = get_or-set_same t (4 * i + 3) q 0 h

  pub mark_elsewhere : (j : ℕ) → (j ≡ i → ⊥) → count_in (with_mark t i q) j ≡ count_in t j
  mark_elsewhere j n = get_or-set_other t (4 * i + 3) (4 * j + 3) q 0 (λ e. n (omega arith))

pub ended_same : {t v : List ℕ} {k : Kind} {i : ℕ} {n : Nodes} → SameRows t v → Each (Ended t) k i n → Each (Ended v) k i n
ended_same s e =
    each_map
    (λ k j c u from to r.
    record {
      row = record { room = omega (arith, r.row.room, s.long); cell = s.cell j ∙ r.row.cell; under = s.under j ∙ r.row.under };
      end = s.end j ∙ r.end;
    })
    e

pub at_ended : {b : Board} {t : List ℕ} {k : Kind} {i c : ℕ} {u : Nodes} → At (EndedOn b t) k i c u → At (Ended t) k i c u
at_ended n =
    record {
      here = record { row = n.here.row; end = n.here.end };
      below = each_map (λ k j c u from to r. record { row = r.row; end = r.end }) n.below;
    }

module _ {b : Board} {t v : List ℕ} (s : SameRows t v) where
  row_same : {k : Kind} {i c : ℕ} {u : Nodes} → EndedOn b t k i c u → EndedOn b v k i c u
  row_same {i = i} r =
      record {
        row = record { room = omega (arith, r.row.room, s.long); cell = s.cell i ∙ r.row.cell; under = s.under i ∙ r.row.under };
        end = s.end i ∙ r.end;
        on = r.on;
      }

  pub each_same : {k : Kind} {i : ℕ} {n : Nodes} → Each (EndedOn b t) k i n → Each (EndedOn b v) k i n
  each_same e = each_map (λ k j c u from to r. row_same r) e

  pub at_same : {k : Kind} {i c : ℕ} {u : Nodes} → At (EndedOn b t) k i c u → At (EndedOn b v) k i c u
  at_same n = record { here = row_same n.here; below = each_same n.below }

-- a node that stands, without its end
pub at_row : {b : Board} {t : List ℕ} {k : Kind} {i c : ℕ} {u : Nodes} → At (EndedOn b t) k i c u → At (Row t) k i c u
at_row n = record { here = n.here.row; below = each_map (λ k j c u from to r. r.row) n.below }

-- where no node is marked
pub clear_within : {t : List ℕ} {from to : ℕ} (from' to' : ℕ) → from ≤ from' → to' ≤ to → Clear t from to → Clear t from' to'
clear_within from' to' p q c = record { clear = λ i lo hi. c.clear i (omega arith) (omega arith) }

pub clear_same : {t v : List ℕ} {from to : ℕ} → ((i : ℕ) → from ≤ i → i < to → count_in v i ≡ count_in t i) → Clear t from to → Clear v from to
clear_same f c = record { clear = λ i lo hi. f i lo hi ∙ c.clear i lo hi }

pub clear_none : (t : List ℕ) (i : ℕ) → Clear t i i
clear_none t i = record { clear = λ j lo hi. absurd (omega arith) }

pub clear_join : {t : List ℕ} {from mid to : ℕ} → Clear t from mid → Clear t mid to → Clear t from to
clear_join {t} {from} {mid} {to} c d =
    record {
      clear = λ i lo hi. ⊎_elim (λ e. d.clear i (omega arith) hi) (λ p. c.clear i lo (omega arith)) (eq-zero-or-pos (mid - i));
    }

-- nodes side by side are marked, and no others
pub marked_rows : (n : Nodes) (i : ℕ) (t : List ℕ) → SameRows t (marked n i t)
unfolding marked
marked_rows no_nodes i t = same_self t
marked_rows (node c u a) i t = same_twice (mark_rows t i 1) (marked_rows a (i + 1 + size u) (with_mark t i 1))

pub marked_before : (n : Nodes) (i : ℕ) (t : List ℕ) (j : ℕ) → j < i → count_in (marked n i t) j ≡ count_in t j
unfolding marked
marked_before no_nodes i t j p = refl
marked_before (node c u a) i t j p = marked_before a (i + 1 + size u) (with_mark t i 1) j (omega arith) ∙ mark_elsewhere t i 1 j (λ e. omega arith)

pub marked_after : (n : Nodes) (i : ℕ) (t : List ℕ) (j : ℕ) → i + size n ≤ j → count_in (marked n i t) j ≡ count_in t j
unfolding marked size
marked_after no_nodes i t j p = refl
marked_after (node c u a) i t j p = marked_after a (i + 1 + size u) (with_mark t i 1) j (omega arith) ∙ mark_elsewhere t i 1 j (λ e. omega arith)
