-- What playing a list of moves answers is one reply, one table and one room: no two are allowed.
use mathlib.Core.Path.{◌≡◌, sym, ◌∙◌, subst}
use mathlib.Core.Logic.{⊎_elim}
use Prim.Native.Nat.{ℕ, zero, suc, ◌+◌, ◌-◌, ◌*◌, ◌/◌, ◌%◌, ◌<◌, ◌≤◌}
use native.Mathlib.Nat.{eq-zero-or-pos, div-add-mod', mod-lt}
use native.Mathlib.Omega.{arith}
use mathlib.Core.List.{List}
use lib.ListN.{get_or}
use lib.Seq.{ext_get_or}
use Rattle.rules.specs.Tree.{Waits, no_waits, wait, Sheet}
use Rattle.rules.specs.declared.Board.{Board}
use Rattle.nodes.specs.Nodes.{size, nodes_of_moves}
use Rattle.nodes.specs.Table.{end_in, count_in}
use Rattle.answering.specs.Rows.{SameRows, Remarked, Clear}
use Rattle.answering.specs.Marks.{OpenWait, Open, none_open, open_at, Opens}
use Rattle.answering.specs.Playing.{PlaysMoves}
use Rattle.std.specs.Prelude.{Result}
use Rattle.answering.specs.declared.PlayedOut.{PlayedOut}
use Rattle.answering.specs.declared.Stopped.{Stopped}
use Rattle.answering.proofs.Rows.{same_back, same_twice}

-- two tables are the same where their numbers are, node by node
pub same_tables : (t v : List ℕ) → SameRows t v → ((i : ℕ) → count_in v i ≡ count_in t i) → v ≡ t
same_tables t v s f = ext_get_or 0 v t s.long (λ m h. subst (λ (k : ℕ). get_or v k 0 ≡ get_or t k 0) (div-add-mod' m 4) (by_rest (m / 4) (m % 4) (mod-lt m (omega arith))))
  where
    by_rest : (i r : ℕ) → r < 4 → get_or v (i * 4 + r) 0 ≡ get_or t (i * 4 + r) 0
    by_rest i zero h = let e : i * 4 + zero ≡ 4 * i = omega arith in rw e (s.cell i)
    by_rest i (suc zero) h = let e : i * 4 + suc zero ≡ 4 * i + 1 = omega arith in rw e (s.under i)
    by_rest i (suc (suc zero)) h = let e : i * 4 + suc (suc zero) ≡ 4 * i + 2 = omega arith in rw e (s.end i)
    by_rest i (suc (suc (suc zero))) h = let e : i * 4 + suc (suc (suc zero)) ≡ 4 * i + 3 = omega arith in rw e (f i)
    by_rest i (suc (suc (suc (suc r)))) h = absurd (omega arith)

-- the marks are those of the open waits
same_marks : {n₁ : ℕ} {b : Board} {t v : List ℕ} {n i : ℕ} (ws : Waits) → Open n₁ b t n i ws → Open n₁ b v n i ws → (m : ℕ) → i ≤ m → m < n → count_in v m ≡ count_in t m
same_marks no_waits (none_open q c) (none_open p d) m lo hi = d.clear m lo hi ∙ sym (c.clear m lo hi)
same_marks {n₁} {b} {t} {v} {n} {i} (wait line ms ws) (open_at j q c o r) (open_at k p d u w) m lo hi =
    let e : k ≡ j = omega (arith, o.line_is, u.line_is) in
    go (subst (λ (z : ℕ). Clear v i z) e d) (subst (λ (z : ℕ). OpenWait n₁ b v z line ms) e u)
    (λ h. same_marks {i = j + 1 + size (nodes_of_moves ms)} ws r (subst (λ (z : ℕ). Open n₁ b v n (z + 1 + size (nodes_of_moves ms)) ws) e w) m h hi)
  where
    go : Clear v i j → OpenWait n₁ b v j line ms → (j + 1 + size (nodes_of_moves ms) ≤ m → count_in v m ≡ count_in t m) → count_in v m ≡ count_in t m
    go d u later =
        ⊎_elim
        (λ z. later (omega arith))
        (λ z.
        ⊎_elim
        (λ y.
        ⊎_elim
        (λ a. let f : m ≡ j = omega arith in rw f (u.mark ∙ sym o.mark))
        (λ a. u.clear.clear m (omega arith) (omega arith) ∙ sym (o.clear.clear m (omega arith) (omega arith)))
        (eq-zero-or-pos (m - j)))
        (λ y. d.clear m lo (omega arith) ∙ sym (c.clear m lo (omega arith)))
        (eq-zero-or-pos (j - m)))
        (eq-zero-or-pos (j + 1 + size (nodes_of_moves ms) - m))

pub record OneReply (r r₂ : Result PlayedOut Stopped) (t t₂ room room₂ : List ℕ) : Type 0 where
  pub same_reply : r ≡ r₂
  pub same_table : t ≡ t₂
  pub same_room : room ≡ room₂

-- two tables with the same open waits, of which each is one table remarked
same_open : {n₁ : ℕ} {b : Board} {t u v : List ℕ} {ws : Waits} → Remarked t u → Remarked t v → Opens n₁ b u ws → Opens n₁ b v ws → v ≡ u
same_open {n₁} {b} {t} {u} {v} {ws} p q o w = same_tables u v (same_twice (same_back p.rows) q.rows) (λ i. ⊎_elim (first i) (λ h. ⊎_elim (λ z. past i (omega arith)) (λ z. inside i h (omega arith)) (eq-zero-or-pos (end_in t 0 - i))) (eq-zero-or-pos i))
  where
    first : (i : ℕ) → i ≡ 0 → count_in v i ≡ count_in u i
    first i e = rw e (w.root ∙ sym o.root)

    past : (i : ℕ) → end_in t 0 ≤ i → count_in v i ≡ count_in u i
    past i h = q.later i h ∙ sym (p.later i h)

    inside : (i : ℕ) → 1 ≤ i → i < end_in t 0 → count_in v i ≡ count_in u i
    inside i lo hi =
        let e : end_in v 0 ≡ end_in u 0 = q.rows.end 0 ∙ sym (p.rows.end 0) in
        same_marks ws o.marks (subst (λ (n : ℕ). Open n₁ b v n 1 ws) e w.marks) i lo (omega (arith, p.rows.end 0))

pub one_reply : {s : Sheet} {t moves room : List ℕ} {r r₂ : Result PlayedOut Stopped} {t' t₂ room' room₂ : List ℕ}
    → PlaysMoves s t moves room r t' room' → PlaysMoves s t moves room r₂ t₂ room₂ → OneReply r r₂ t' t₂ room' room₂
one_reply p q =
    record {
      same_reply = p.reply ∙ sym q.reply;
      same_table = sym (same_open p.rows q.rows p.open_waits q.open_waits);
      same_room = p.answers ∙ sym q.answers;
    }
