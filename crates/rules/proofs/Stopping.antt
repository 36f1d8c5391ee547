-- C-15: the lists are those of the outcomes, "passed over" in plain words, and judge's outcomes are those looked at and those passed over.
use mathlib.Core.Path.{◌≡◌, refl, sym, ap₂, subst, subst⁻¹}
use Prim.Native.Nat.{ℕ, ◌+◌, ◌<◌}
use native.Mathlib.Omega.{arith}
use mathlib.Core.List.{List, [], ◌∷◌, ◌++◌}
use mathlib.Core.Option.{Option, none, some}
use lib.Dec.{T, eqb, eqb→eq, eqb_refl}
use Rattle.rules.specs.Words.{◌∈◌, at_head, in_tail}
use Rattle.rules.specs.Tree.{Move, Sheet, own_cells}
use Rattle.rules.specs.Passing.{lists, shortest, begins, begins_there, is_passed, looked_at}
use Rattle.rules.specs.Entries.{counts}
use Rattle.rules.specs.Plain.{WellRead}
use Rattle.rules.specs.Stopping.{lines_in, Above, PassedBy, PassedExactly, AllLookedOrPassed}
use Rattle.rules.specs.declared.Counts.{Counts}
use Rattle.rules.proofs.Tests.{both, fst, snd}
use Rattle.rules.proofs.Lists.{any_in, in_any, in_first, in_second}
use Rattle.rules.proofs.LineOrder.{live_moves, live_above, list_within, within_in}
use Rattle.rules.proofs.Looking.{looked_and_passed}
use Rattle.rules.proofs.Shortest.{shortest_is_shortest}
use Rattle.rules.proofs.Refusals.{accepted_reply}

-- of two moves on one line, where lines ascend, one is the other
above_in : (i : ℕ) (ms : List Move) (m : Move) → Above i (lines_in ms) → m ∈ ms → i < m.line
unfolding Above
above_in i [] m a h = elim h [ ]
above_in i (n ∷ ms) m a at_head = a.0
above_in i (n ∷ ms) m a (in_tail h) = omega (arith, a.0, above_in n.line ms m a.1 h)

one_line : (i : ℕ) (ms : List Move) (m n : Move) → Above i (lines_in ms) → m ∈ ms → n ∈ ms → m.line ≡ n.line → m ≡ n
unfolding Above
one_line i [] m n a h g e = elim h [ ]
one_line i (k ∷ ms) m n a at_head at_head e = refl
one_line i (k ∷ ms) m n a at_head (in_tail h) e = absurd (omega (arith, above_in k.line ms n a.1 h))
one_line i (k ∷ ms) m n a (in_tail h) at_head e = absurd (omega (arith, above_in k.line ms m a.1 h))
one_line i (k ∷ ms) m n a (in_tail h) (in_tail g) e = one_line k.line ms m n a.1 h g e

-- so a list begins with the moves that it begins with by their lines
abbrev AllIn : List Move → List Move → Type 0
AllIn ms l = (m : Move) → m ∈ l → m ∈ ms

begins_with : (all : List Move) → Above 1 (lines_in all) → (k l : List Move) → AllIn all k → AllIn all l → T (begins k l) → (r : List Move) × (l ≡ k ++ r)
unfolding begins
begins_with all a [] l f g h = (l, refl)
begins_with all a (m ∷ k) [] f g h = absurd h
begins_with all a (m ∷ k) (n ∷ l) f g h =
    let same : m ≡ n = one_line 1 all m n a (f m at_head) (g n at_head) (eqb→eq m.line n.line (fst (eqb m.line n.line) (begins k l) h)) in
    let r = begins_with all a k l (λ x i. f x (in_tail i)) (λ x i. g x (in_tail i)) (snd (eqb m.line n.line) (begins k l) h) in
    (r.0, ap₂ ◌∷◌ (sym same) r.1)

with_begins : (k r : List Move) → T (begins k (k ++ r))
unfolding begins
with_begins [] r = tt
with_begins (m ∷ k) r = both (eqb m.line m.line) (begins k (k ++ r)) (eqb_refl m.line) (with_begins k r)

-- "passed over" in plain words
module _ (s : Sheet) (r : WellRead s) where
  list_in : (l : List Move) → l ∈ lists s → AllIn (live_moves s) l
  list_in l i m j = within_in (list_within s l i) j

  module _ (smaller later : List (List Move)) (l : List Move) (e : lists s ≡ smaller ++ l ∷ later) where
    is_passed_lem : T (is_passed s.board s.player (own_cells s.set_up) smaller l) → PassedBy s smaller l
    unfolding is_passed begins_there
    is_passed_lem h =
        let found = any_in (λ k. begins_there (shortest s.board s.player (own_cells s.set_up) k) l) smaller h in
        go found.0 found.1 (shortest s.board s.player (own_cells s.set_up) found.0) refl found.2
      where
        go : (other : List Move) → other ∈ smaller → (o : Option (List Move)) → shortest s.board s.player (own_cells s.set_up) other ≡ o → T (begins_there o l) → PassedBy s smaller l
        go other i none q h = absurd h
        go other i (some k) q h =
            let is = (shortest_is_shortest s.board s.player (own_cells s.set_up) other k).0 q in
            let there : AllIn (live_moves s) (k ++ is.rest) = subst (AllIn (live_moves s)) is.is_beginning (list_in other (subst⁻¹ (λ ls. other ∈ ls) e (in_first (l ∷ later) i))) in
            let its = begins_with (live_moves s) (live_above s r) k l (λ m j. there m (in_first is.rest j)) (list_in l (subst⁻¹ (λ ls. l ∈ ls) e (in_second smaller at_head))) h in
            record { other = other; is_smaller = i; beginning = k; is_shortest = is; rest = its.0; begins_so = its.1 }

    passed_is : PassedBy s smaller l → T (is_passed s.board s.player (own_cells s.set_up) smaller l)
    unfolding is_passed begins_there
    passed_is h =
        in_any (λ k. begins_there (shortest s.board s.player (own_cells s.set_up) k) l) h.other smaller h.is_smaller
        (rw ((shortest_is_shortest s.board s.player (own_cells s.set_up) h.other h.beginning).1 h.is_shortest, h.begins_so) (with_begins h.beginning h.rest))

pub passed_exactly : PassedExactly
passed_exactly s r smaller later l e = (is_passed_lem s r smaller later l e, passed_is s r smaller later l e)

-- judge's outcomes
pub all_looked_or_passed : AllLookedOrPassed
unfolding counts
all_looked_or_passed w t n e =
    let a = (accepted_reply w t n).0 e in
    record {
      sheet = a.sheet;
      is_sheet = a.is_sheet;
      all = subst⁻¹ (λ (k : Counts). looked_at a.sheet + k.passed ≡ k.outcomes) a.counts_are (looked_and_passed a.sheet a.is_sheet.fair.read.spells.well);
    }
