-- The cells common to all moves before: whether one more move is live, what is common with it, and the smallest.
use mathlib.Core.Path.{◌≡◌, refl, sym, ◌∙◌, subst, subst⁻¹}
use mathlib.Core.Bool.{Bool, true, false, not, ◌&&◌}
use mathlib.Core.Logic.{⊎_elim}
use mathlib.Core.List.{List}
use mathlib.Core.Option.{some}
use Prim.Native.Nat.{ℕ, ◌≤◌}
use native.Mathlib.Nat.{eq-zero-or-pos}
use native.Mathlib.Omega.{arith}
use lib.Dec.{T, not_T, T_not}
use Rattle.rules.specs.declared.Board.{Board}
use Rattle.rules.specs.Words.{among, keep, any, one_if}
use Rattle.rules.specs.Board.{smallest}
use Rattle.rules.specs.Tree.{Waits, Moves, no_moves, move}
use Rattle.rules.specs.Fair.{in_move}
use Rattle.rules.specs.Live.{Shared, and_this, is_live, living_after, idle_under}
use Rattle.rules.proofs.Tests.{false_of, same_test, decide, both, fst, snd}
use Rattle.rules.proofs.Lists.{keep_in, in_keep, any_some, some_any}
use Rattle.rules.proofs.Live.{move_listed, in_all_before}
use Rattle.rules.proofs.Smallest.{smallest_zero}
use Rattle.rules.proofs.Places.{cell_range}
use Rattle.cells.specs.Cells.{held, some_beyond}
use Rattle.cells.specs.declared.Cells.{Cells}
use Rattle.cells.proofs.Held.{held_cell}
use Rattle.cells.proofs.Beyond.{beyond_some, some_beyond_lem}
use Rattle.cells.proofs.Smallest.{smallest_same}
use Rattle.nodes.specs.Nodes.{many, nodes_of_moves}
use Rattle.live.specs.Looking.{CommonIs, no_move, left, spent, MoveTold, LeastAny}
use Rattle.live.specs.declared.Common.{Common}
use Rattle.live.specs.declared.Common.TheVariants.{NoMove, Left, Spent}

-- what is listed is at least 1 where 0 is not
listed_pos : (xs : List ℕ) (x : ℕ) → (T (among xs 0) → ⊥) → T (among xs x) → 1 ≤ x
listed_pos xs x z h = ⊎_elim (λ e. absurd (z (subst (λ (y : ℕ). T (among xs y)) e h))) (λ p. p) (eq-zero-or-pos x)

-- a move's cells are those of a set, and 0 is none of them
pub record CellsAre (b : Board) (rows : List ℕ) (c : ℕ) (ws : Waits) : Type 0 where
  pub same : (x : ℕ) → 1 ≤ x → held b rows x ≡ in_move c ws x
  pub no_zero : T (in_move c ws 0) → ⊥

-- what is common, once it is known which case it is
pub now : {b : Board} {z z' : Common} {before : Shared} → z ≡ z' → CommonIs b z before → CommonIs b z' before
now {b} {before = before} e h = subst (λ z. CommonIs b z before) e h

-- and what was common stays
pub still : {b : Board} {z z' : Common} {before : Shared} {c : ℕ} {ws : Waits} → z ≡ z'
    → (CommonIs b z' before → MoveTold b before c ws z' false) → CommonIs b z before → MoveTold b before c ws z false
still {b} {before = before} {c = c} {ws = ws} e f h = subst⁻¹ (λ z. MoveTold b before c ws z false) e (f (now e h))

-- the first move is live, and its cells are common
pub told_first : {b : Board} (own : Cells) (before : Shared) (c : ℕ) (ws : Waits) → CommonIs b NoMove before → CellsAre b own.rows c ws → MoveTold b before c ws (Left own) true
unfolding is_live and_this
told_first own _ c ws no_move k =
    record { live_is = refl; common_is = left (λ x p. k.same x p ∙ sym (move_listed c ws x)) (λ m. k.no_zero (subst T (move_listed c ws 0) m)) }

-- a move that isn't live has all common cells, so they stay
idle_still : (xs : List ℕ) (c : ℕ) (ws : Waits) → is_live (some xs) c ws ≡ false → (x : ℕ) → among xs x ≡ among (keep (in_move c ws) xs) x
unfolding is_live
idle_still xs c ws e x = same_test (among xs x) (among (keep (in_move c ws) xs) x) (λ m. in_keep (in_move c ws) x xs (is_in m) m) (λ m. (keep_in (in_move c ws) x xs m).0)
  where
    is_in : T (among xs x) → T (in_move c ws x)
    is_in m = ⊎_elim (λ i. i) (λ o. absurd (subst T e (some_any (λ y. not (in_move c ws y)) x xs m o))) (decide (in_move c ws x))

-- a later one is live if a common cell isn't in it
module _ {b : Board} (cells own : Cells) (c : ℕ) (ws : Waits) (k : CellsAre b own.rows c ws) where
  beyond_live : (xs : List ℕ) → ((x : ℕ) → 1 ≤ x → held b cells.rows x ≡ among xs x) → (T (among xs 0) → ⊥) → some_beyond b cells.rows own.rows ≡ is_live (some xs) c ws
  unfolding is_live
  beyond_live xs same no_zero = same_test (some_beyond b cells.rows own.rows) (any (λ x. not (in_move c ws x)) xs) there back
    where
      there : T (some_beyond b cells.rows own.rows) → T (any (λ x. not (in_move c ws x)) xs)
      there p =
          let d = beyond_some b cells.rows own.rows p in
          let x = d.0 in
          let pos = (cell_range b x (held_cell b cells.rows x d.1)).0 in
          some_any (λ y. not (in_move c ws y)) x xs (subst T (same x pos) d.1) (not_T (in_move c ws x) (λ i. d.2 (subst⁻¹ T (k.same x pos) i)))

      back : T (any (λ x. not (in_move c ws x)) xs) → T (some_beyond b cells.rows own.rows)
      back p =
          let d = any_some (λ y. not (in_move c ws y)) xs p in
          let x = d.0 in
          let pos = listed_pos xs x no_zero d.1 in
          some_beyond_lem b cells.rows own.rows x (subst⁻¹ T (same x pos) d.1) (λ i. T_not (in_move c ws x) d.2 (subst T (k.same x pos) i))

  pub told_idle : {r : Bool} → r ≡ some_beyond b cells.rows own.rows → r ≡ false → (before : Shared) → CommonIs b (Left cells) before → MoveTold b before c ws (Left cells) false
  unfolding and_this
  told_idle is gone _ (left {xs = xs} same no_zero) =
      let idle = sym gone ∙ is ∙ beyond_live xs same no_zero in
      let stay = idle_still xs c ws (sym idle) in
      record { live_is = idle; common_is = left (λ x p. same x p ∙ stay x) (λ m. no_zero (subst⁻¹ T (stay 0) m)) }

  -- then those that it has too are common
  module _ (more : Cells) {r : Bool} (is : r ≡ some_beyond b cells.rows own.rows) (it-is : r ≡ true)
      (both-are : (x : ℕ) → held b more.rows x ≡ (held b cells.rows x && held b own.rows x)) where
    both_same : (xs : List ℕ) → ((x : ℕ) → 1 ≤ x → held b cells.rows x ≡ among xs x) → (x : ℕ) → 1 ≤ x → held b more.rows x ≡ among (keep (in_move c ws) xs) x
    both_same xs same x p =
        same_test (held b more.rows x) (among (keep (in_move c ws) xs) x)
        (λ m.
        let f = subst T (both-are x) m in
        in_keep (in_move c ws) x xs (subst T (k.same x p) (snd (held b cells.rows x) (held b own.rows x) f)) (subst T (same x p) (fst (held b cells.rows x) (held b own.rows x) f)))
        (λ m.
        let f = keep_in (in_move c ws) x xs m in
        subst⁻¹ T (both-are x) (both (held b cells.rows x) (held b own.rows x) (subst⁻¹ T (same x p) f.0) (subst⁻¹ T (k.same x p) f.1)))

    pub told_live : (before : Shared) → CommonIs b (Left cells) before → MoveTold b before c ws (Left more) true
    unfolding and_this
    told_live _ (left {xs = xs} same no_zero) =
        record {
          live_is = sym it-is ∙ is ∙ beyond_live xs same no_zero;
          common_is = left (both_same xs same) (λ m. no_zero (keep_in (in_move c ws) 0 xs m).0);
        }

    -- and none is left where they exceed no empty set
    pub told_last : (empty : List ℕ) → ((x : ℕ) → held b empty x ≡ false) → {l : Bool} → l ≡ some_beyond b more.rows empty → l ≡ false
        → (before : Shared) → CommonIs b (Left cells) before → MoveTold b before c ws Spent true
    unfolding and_this
    told_last empty none-there {l} left-is gone _ (left {xs = xs} same no_zero) =
        record {
          live_is = sym it-is ∙ is ∙ beyond_live xs same no_zero;
          common_is = spent (λ x m.
              let pos = listed_pos xs x no_zero (keep_in (in_move c ws) x xs m).0 in
              let some = some_beyond_lem b more.rows empty x (subst⁻¹ T (both_same xs same x pos) m) (λ i. subst T (none-there x) i) in
              subst T (sym left-is ∙ gone) some);
        }

-- where none is left, no further move is live
spent_idle : (xs : List ℕ) → ((x : ℕ) → T (among xs x) → ⊥) → (c : ℕ) (ws : Waits) → is_live (some xs) c ws ≡ false
unfolding is_live
spent_idle xs none_left c ws = false_of _ (λ l. let d = any_some (λ y. not (in_move c ws y)) xs l in none_left d.0 d.1)

pub told_spent : {b : Board} (before : Shared) (c : ℕ) (ws : Waits) → CommonIs b Spent before → MoveTold b before c ws Spent false
unfolding and_this
told_spent _ c ws (spent {xs} none_left) =
    record { live_is = sym (spent_idle xs none_left c ws); common_is = spent (λ x m. none_left x (keep_in (in_move c ws) x xs m).0) }

all_spent : (xs : List ℕ) → ((x : ℕ) → T (among xs x) → ⊥) → (ms : Moves) → (living_after (some xs) ms ≡ no_moves) × (idle_under (some xs) ms ≡ many (nodes_of_moves ms))
unfolding living_after idle_under and_this many nodes_of_moves one_if
all_spent xs none_left no_moves = (refl, refl)
all_spent xs none_left (move line c ws ms) =
    let idle = spent_idle xs none_left c ws in
    let rest = all_spent (keep (in_move c ws) xs) (λ x m. none_left x (keep_in (in_move c ws) x xs m).0) ms in
    (rw idle rest.0, rw idle (omega (arith, rest.1)))

pub spent_all : {b : Board} (before : Shared) → CommonIs b Spent before → (ms : Moves) → (living_after before ms ≡ no_moves) × (idle_under before ms ≡ many (nodes_of_moves ms))
spent_all _ (spent {xs} none_left) ms = all_spent xs none_left ms

-- where none is left, none is common
pub spent_none : {b : Board} (before : Shared) → CommonIs b Spent before → (x : ℕ) → in_all_before before x ≡ false
spent_none _ (spent {xs} none_left) x = false_of (among xs x) (none_left x)

-- the smallest of them: 0 where none is left, else that of the set
pub least_spent : {b : Board} {z : Common} → ((cells : Cells) → z ≡ Left cells → ⊥) → LeastAny b z 0
least_spent n xs (left {cells = cells} same no_zero) = absurd (n cells refl)
least_spent {b} n xs (spent none_left) = sym (smallest_zero b (among xs) (λ x c m. none_left x m))

pub least_left : {b : Board} {z : Common} (cells : Cells) → z ≡ Left cells → {r : ℕ} → r ≡ smallest b (held b cells.rows) → LeastAny b z r
least_left {b} cells is {r} e xs h = go (now is h)
  where
    go : CommonIs b (Left cells) (some xs) → r ≡ smallest b (among xs)
    go (left same no_zero) = e ∙ smallest_same b (held b cells.rows) (among xs) (λ x c. same x (cell_range b x c).0)
