-- The tree without the moves that aren't live: its outcomes are outcomes of the whole tree, its moves have cells of moves that were
-- there, each of its waits has a move, and where every move is live it is the whole tree. How many the others are.
use mathlib.Core.Path.{◌≡◌, refl, ap₂}
use mathlib.Core.List.{List, [], ◌∷◌, ◌++◌, map}
use mathlib.Core.Bool.{Bool, true, false, not}
use mathlib.Core.Logic.{◌≢◌, ⊎_elim}
use mathlib.Core.Option.{none}
use Prim.Native.Nat.{ℕ, ◌+◌, ◌≤◌}
use native.Mathlib.Nat.{mul-le-mul}
use native.Mathlib.Omega.{arith}
use lib.ListN.{length, length-append}
use Rattle.rules.specs.Words.{◌∈◌, at_head, in_tail, total, one_if}
use Rattle.rules.specs.Tree.{Waits, no_waits, wait, Moves, no_moves, move, Wait, Move, Sheet, stone, moves_of_waits, moves_of_moves, waits_of_waits, waits_of_moves, every_move, every_wait, move_count}
use Rattle.rules.specs.Live.{Shared, and_this, is_live, living, living_after, idle_under, idle_at, idle_count}
use Rattle.rules.specs.Outcomes.{outcomes_of_waits, outcomes_of_moves, count_of_waits, count_of_moves}
use Rattle.rules.proofs.Tests.{by_cond, one_yes}
use Rattle.rules.proofs.EachOutcome.{Each, each_mono, each_append, each_front, each_back, each_map, each_unmap, each_with, each_without}
use Rattle.rules.proofs.Lists.{in_both, in_first, in_second, all_cons, nothing_in}
use Rattle.rules.proofs.Live.{a_move}

-- what each outcome over all moves has, each outcome over live moves has
mutual
  unfolding living living_after outcomes_of_waits outcomes_of_moves

  pub each_living : (K : List ℕ → Type 0) (ws : Waits) → Each K (outcomes_of_waits ws) → Each K (outcomes_of_waits (living ws))
  each_living K no_waits h = h
  each_living K (wait line ms ws) h =
      each_with K (outcomes_of_moves (living_after none ms)) (outcomes_of_waits (living ws))
      (each_living_after (λ a. Each (λ b. K (a ++ b)) (outcomes_of_waits (living ws))) none ms
      (each_mono (λ a. Each (λ b. K (a ++ b)) (outcomes_of_waits ws)) (λ a. Each (λ b. K (a ++ b)) (outcomes_of_waits (living ws)))
      (λ a. each_living (λ b. K (a ++ b)) ws) (outcomes_of_moves ms)
      (each_without K (outcomes_of_moves ms) (outcomes_of_waits ws) h)))

  each_living_after : (K : List ℕ → Type 0) (before : Shared) (ms : Moves) → Each K (outcomes_of_moves ms) → Each K (outcomes_of_moves (living_after before ms))
  each_living_after K before no_moves h = h
  each_living_after K before (move line c ws ms) h =
      let here = map (λ o. stone c ++ o) (outcomes_of_waits ws) in
      let later = each_living_after K (and_this before c ws) ms (each_back K here (outcomes_of_moves ms) h) in
      by_cond (λ (ns : Moves). Each K (outcomes_of_moves ns)) (is_live before c ws) _ _
      (λ l.
      each_append K (map (λ o. stone c ++ o) (outcomes_of_waits (living ws))) (outcomes_of_moves (living_after (and_this before c ws) ms))
      (each_map K (λ o. stone c ++ o) (outcomes_of_waits (living ws))
      (each_living (λ o. K (stone c ++ o)) ws (each_unmap K (λ o. stone c ++ o) (outcomes_of_waits ws) (each_front K here (outcomes_of_moves ms) h))))
      later)
      (λ d. later)

-- there are no more of them
mutual
  unfolding living living_after count_of_waits count_of_moves

  pub fewer_living : (ws : Waits) → count_of_waits (living ws) ≤ count_of_waits ws
  fewer_living no_waits = omega arith
  fewer_living (wait line ms ws) = mul-le-mul (fewer_after none ms) (fewer_living ws)

  fewer_after : (before : Shared) (ms : Moves) → count_of_moves (living_after before ms) ≤ count_of_moves ms
  fewer_after before no_moves = omega arith
  fewer_after before (move line c ws ms) =
      let later = fewer_after (and_this before c ws) ms in
      by_cond (λ (ns : Moves). count_of_moves ns ≤ count_of_waits ws + count_of_moves ms) (is_live before c ws) _ _
      (λ l. omega (arith, fewer_living ws, later))
      (λ d. omega (arith, later))

-- its moves have cells of moves that were there
module _ (P : ℕ → Type 0) where
  mutual
    unfolding living living_after moves_of_waits

    pub living_cells : (ws : Waits) → ((m : Move) → m ∈ moves_of_waits ws → P m.cell) → (m : Move) → m ∈ moves_of_waits (living ws) → P m.cell
    living_cells no_waits f m i = absurd (nothing_in i)
    living_cells (wait line ms ws) f m i =
        ⊎_elim
        (λ h. living_cells_after none ms (λ n k. f n (in_first (moves_of_waits ws) k)) m h)
        (λ h. living_cells ws (λ n k. f n (in_second (moves_of_moves ms) k)) m h)
        (in_both (moves_of_moves (living_after none ms)) (moves_of_waits (living ws)) i)

    living_cells_after : (before : Shared) (ms : Moves) → ((m : Move) → m ∈ moves_of_moves ms → P m.cell) → (m : Move)
        → m ∈ moves_of_moves (living_after before ms) → P m.cell
    living_cells_after before no_moves f m i = absurd (nothing_in i)
    living_cells_after before (move line c ws ms) f m i =
        let rest = living_after (and_this before c ws) ms in
        let later : (v : Move) → v ∈ moves_of_moves rest → P v.cell =
        λ v h. living_cells_after (and_this before c ws) ms (λ n k. f n (in_tail (in_second (moves_of_waits ws) k))) v h in
        by_cond (λ (ns : Moves). m ∈ moves_of_moves ns → P m.cell) (is_live before c ws) _ _
        (λ l.
        all_cons (λ n. P n.cell) (record { line = line; cell = c; waits = living ws }) (moves_of_waits (living ws) ++ moves_of_moves rest)
        (f (record { line = line; cell = c; waits = ws }) at_head)
        (λ n k.
        ⊎_elim (λ h. living_cells ws (λ v j. f v (in_tail (in_first (moves_of_moves ms) j))) n h) (later n)
        (in_both (moves_of_waits (living ws)) (moves_of_moves rest) k))
        m)
        (λ d. later m)
        i

-- each of its waits has a move: the first is live
living_first : (ms : Moves) → ms ≢ no_moves → living_after none ms ≢ no_moves
unfolding living_after is_live
living_first no_moves f e = f refl
living_first (move line c ws ms) f e = a_move line c (living ws) (living_after (and_this none c ws) ms) e

mutual
  unfolding living living_after waits_of_waits

  pub living_some : (ws : Waits) → ((w : Wait) → w ∈ waits_of_waits ws → w.moves ≢ no_moves) → (w : Wait) → w ∈ waits_of_waits (living ws) → w.moves ≢ no_moves
  living_some no_waits f w i = absurd (nothing_in i)
  living_some (wait line ms ws) f w i =
      all_cons (λ v. v.moves ≢ no_moves) (record { line = line; moves = living_after none ms }) (waits_of_moves (living_after none ms) ++ waits_of_waits (living ws))
      (living_first ms (f (record { line = line; moves = ms }) at_head))
      (λ v k.
      ⊎_elim
      (λ h. living_some_after none ms (λ n j. f n (in_tail (in_first (waits_of_waits ws) j))) v h)
      (λ h. living_some ws (λ n j. f n (in_tail (in_second (waits_of_moves ms) j))) v h)
      (in_both (waits_of_moves (living_after none ms)) (waits_of_waits (living ws)) k))
      w i

  living_some_after : (before : Shared) (ms : Moves) → ((w : Wait) → w ∈ waits_of_moves ms → w.moves ≢ no_moves) → (w : Wait)
      → w ∈ waits_of_moves (living_after before ms) → w.moves ≢ no_moves
  living_some_after before no_moves f w i = absurd (nothing_in i)
  living_some_after before (move line c ws ms) f w i =
      let rest = living_after (and_this before c ws) ms in
      let later : w ∈ waits_of_moves rest → w.moves ≢ no_moves = λ h. living_some_after (and_this before c ws) ms (λ n k. f n (in_second (waits_of_waits ws) k)) w h in
      by_cond (λ (ns : Moves). w ∈ waits_of_moves ns → w.moves ≢ no_moves) (is_live before c ws) _ _
      (λ l k. ⊎_elim (λ h. living_some ws (λ n j. f n (in_first (waits_of_moves ms) j)) w h) later (in_both (waits_of_waits (living ws)) (waits_of_moves rest) k))
      (λ d. later)
      i

-- sums over two lists
pub total_append : {A : Type 0} (f : A → ℕ) (xs ys : List A) → total f (xs ++ ys) ≡ total f xs + total f ys
unfolding total
total_append f [] ys = omega arith
total_append f (x ∷ xs) ys = omega (arith, total_append f xs ys)

-- where every move is live it is the whole tree
mutual
  unfolding living living_after waits_of_waits waits_of_moves idle_under total

  all_live : (ws : Waits) → total idle_at (waits_of_waits ws) ≡ 0 → living ws ≡ ws
  all_live no_waits h = refl
  all_live (wait line ms ws) h =
      let sum = total_append idle_at (waits_of_moves ms) (waits_of_waits ws) in
      ap₂ (wait line) (all_live_after none ms (omega (arith, sum)) (omega (arith, sum))) (all_live ws (omega (arith, sum)))

  all_live_after : (before : Shared) (ms : Moves) → idle_under before ms ≡ 0 → total idle_at (waits_of_moves ms) ≡ 0 → living_after before ms ≡ ms
  all_live_after before no_moves h k = refl
  all_live_after before (move line c ws ms) h k =
      let sum = total_append idle_at (waits_of_waits ws) (waits_of_moves ms) in
      by_cond (λ (ns : Moves). ns ≡ move line c ws ms) (is_live before c ws) _ _
      (λ l. ap₂ (move line c) (all_live ws (omega (arith, sum))) (all_live_after (and_this before c ws) ms (omega arith) (omega (arith, sum))))
      (λ d. absurd (omega (arith, one_yes (not (is_live before c ws)) d)))

pub none_idle : (s : Sheet) → idle_count s ≡ 0 → living s.root.waits ≡ s.root.waits
unfolding idle_count every_wait
none_idle s h = all_live s.root.waits h

-- no more moves aren't live than there are moves
pub one_at_most : (b : Bool) → one_if b ≤ 1
unfolding one_if
one_at_most true = omega arith
one_at_most false = omega arith

mutual
  unfolding waits_of_waits waits_of_moves moves_of_waits moves_of_moves idle_under total

  idle_waits : (ws : Waits) → total idle_at (waits_of_waits ws) ≤ length (moves_of_waits ws)
  idle_waits no_waits = omega arith
  idle_waits (wait line ms ws) =
      omega (arith, total_append idle_at (waits_of_moves ms) (waits_of_waits ws), idle_moves none ms, idle_waits ws, length-append (moves_of_moves ms) (moves_of_waits ws))

  idle_moves : (before : Shared) (ms : Moves) → idle_under before ms + total idle_at (waits_of_moves ms) ≤ length (moves_of_moves ms)
  idle_moves before no_moves = omega arith
  idle_moves before (move line c ws ms) =
      omega (
        arith,
        total_append idle_at (waits_of_waits ws) (waits_of_moves ms),
        idle_waits ws,
        idle_moves (and_this before c ws) ms,
        length-append (moves_of_waits ws) (moves_of_moves ms),
        one_at_most (not (is_live before c ws)),
      )

pub idle_few : (s : Sheet) → idle_count s ≤ move_count s
unfolding idle_count move_count every_wait every_move
idle_few s = omega (arith, idle_waits s.root.waits)
