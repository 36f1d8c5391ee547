-- The lines of a sheet that reads ascend, without its moves that aren't live too: the moves of each wait stand on lines of their own,
-- and each list of an outcome's moves is in line order.
use mathlib.Core.Path.{◌≡◌, subst⁻¹}
use Prim.Native.Nat.{ℕ, zero, suc, ◌+◌, ◌≤◌, ◌<◌}
use native.Mathlib.Omega.{arith}
use mathlib.Core.Bool.{not}
use mathlib.Core.List.{List, [], ◌∷◌, ◌++◌, map, map-append}
use mathlib.Core.Option.{none}
use lib.Dec.{T, eqb, eqb→eq}
use Rattle.rules.specs.Words.{◌∈◌, at_head, in_tail, among}
use Rattle.rules.specs.Tree.{Waits, no_waits, wait, Moves, no_moves, move, Move, Sheet, moves_of_waits, moves_of_moves, move_count, wait_count}
use Rattle.rules.specs.Live.{Shared, and_this, is_live, living, living_after}
use Rattle.rules.specs.Passing.{lists_of_waits, lists_of_moves, lists, lines_beside, UnlikeWaits, UnlikeMoves}
use Rattle.rules.specs.Plain.{lines_of_waits, lines_of_moves, lines_of, up_from, WellRead}
use Rattle.rules.specs.Stopping.{lines_in, Above, InLineOrder}
use Rattle.rules.proofs.Tests.{false_of, nor, by_cond}
use Rattle.rules.proofs.EachOutcome.{Each, each_out, each_mono, each_append, each_map, each_with}

-- numbers that ascend
above_up : (i j n : ℕ) → i < j → Above i (up_from j n)
unfolding Above up_from
above_up i j zero h = tt
above_up i j (suc n) h = (h, above_up j (suc j) n (omega arith))

above_less : (i j : ℕ) (xs : List ℕ) → i ≤ j → Above j xs → Above i xs
unfolding Above
above_less i j [] h a = tt
above_less i j (x ∷ xs) h a = (omega (arith, a.0), a.1)

above_left : (i : ℕ) (xs ys : List ℕ) → Above i (xs ++ ys) → Above i xs
unfolding Above
above_left i [] ys a = tt
above_left i (x ∷ xs) ys a = (a.0, above_left x xs ys a.1)

above_right : (i : ℕ) (xs ys : List ℕ) → Above i (xs ++ ys) → Above i ys
unfolding Above
above_right i [] ys a = a
above_right i (x ∷ xs) ys a = above_less i x ys (omega (arith, a.0)) (above_right x xs ys a.1)

-- where lines ascend no move stands on the line of another
none_beside : (i j : ℕ) (ms : Moves) → j ≤ i → Above i (lines_of_moves ms) → T (not (among (lines_beside ms) j))
unfolding lines_of_moves lines_beside among Above
none_beside i j no_moves h a = tt
none_beside i j (move line c ws ms) h a =
    nor (eqb j line) (among (lines_beside ms) j)
    (rw (false_of (eqb j line) (λ t. let e : j ≡ line = eqb→eq j line t in omega (arith, a.0))) tt)
    (none_beside line j ms (omega (arith, a.0)) (above_right line (lines_of_waits ws) (lines_of_moves ms) a.1))

mutual
  unfolding lines_of_waits UnlikeWaits Above

  unlike_waits : (i : ℕ) (ws : Waits) → Above i (lines_of_waits ws) → UnlikeWaits ws
  unlike_waits i no_waits a = tt
  unlike_waits i (wait line ms ws) a =
      (unlike_moves line ms (above_left line (lines_of_moves ms) (lines_of_waits ws) a.1), unlike_waits line ws (above_right line (lines_of_moves ms) (lines_of_waits ws) a.1))

  unlike_moves : (i : ℕ) (ms : Moves) → Above i (lines_of_moves ms) → UnlikeMoves ms
  unlike_moves i no_moves a = tt
  unlike_moves i (move line c ws ms) a =
      let later = above_right line (lines_of_waits ws) (lines_of_moves ms) a.1 in
      (none_beside line line ms (omega arith) later, unlike_waits line ws (above_left line (lines_of_waits ws) (lines_of_moves ms) a.1), unlike_moves line ms later)

-- the second list with some left out
pub data Within {A : Type 0} : List A → List A → Type 0 where
  none_in : Within [] []
  left_out : {x : A} {xs ys : List A} → Within xs ys → Within xs (x ∷ ys)
  taken_in : {x : A} {xs ys : List A} → Within xs ys → Within (x ∷ xs) (x ∷ ys)

within_above : (i : ℕ) {xs ys : List ℕ} → Within xs ys → Above i ys → Above i xs
unfolding Above
within_above i none_in a = tt
within_above i (left_out {x} {xs} {ys} w) a = within_above i w (above_less i x ys (omega (arith, a.0)) a.1)
within_above i (taken_in {x} w) a = (a.0, within_above x w a.1)

within_both : {A : Type 0} {xs ys us vs : List A} → Within xs ys → Within us vs → Within (xs ++ us) (ys ++ vs)
within_both none_in v = v
within_both (left_out w) v = left_out (within_both w v)
within_both (taken_in w) v = taken_in (within_both w v)

within_none : {A : Type 0} (ys : List A) → Within [] ys
within_none [] = none_in
within_none (y ∷ ys) = left_out (within_none ys)

within_first : {A : Type 0} {xs ys : List A} (vs : List A) → Within xs ys → Within xs (ys ++ vs)
within_first vs none_in = within_none vs
within_first vs (left_out w) = left_out (within_first vs w)
within_first vs (taken_in w) = taken_in (within_first vs w)

within_second : {A : Type 0} {xs ys : List A} (us : List A) → Within xs ys → Within xs (us ++ ys)
within_second us w = within_both (within_none us) w

within_map : {A B : Type 0} (f : A → B) {xs ys : List A} → Within xs ys → Within (map f xs) (map f ys)
within_map f none_in = none_in
within_map f (left_out w) = left_out (within_map f w)
within_map f (taken_in w) = taken_in (within_map f w)

pub within_in : {A : Type 0} {x : A} {xs ys : List A} → Within xs ys → x ∈ xs → x ∈ ys
within_in none_in i = elim i [ ]
within_in (left_out w) i = in_tail (within_in w i)
within_in (taken_in w) at_head = at_head
within_in (taken_in w) (in_tail i) = in_tail (within_in w i)

-- the lines of the live moves, and of the waits under them, are some of the sheet's
mutual
  unfolding living living_after lines_of_waits lines_of_moves

  living_within : (ws : Waits) → Within (lines_of_waits (living ws)) (lines_of_waits ws)
  living_within no_waits = none_in
  living_within (wait line ms ws) = taken_in (within_both (after_within none ms) (living_within ws))

  after_within : (before : Shared) (ms : Moves) → Within (lines_of_moves (living_after before ms)) (lines_of_moves ms)
  after_within before no_moves = none_in
  after_within before (move line c ws ms) =
      let later = after_within (and_this before c ws) ms in
      by_cond (λ (ns : Moves). Within (lines_of_moves ns) (lines_of_moves (move line c ws ms))) (is_live before c ws) _ _
      (λ l. taken_in (within_both (living_within ws) later))
      (λ d. left_out (within_second (lines_of_waits ws) later))

lines_above : (s : Sheet) → WellRead s → Above 1 (lines_of s)
lines_above s r = subst⁻¹ (Above 1) r.in_order (above_up 1 s.root.line (move_count s + wait_count s) (omega (arith, r.first_line_lem)))

live_lines_above : (s : Sheet) → WellRead s → Above s.root.line (lines_of_waits (living s.root.waits))
unfolding lines_of Above
live_lines_above s r = within_above s.root.line (living_within s.root.waits) (lines_above s r).1

pub unlike_lines : (s : Sheet) → WellRead s → UnlikeWaits (living s.root.waits)
unlike_lines s r = unlike_waits s.root.line (living s.root.waits) (live_lines_above s r)

-- the lines of moves are some of the tree's
mutual
  unfolding moves_of_waits lines_of_waits

  lines_of_waits_lem : (ws : Waits) → Within (lines_in (moves_of_waits ws)) (lines_of_waits ws)
  lines_of_waits_lem no_waits = none_in
  lines_of_waits_lem (wait line ms ws) =
      left_out
      (subst⁻¹ (λ (xs : List ℕ). Within xs (lines_of_moves ms ++ lines_of_waits ws)) (map-append (λ (m : Move). m.line) (moves_of_moves ms) (moves_of_waits ws))
      (within_both (lines_of_moves_lem ms) (lines_of_waits_lem ws)))

  lines_of_moves_lem : (ms : Moves) → Within (lines_in (moves_of_moves ms)) (lines_of_moves ms)
  lines_of_moves_lem no_moves = none_in
  lines_of_moves_lem (move line c ws ms) =
      taken_in
      (subst⁻¹ (λ (xs : List ℕ). Within xs (lines_of_waits ws ++ lines_of_moves ms)) (map-append (λ (m : Move). m.line) (moves_of_waits ws) (moves_of_moves ms))
      (within_both (lines_of_waits_lem ws) (lines_of_moves_lem ms)))

-- the live moves of a sheet, the root first: their lines ascend
unfoldable pub live_moves : Sheet → List Move
live_moves s = s.root ∷ moves_of_waits (living s.root.waits)

pub live_above : (s : Sheet) → WellRead s → Above 1 (lines_in (live_moves s))
unfolding live_moves Above
live_above s r = (omega (arith, r.first_line_lem), within_above s.root.line (lines_of_waits_lem (living s.root.waits)) (live_lines_above s r))

-- and each list of an outcome's moves has some of them
mutual
  unfolding lists_of_waits moves_of_waits

  waits_within : (ws : Waits) → Each (λ l. Within l (moves_of_waits ws)) (lists_of_waits ws)
  waits_within no_waits = (none_in, tt)
  waits_within (wait line ms ws) =
      let all = moves_of_moves ms ++ moves_of_waits ws in
      each_with (λ l. Within l all) (lists_of_moves ms) (lists_of_waits ws)
      (each_mono (λ k. Within k (moves_of_moves ms)) (λ k. Each (λ l. Within (k ++ l) all) (lists_of_waits ws))
      (λ k v. each_mono (λ l. Within l (moves_of_waits ws)) (λ l. Within (k ++ l) all) (λ l w. within_both v w) (lists_of_waits ws) (waits_within ws))
      (lists_of_moves ms) (moves_within ms))

  moves_within : (ms : Moves) → Each (λ l. Within l (moves_of_moves ms)) (lists_of_moves ms)
  moves_within no_moves = tt
  moves_within (move line c ws ms) =
      let m : Move = record { line = line; cell = c; waits = ws } in
      let all = moves_of_moves (move line c ws ms) in
      each_append (λ l. Within l all) (map (λ l. m ∷ l) (lists_of_waits ws)) (lists_of_moves ms)
      (each_map (λ l. Within l all) (λ l. m ∷ l) (lists_of_waits ws)
      (each_mono (λ l. Within l (moves_of_waits ws)) (λ l. Within (m ∷ l) all) (λ l w. taken_in (within_first (moves_of_moves ms) w)) (lists_of_waits ws) (waits_within ws)))
      (each_mono (λ l. Within l (moves_of_moves ms)) (λ l. Within l all) (λ l w. left_out (within_second (moves_of_waits ws) w)) (lists_of_moves ms) (moves_within ms))

pub list_within : (s : Sheet) (l : List Move) → l ∈ lists s → Within l (live_moves s)
unfolding lists live_moves
list_within s =
    let live = living s.root.waits in
    let all = s.root ∷ moves_of_waits live in
    each_out (λ l. Within l all) (lists s)
    (each_map (λ l. Within l all) (λ l. s.root ∷ l) (lists_of_waits live)
    (each_mono (λ l. Within l (moves_of_waits live)) (λ l. Within (s.root ∷ l) all) (λ l w. taken_in w) (lists_of_waits live) (waits_within live)))

-- C-15: an outcome's moves are listed in line order
pub in_line_order : InLineOrder
in_line_order s r l i = within_above 1 (within_map (λ (m : Move). m.line) (list_within s l i)) (live_above s r)
