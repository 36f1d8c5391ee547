-- What a choice does to the open waits of a fair tree.
use mathlib.Core.Path.{◌≡◌, refl}
use mathlib.Core.Bool.{not}
use mathlib.Core.Logic.{⊎_elim}
use Prim.Native.Nat.{ℕ, suc, ◌+◌, ◌≤◌}
use native.Mathlib.Omega.{arith}
use lib.Dec.{T, eqb, eqb_refl, not_T, T_not}
use lib.ListN.{length, length-append}
use Rattle.rules.specs.Words.{one_if}
use Rattle.rules.specs.Tree.{Waits, no_waits, wait, Moves, no_moves, move, waits_of_waits, waits_of_moves, and_then}
use Rattle.rules.specs.Fair.{in_waits, in_moves, in_move, holding, in_every}
use Rattle.rules.specs.Choice.{the_first, one_later, PlaceIn, cell_there, waits_there, Choice, taken, opened}
use Rattle.rules.specs.Holder.{wait_holds, move_holds}
use Rattle.rules.proofs.Tests.{decide, left, right, cases, nor_left, nor_right, one_yes, one_no}

-- apart and elusive for every number, here and below
pub record Apart (c : ℕ) (ws : Waits) : Type 0 where
  pub own : T (not (in_waits ws c))
  pub once : (x : ℕ) → holding ws x ≤ 1

abbrev pub Elusive : Moves → Type 0
Elusive ms = (x : ℕ) → T (not (in_every ms x))

unfoldable mutual
  pub FairWaits : Waits → Type 0
  FairWaits no_waits = Unit {0}
  FairWaits (wait line ms ws) = Elusive ms × FairMoves ms × FairWaits ws

  pub FairMoves : Moves → Type 0
  FairMoves no_moves = Unit {0}
  FairMoves (move line c ws ms) = Apart c ws × FairWaits ws × FairMoves ms

-- how many waits there are, here and below
unfoldable mutual
  pub waits_in : Waits → ℕ
  waits_in no_waits = 0
  waits_in (wait line ms ws) = suc (waits_under ms + waits_in ws)

  pub waits_under : Moves → ℕ
  waits_under no_moves = 0
  waits_under (move line c ws ms) = waits_in ws + waits_under ms

mutual
  unfolding waits_in waits_of_waits

  pub waits_counted : (ws : Waits) → length (waits_of_waits ws) ≡ waits_in ws
  waits_counted no_waits = refl
  waits_counted (wait line ms ws) = omega (arith, length-append (waits_of_moves ms) (waits_of_waits ws), waits_under_lem ms, waits_counted ws)

  waits_under_lem : (ms : Moves) → length (waits_of_moves ms) ≡ waits_under ms
  waits_under_lem no_moves = refl
  waits_under_lem (move line c ws ms) = omega (arith, length-append (waits_of_waits ws) (waits_of_moves ms), waits_counted ws, waits_under_lem ms)

-- cells and counts
pub in_hold : (x : ℕ) (ws : Waits) → T (in_waits ws x) → 1 ≤ holding ws x
unfolding in_waits holding
in_hold x no_waits h = absurd h
in_hold x (wait line ms ws) h =
    ⊎_elim
    (λ a. omega (arith, one_yes (in_moves ms x) a))
    (λ b. omega (arith, in_hold x ws b))
    (cases (in_moves ms x) (in_waits ws x) h)

pub out_hold : (x : ℕ) (ws : Waits) → T (not (in_waits ws x)) → holding ws x ≡ 0
unfolding in_waits holding
out_hold x no_waits h = refl
out_hold x (wait line ms ws) h =
    omega (arith, one_no (in_moves ms x) (nor_left (in_moves ms x) (in_waits ws x) h), out_hold x ws (nor_right (in_moves ms x) (in_waits ws x) h))

pub hold_in : (x : ℕ) (ws : Waits) → 1 ≤ holding ws x → T (in_waits ws x)
hold_in x ws h = ⊎_elim (λ a. a) (λ b. absurd (omega (arith, h, out_hold x ws b))) (decide (in_waits ws x))

hold_then : (x : ℕ) (vs ws : Waits) → holding (and_then vs ws) x ≡ holding vs x + holding ws x
unfolding holding
hold_then x no_waits ws = omega arith
hold_then x (wait line ms vs) ws = omega (arith, hold_then x vs ws)

-- places
pub at_in : (x : ℕ) (ms : Moves) (p : PlaceIn ms) → T (in_move (cell_there ms p) (waits_there ms p) x) → T (in_moves ms x)
unfolding in_move in_moves
at_in x no_moves p h = absurd p
at_in x (move line c vs ms) (the_first u) h = left (in_move c vs x) (in_moves ms x) h
at_in x (move line c vs ms) (one_later p) h = right (in_move c vs x) (in_moves ms x) (at_in x ms p h)

apart_at : (ms : Moves) → FairMoves ms → (p : PlaceIn ms) → Apart (cell_there ms p) (waits_there ms p)
unfolding FairMoves
apart_at no_moves f p = absurd p
apart_at (move line c vs ms) f (the_first u) = f.0
apart_at (move line c vs ms) f (one_later p) = apart_at ms f.2 p

fair_at : (ms : Moves) → FairMoves ms → (p : PlaceIn ms) → FairWaits (waits_there ms p)
unfolding FairMoves
fair_at no_moves f p = absurd p
fair_at (move line c vs ms) f (the_first u) = f.1
fair_at (move line c vs ms) f (one_later p) = fair_at ms f.2 p

count_at : (ms : Moves) (p : PlaceIn ms) → waits_in (waits_there ms p) ≤ waits_under ms
unfolding waits_under
count_at no_moves p = absurd p
count_at (move line c vs ms) (the_first u) = omega arith
count_at (move line c vs ms) (one_later p) = omega (arith, count_at ms p)

-- a cell is in at most one of the waits under a move, and only if it is in the move's wait
under_hold : (x : ℕ) (ms : Moves) → FairMoves ms → (p : PlaceIn ms) → holding (waits_there ms p) x ≤ one_if (in_moves ms x)
unfolding in_move
under_hold x ms f p =
    ⊎_elim
    (λ a. omega (arith, one_yes (in_moves ms x) a, (apart_at ms f p).once x))
    (λ b.
    omega (
      arith,
      out_hold x (waits_there ms p)
          (not_T (in_waits (waits_there ms p) x)
          (λ i. T_not (in_moves ms x) b (at_in x ms p (right (eqb x (cell_there ms p)) (in_waits (waits_there ms p) x) i)))),
    ))
    (decide (in_moves ms x))

cell_in : (ms : Moves) (p : PlaceIn ms) → T (in_moves ms (cell_there ms p))
unfolding in_move
cell_in ms p = at_in (cell_there ms p) ms p (left (eqb (cell_there ms p) (cell_there ms p)) (in_waits (waits_there ms p) (cell_there ms p)) (eqb_refl (cell_there ms p)))

-- the step: the open waits stay fair, get fewer, and hold no cell that they did not hold
fair_then : (vs ws : Waits) → FairWaits vs → FairWaits ws → FairWaits (and_then vs ws)
unfolding FairWaits
fair_then no_waits ws f g = g
fair_then (wait line ms vs) ws f g = (f.0, f.1, fair_then vs ws f.2 g)

pub fair_opened : (ws : Waits) → FairWaits ws → (k : Choice ws) → FairWaits (opened ws k)
unfolding FairWaits
fair_opened no_waits f k = absurd k
fair_opened (wait line ms ws) f (the_first p) = fair_then (waits_there ms p) ws (fair_at ms f.1 p) f.2
fair_opened (wait line ms ws) f (one_later k) = (f.0, f.1, fair_opened ws f.2 k)

count_then : (vs ws : Waits) → waits_in (and_then vs ws) ≡ waits_in vs + waits_in ws
unfolding waits_in
count_then no_waits ws = omega arith
count_then (wait line ms vs) ws = omega (arith, count_then vs ws)

pub count_opened : (ws : Waits) (k : Choice ws) → suc (waits_in (opened ws k)) ≤ waits_in ws
unfolding waits_in
count_opened no_waits k = absurd k
count_opened (wait line ms ws) (the_first p) = omega (arith, count_then (waits_there ms p) ws, count_at ms p)
count_opened (wait line ms ws) (one_later k) = omega (arith, count_opened ws k)

pub hold_opened : (x : ℕ) (ws : Waits) → FairWaits ws → (k : Choice ws) → holding (opened ws k) x ≤ holding ws x
unfolding FairWaits holding
hold_opened x no_waits f k = absurd k
hold_opened x (wait line ms ws) f (the_first p) = omega (arith, hold_then x (waits_there ms p) ws, under_hold x ms f.1 p)
hold_opened x (wait line ms ws) f (one_later k) = omega (arith, hold_opened x ws f.2 k)

pub taken_hold : (ws : Waits) (k : Choice ws) → 1 ≤ holding ws (taken ws k)
unfolding holding
taken_hold no_waits k = absurd k
taken_hold (wait line ms ws) (the_first p) = omega (arith, one_yes (in_moves ms (cell_there ms p)) (cell_in ms p))
taken_hold (wait line ms ws) (one_later k) = omega (arith, taken_hold ws k)

pub taken_opened : (ws : Waits) → FairWaits ws → (k : Choice ws) → holding ws (taken ws k) ≤ 1 → holding (opened ws k) (taken ws k) ≡ 0
unfolding FairWaits holding
taken_opened no_waits f k h = absurd k
taken_opened (wait line ms ws) f (the_first p) h =
    omega (
      arith,
      hold_then (cell_there ms p) (waits_there ms p) ws,
      one_yes (in_moves ms (cell_there ms p)) (cell_in ms p),
      out_hold (cell_there ms p) (waits_there ms p) (apart_at ms f.1 p).own,
    )
taken_opened (wait line ms ws) f (one_later k) h = omega (arith, taken_hold ws k, taken_opened ws f.2 k (omega arith))

pub wait_in : (x : ℕ) (ws : Waits) (k : Choice ws) → T (wait_holds x ws k) → T (in_waits ws x)
unfolding in_waits
wait_in x no_waits k h = absurd k
wait_in x (wait line ms ws) (the_first p) h = left (in_moves ms x) (in_waits ws x) h
wait_in x (wait line ms ws) (one_later k) h = right (in_moves ms x) (in_waits ws x) (wait_in x ws k h)

-- the wait that holds x is answered by a move that does not: then no open wait holds x
pub dodged : (x : ℕ) (ws : Waits) (k : Choice ws) → holding ws x ≤ 1 → T (not (move_holds x ws k)) → T (wait_holds x ws k) → holding (opened ws k) x ≡ 0
unfolding holding in_move
dodged x no_waits k h n t = absurd k
dodged x (wait line ms ws) (the_first p) h n t =
    omega (
      arith,
      hold_then x (waits_there ms p) ws,
      one_yes (in_moves ms x) t,
      out_hold x (waits_there ms p) (nor_right (eqb x (cell_there ms p)) (in_waits (waits_there ms p) x) n),
    )
dodged x (wait line ms ws) (one_later k) h n t = omega (arith, in_hold x ws (wait_in x ws k t), dodged x ws k (omega arith) n t)

pub taken_not : (x : ℕ) (ws : Waits) (k : Choice ws) → T (not (move_holds x ws k)) → T (not (eqb x (taken ws k)))
unfolding in_move
taken_not x no_waits k n = absurd k
taken_not x (wait line ms ws) (the_first p) n = nor_left (eqb x (cell_there ms p)) (in_waits (waits_there ms p) x) n
taken_not x (wait line ms ws) (one_later k) n = taken_not x ws k n
