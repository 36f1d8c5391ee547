-- The neighbours of a cell against the neighbours of its place.
use Rattle.std.specs.Prelude.{if◌then◌else◌}
use mathlib.Core.Path.{◌≡◌}
use mathlib.Core.Bool.{Bool, true, false}
use mathlib.Core.Logic.{inl, inr}
use mathlib.Core.List.{List, [], ◌∷◌, ◌++◌}
use Prim.Native.Nat.{ℕ, zero, suc, ◌+◌, ◌-◌, ◌≤◌}
use native.Mathlib.Numerals.{add-one, sub-one}
use native.Mathlib.Omega.{arith}
use lib.Dec.{T, eqb, eqb→eq, eqb_refl}
use Rattle.rules.specs.Words.{among}
use Rattle.rules.specs.Board.{On, on_board, cell_at, column_of, row_of, there, around, neighbours}
use Rattle.rules.specs.declared.Board.{Board}
use Rattle.rules.proofs.Tests.{true_of, left, cases}
use Rattle.rules.proofs.Lists.{in_append, append_left, append_right}
use Rattle.rules.proofs.Places.{on_test, test_on, column_at, row_at}
use Rattle.cells.specs.Growing.{Near, to_left, to_right, to_up, to_down, to_up_right, to_down_left}

there_in : (b : Board) (c r : ℕ) → On b c r → T (among (there b c r) (cell_at b c r))
unfolding there among
there_in b c r o = rw (true_of (on_board b c r) (on_test b c r o), there, among) (left (eqb (cell_at b c r) (cell_at b c r)) false (eqb_refl (cell_at b c r)))

there_out : (b : Board) (c r y : ℕ) → T (among (there b c r) y) → On b c r × (y ≡ cell_at b c r)
unfolding there among
there_out b c r y h = go (on_board b c r) (test_on b c r) h
  where
    go : (t : Bool) → (T t → On b c r) → T (among (if t then cell_at b c r ∷ [] else []) y) → On b c r × (y ≡ cell_at b c r)
    go true f k = (f tt, elim (cases (eqb y (cell_at b c r)) false k) [ inl e ↦ eqb→eq y (cell_at b c r) e | inr e ↦ absurd e ])
    go false f k = absurd k

-- y is the cell at a place beside column c, row r
pub record Beside (b : Board) (c r y : ℕ) : Type 0 where
  pub column : ℕ
  pub row : ℕ
  pub on : On b column row
  pub cell : y ≡ cell_at b column row
  pub near : Near c r column row

-- the six places, in the order of the definition
module _ (b : Board) (c r : ℕ) where
  abbrev n1 : List ℕ
  n1 = there b (c - 1) r

  abbrev n2 : List ℕ
  n2 = n1 ++ there b (c + 1) r

  abbrev n3 : List ℕ
  n3 = n2 ++ there b c (r - 1)

  abbrev n4 : List ℕ
  n4 = n3 ++ there b c (r + 1)

  abbrev n5 : List ℕ
  n5 = n4 ++ there b (c + 1) (r - 1)

  module _ (y : ℕ) where
    by6 : T (among (there b (c - 1) (r + 1)) y) → T (among (around b c r) y)
    unfolding around
    by6 h = append_right y n5 (there b (c - 1) (r + 1)) h

    up5 : T (among n5 y) → T (among (around b c r) y)
    unfolding around
    up5 h = append_left y n5 (there b (c - 1) (r + 1)) h

    up4 : T (among n4 y) → T (among (around b c r) y)
    up4 h = up5 (append_left y n4 (there b (c + 1) (r - 1)) h)

    up3 : T (among n3 y) → T (among (around b c r) y)
    up3 h = up4 (append_left y n3 (there b c (r + 1)) h)

    up2 : T (among n2 y) → T (among (around b c r) y)
    up2 h = up3 (append_left y n2 (there b c (r - 1)) h)

    pick : {P : Type 0} (xs ys : List ℕ) → (T (among xs y) → P) → (T (among ys y) → P) → T (among (xs ++ ys) y) → P
    pick xs ys f g k = elim (in_append y xs ys k) [ inl i ↦ f i | inr i ↦ g i ]

    beside : (c' r' : ℕ) → (On b c' r' → Near c r c' r') → T (among (there b c' r') y) → Beside b c r y
    beside c' r' n h =
        let t = there_out b c' r' y h in
        record { column = c'; row = r'; on = t.0; cell = t.1; near = n t.0 }

-- one less, where that is on the board
less : (n : ℕ) (P : ℕ → ℕ → Type 0) → ((k : ℕ) → P (suc k) k) → 1 ≤ n - 1 → P n (n - 1)
less zero P f h = absurd (omega arith)
less (suc k) P f h = rw sub-one (f k)

more : (n : ℕ) (P : ℕ → ℕ → Type 0) → ((k : ℕ) → P k (suc k)) → P n (n + 1)
more n P f = rw add-one (f n)

pub around_near : (b : Board) (c r y : ℕ) → T (among (around b c r) y) → Beside b c r y
unfolding around
around_near b c r y h =
    pick b c r y (n5 b c r) (there b (c - 1) (r + 1))
    (pick b c r y (n4 b c r) (there b (c + 1) (r - 1))
    (pick b c r y (n3 b c r) (there b c (r + 1))
    (pick b c r y (n2 b c r) (there b c (r - 1))
    (pick b c r y (n1 b c r) (there b (c + 1) r)
    (beside b c r y (c - 1) r (λ o. less c (λ m n. Near m r n r) (λ k. to_left) o.left))
    (beside b c r y (c + 1) r (λ o. more c (λ m n. Near m r n r) (λ k. to_right))))
    (beside b c r y c (r - 1) (λ o. less r (λ m n. Near c m c n) (λ k. to_up) o.top)))
    (beside b c r y c (r + 1) (λ o. more r (λ m n. Near c m c n) (λ k. to_down))))
    (beside b c r y (c + 1) (r - 1) (λ o. less r (λ m n. Near c m (c + 1) n) (λ k. more c (λ m n. Near m (suc k) n k) (λ i. to_up_right)) o.top)))
    (beside b c r y (c - 1) (r + 1) (λ o. less c (λ m n. Near m r n (r + 1)) (λ k. more r (λ m n. Near (suc k) m k n) (λ i. to_down_left)) o.left))
    h

pub near_around : (b : Board) (c r c' r' : ℕ) → On b c' r' → Near c r c' r' → T (among (around b c r) (cell_at b c' r'))
near_around b c r c' r' o n = go n (there_in b c' r' o)
  where
    go : {c r c' r' : ℕ} → Near c r c' r' → T (among (there b c' r') (cell_at b c' r')) → T (among (around b c r) (cell_at b c' r'))
    go (to_left {c = k} {r = i}) h = up2 b (suc k) i (cell_at b k i) (append_left (cell_at b k i) (n1 b (suc k) i) (there b (suc k + 1) i) (rw sub-one h))
    go (to_right {c = k} {r = i}) h = up2 b k i (cell_at b (suc k) i) (append_right (cell_at b (suc k) i) (n1 b k i) (there b (k + 1) i) (rw add-one h))
    go (to_up {c = k} {r = i}) h = up3 b k (suc i) (cell_at b k i) (append_right (cell_at b k i) (n2 b k (suc i)) (there b k (suc i - 1)) (rw sub-one h))
    go (to_down {c = k} {r = i}) h = up4 b k i (cell_at b k (suc i)) (append_right (cell_at b k (suc i)) (n3 b k i) (there b k (i + 1)) (rw add-one h))
    go (to_up_right {c = k} {r = i}) h =
        up5 b k (suc i) (cell_at b (suc k) i) (append_right (cell_at b (suc k) i) (n4 b k (suc i)) (there b (k + 1) (suc i - 1)) (rw (add-one, sub-one) h))
    go (to_down_left {c = k} {r = i}) h = by6 b (suc k) i (cell_at b k (suc i)) (rw (sub-one, add-one) h)

-- a neighbour of a cell stands beside its place
pub neighbour_near : (b : Board) (x y : ℕ) → T (among (neighbours b x) y) → Near (column_of b x) (row_of b x) (column_of b y) (row_of b y)
unfolding neighbours
neighbour_near b x y h =
    let t = around_near b (column_of b x) (row_of b x) y h in
    rw (t.cell, column_at b t.column t.row t.on, row_at b t.column t.row t.on) t.near

pub near_neighbour : (b : Board) (c r c' r' : ℕ) → On b c r → On b c' r' → Near c r c' r' → T (among (neighbours b (cell_at b c r)) (cell_at b c' r'))
unfolding neighbours
near_neighbour b c r c' r' o o' n = rw (column_at b c r o, row_at b c r o, neighbours) (near_around b c r c' r' o' n)
