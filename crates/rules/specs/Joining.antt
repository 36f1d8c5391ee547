-- "The board": when a set of cells joins a player's two sides.
use Rattle.std.specs.Prelude.{ℕ, zero, suc, Bool, not, List, ◌++◌, T, length}
use Rattle.rules.specs.Words.{among, keep, any}
use Rattle.rules.specs.Board.{is_cell, neighbours, on_first_side, on_last_side, listed}
use Rattle.rules.specs.declared.Board.{Board}
use Rattle.rules.specs.declared.Player.{Player}

-- a chain of neighbours inside the set, from x to z
pub data Chain (b : Board) (set : ℕ → Bool) (z : ℕ) : ℕ → Type 0 where
  here : T (set z) → Chain b set z z
  step : {x : ℕ} (y : ℕ) → T (set x) → T (among (neighbours b x) y) → Chain b set z y → Chain b set z x

-- a set of cells joins when a chain of neighbours inside the set runs from one side to the other
pub record Joins (b : Board) (p : Player) (set : ℕ → Bool) : Type 0 where
  pub from : ℕ
  pub to : ℕ
  pub from_cell : T (is_cell b from)
  pub from_first : T (on_first_side b p from)
  pub to_last : T (on_last_side b p to)
  pub chain : Chain b set to from

-- The same as a test that computes: the cells reached from the first side, grown by neighbours until all are reached.

-- x is a neighbour of a reached cell
unfoldable pub touches : Board → (reached : List ℕ) → ℕ → Bool
touches b reached x = any (λ y. among (neighbours b y) x) reached

-- a round of growth: those of the cells left that touch a reached one are reached
unfoldable pub grow : (rounds : ℕ) → Board → (reached left : List ℕ) → List ℕ
grow zero b reached left = reached
grow (suc rounds) b reached left =
    grow rounds b (keep (touches b reached) left ++ reached) (keep (λ y. not (touches b reached y)) left)

-- as many rounds as there are cells, which is enough
unfoldable pub reached_in : Board → Player → List ℕ → List ℕ
reached_in b p xs = grow (length xs) b (keep (on_first_side b p) xs) (keep (λ x. not (on_first_side b p x)) xs)

unfoldable pub joined : Board → Player → (ℕ → Bool) → Bool
joined b p set = any (on_last_side b p) (reached_in b p (listed b set))
