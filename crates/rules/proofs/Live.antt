-- Laws of live moves: what live says in plain words; 11 at a wait is the same without its moves that aren't live, and the first move
-- that does not hold a cell is live.
use mathlib.Core.Path.{◌≡◌, refl, sym, ap, ap₂, ◌∙◌, subst, subst⁻¹}
use mathlib.Core.Bool.{Bool, true, not, ◌&&◌, ◌||◌}
use mathlib.Core.Logic.{◌≢◌, inl, inr, ⊎_elim}
use mathlib.Core.Option.{Option, none, some, map}
use mathlib.Core.List.{List, ◌∷◌}
use Prim.Native.Nat.{ℕ, suc}
use native.Mathlib.Omega.{arith}
use lib.Dec.{T, eqb, T_not}
use Rattle.rules.specs.Words.{keep, among}
use Rattle.rules.specs.Tree.{Waits, no_waits, wait, Moves, no_moves, move}
use Rattle.rules.specs.Written.{how_many_moves}
use Rattle.rules.specs.Fair.{in_waits, in_moves, in_move, in_every}
use Rattle.rules.specs.Live.{cells_of_waits, cells_of_moves, Shared, and_this, is_live}
use Rattle.rules.specs.Choice.{the_first, one_later, PlaceIn, cell_there, waits_there, first_move}
use Rattle.rules.specs.Holder.{live_there}
use Rattle.rules.specs.Spare.{earlier, IsLive, LiveExactly, live_ones}
use Rattle.rules.proofs.Tests.{true_of, false_of, same_test, decide, both, fst, snd, nand, twice, cond_yes, cond_no, by_cond}
use Rattle.rules.proofs.Lists.{among_append, keep_in, in_keep, any_some, some_any}

-- the list of a node's cells has the cells of the node
mutual
  unfolding cells_of_waits in_waits among

  pub waits_listed : (ws : Waits) (x : ℕ) → among (cells_of_waits ws) x ≡ in_waits ws x
  waits_listed no_waits x = refl
  waits_listed (wait line ms ws) x =
      among_append x (cells_of_moves ms) (cells_of_waits ws) ∙ ap₂ (λ (p q : Bool). p || q) (moves_listed ms x) (waits_listed ws x)

  moves_listed : (ms : Moves) (x : ℕ) → among (cells_of_moves ms) x ≡ in_moves ms x
  moves_listed no_moves x = refl
  moves_listed (move line c ws ms) x =
      among_append x (c ∷ cells_of_waits ws) (cells_of_moves ms) ∙ ap₂ (λ (p q : Bool). (eqb x c || p) || q) (waits_listed ws x) (moves_listed ms x)

pub move_listed : (c : ℕ) (ws : Waits) (x : ℕ) → among (c ∷ cells_of_waits ws) x ≡ in_move c ws x
unfolding among in_move
move_listed c ws x = ap (λ (p : Bool). eqb x c || p) (waits_listed ws x)

-- x is common to all moves before; and with one move more
abbrev pub in_all_before : Shared → ℕ → Bool
in_all_before none x = true
in_all_before (some xs) x = among xs x

pub all_before : (before : Shared) (c : ℕ) (ws : Waits) (x : ℕ) → in_all_before (and_this before c ws) x ≡ (in_all_before before x && in_move c ws x)
unfolding and_this
all_before none c ws x = move_listed c ws x
all_before (some xs) c ws x =
    same_test (among (keep (in_move c ws) xs) x) (among xs x && in_move c ws x)
    (λ m. let f = keep_in (in_move c ws) x xs m in both (among xs x) (in_move c ws x) f.0 f.1)
    (λ m. in_keep (in_move c ws) x xs (snd (among xs x) (in_move c ws x) m) (fst (among xs x) (in_move c ws x) m))

unfoldable pub Common : Shared → ℕ → Type 0
Common before x = T (in_all_before before x)

common_on : (before : Shared) (c : ℕ) (ws : Waits) (x : ℕ) → Common before x → T (in_move c ws x) → Common (and_this before c ws) x
unfolding Common
common_on before c ws x h i = subst⁻¹ T (all_before before c ws x) (both (in_all_before before x) (in_move c ws x) h i)

-- a move without x, which is common to all before it, is live
lives : (before : Shared) (c : ℕ) (ws : Waits) (x : ℕ) → Common before x → T (not (in_move c ws x)) → T (is_live before c ws)
unfolding Common is_live
lives none c ws x h n = tt
lives (some xs) c ws x h n = some_any (λ y. not (in_move c ws y)) x xs h n

-- "Live" in plain words
module _ (x : ℕ) where
  to_live : (before : Shared) (ms : Moves) (p : PlaceIn ms) → Common before x → T (in_every (earlier ms p) x) → T (not (in_move (cell_there ms p) (waits_there ms p) x))
      → T (live_there before ms p)
  unfolding live_there in_every
  to_live before no_moves p h e n = absurd p
  to_live before (move line c ws ms) (the_first u) h e n = lives before c ws x h n
  to_live before (move line c ws ms) (one_later p) h e n =
      to_live (and_this before c ws) ms p (common_on before c ws x h (fst (in_move c ws x) (in_every (earlier ms p) x) e)) (snd (in_move c ws x) (in_every (earlier ms p) x) e) n

-- a cell common to all moves before that isn't in the one at the place
abbrev Missed : Shared → (ms : Moves) → PlaceIn ms → Type 0
Missed before ms p = (x : ℕ) × Common before x × T (in_every (earlier ms p) x) × T (not (in_move (cell_there ms p) (waits_there ms p) x))

missed : (xs : List ℕ) (ms : Moves) (p : PlaceIn ms) → T (live_there (some xs) ms p) → Missed (some xs) ms p
unfolding live_there is_live in_every Common and_this
missed xs no_moves p l = absurd p
missed xs (move line c ws ms) (the_first u) l = let a = any_some (λ y. not (in_move c ws y)) xs l in (a.0, a.1, tt, a.2)
missed xs (move line c ws ms) (one_later p) l =
    let a = missed (keep (in_move c ws) xs) ms p l in
    let b = keep_in (in_move c ws) a.0 xs a.1 in
    (a.0, b.0, both (in_move c ws a.0) (in_every (earlier ms p) a.0) b.1 a.2, a.3)

from_live : (ms : Moves) (p : PlaceIn ms) → T (live_there none ms p) → IsLive ms p
unfolding live_there in_every Common and_this
from_live no_moves p l = absurd p
from_live (move line c ws ms) (the_first u) l = inl refl
from_live (move line c ws ms) (one_later p) l =
    let a = missed (c ∷ cells_of_waits ws) ms p l in
    inr (a.0, both (in_move c ws a.0) (in_every (earlier ms p) a.0) (subst T (move_listed c ws a.0) a.1) a.2, a.3)

pub a_move : (line c : ℕ) (ws : Waits) (ms : Moves) → move line c ws ms ≢ no_moves
unfolding how_many_moves
a_move line c ws ms e = let z : suc (how_many_moves ms) ≡ 0 = ap how_many_moves e in omega arith

first_live : (ms : Moves) (p : PlaceIn ms) → earlier ms p ≡ no_moves → T (live_there none ms p)
unfolding live_there is_live
first_live no_moves p e = absurd p
first_live (move line c ws ms) (the_first u) e = tt
first_live (move line c ws ms) (one_later p) e = absurd (a_move line c ws (earlier ms p) e)

pub live_exactly : LiveExactly
unfolding Common
live_exactly ms p = (from_live ms p, ⊎_elim (first_live ms p) (λ a. to_live a.0 none ms p tt a.1 a.2))

-- 11 at a wait is the same without its moves that are not live
every_step : (before : Shared) (line c : ℕ) (ws : Waits) (ms : Moves) (x : ℕ) → Common before x
    → (Common (and_this before c ws) x → in_every (live_ones (and_this before c ws) ms) x ≡ in_every ms x)
    → in_every (live_ones before (move line c ws ms)) x ≡ in_every (move line c ws ms) x
unfolding live_ones in_every
every_step before line c ws ms x h ih =
    by_cond (λ (ns : Moves). in_every ns x ≡ in_every (move line c ws ms) x) (is_live before c ws) _ _
    (λ l.
    ⊎_elim
    (λ i. ap (λ (b : Bool). in_move c ws x && b) (ih (common_on before c ws x h i)))
    (λ n. rw (false_of (in_move c ws x) (T_not (in_move c ws x) n)) refl)
    (decide (in_move c ws x)))
    (λ d.
    ⊎_elim
    (λ i. ih (common_on before c ws x h i) ∙ sym (ap (λ (b : Bool). b && in_every ms x) (true_of (in_move c ws x) i)))
    (λ n. absurd (T_not (is_live before c ws) d (lives before c ws x h n)))
    (decide (in_move c ws x)))

pub every_live : (before : Shared) (ms : Moves) (x : ℕ) → Common before x → in_every (live_ones before ms) x ≡ in_every ms x
unfolding live_ones
every_live before no_moves x h = refl
every_live before (move line c ws ms) x h = every_step before line c ws ms x h (every_live (and_this before c ws) ms x)

pub elusive_same : (ms : Moves) (x : ℕ) → in_every (live_ones none ms) x ≡ in_every ms x
unfolding Common
elusive_same ms x = every_live none ms x tt

-- the first move without x is live
abbrev pub without : ℕ → ℕ → Waits → Bool
without x c ws = not (in_move c ws x)

abbrev pub LiveDodge : Shared → ℕ → Moves → Type 0
LiveDodge before x ms = (p : PlaceIn ms) × (first_move (without x) ms ≡ some p) × T (without x (cell_there ms p) (waits_there ms p)) × T (live_there before ms p)

dodge_on : (before : Shared) (x line c : ℕ) (ws : Waits) (ms : Moves) → T (in_move c ws x) → LiveDodge (and_this before c ws) x ms → LiveDodge before x (move line c ws ms)
unfolding live_there
dodge_on before x line c ws ms i d = (
  one_later d.0,
  cond_no (without x c ws) (some (the_first tt)) (map one_later (first_move (without x) ms)) (twice (in_move c ws x) i) ∙ ap (λ (q : Option (PlaceIn ms)). map one_later q) d.1,
  d.2,
  d.3,
)

pub dodge_live : (before : Shared) (x : ℕ) (ms : Moves) → Common before x → T (not (in_every ms x)) → LiveDodge before x ms
unfolding in_every live_there
dodge_live before x no_moves h n = absurd n
dodge_live before x (move line c ws ms) h n =
    ⊎_elim
    (λ i.
    dodge_on before x line c ws ms i
    (dodge_live (and_this before c ws) x ms (common_on before c ws x h i)
    (⊎_elim (λ z. absurd (T_not (in_move c ws x) z i)) (λ z. z) (nand (in_move c ws x) (in_every ms x) n))))
    (λ z. (the_first tt, cond_yes (without x c ws) (some (the_first tt)) (map one_later (first_move (without x) ms)) z, z, lives before c ws x h z))
    (decide (in_move c ws x))
