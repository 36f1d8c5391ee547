-- A branch that stands twice under a wait: the loop over the moves after a move, and the loop over the moves of a wait.
use mathlib.Core.Path.{◌≡◌, refl, sym, ap, ◌∙◌}
use mathlib.Core.Bool.{Bool, true, false, ◌||◌}
use mathlib.Core.List.{List, [], ◌∷◌}
use Prim.Native.Nat.{ℕ, ◌+◌, ◌<◌, ◌≤◌}
use native.Mathlib.Omega.{arith}
use Rattle.rules.specs.Words.{any, same, twice}
use Rattle.rules.specs.Tree.{Moves, no_moves, move, Wait}
use Rattle.rules.specs.Fair.{branches}
use Rattle.nodes.specs.Nodes.{a_move, nodes_of_waits, nodes_of_moves, size}
use Rattle.nodes.specs.Table.{end_in, WeighedRow, Each}
use Rattle.nodes.proofs.Trees.{move_first}
use Rattle.fair.specs.Twice.{branch_in, Spans, ForkAt, MovesFrom}
use Rattle.fair.proofs.Rows.{branch_rows, branch_spans}

-- moves side by side: while some are left one is at the node, and the others are from its end on
record Ahead (t : List ℕ) (j next end : ℕ) (all : Moves) : Type 0 where
  spans : Spans t j
  rest : MovesFrom t next end
  are : branches all ≡ branch_in t j ∷ branches rest.moves

ahead : {t : List ℕ} {j next end : ℕ} (ms : MovesFrom t j end) → j < end → next ≡ end_in t j → Ahead t j next end ms.moves
unfolding nodes_of_waits size branches
ahead {t} {j} {next} {end} ms p n = go ms.moves ms.each ms.to_end
  where
    go : (ns : Moves) → Each (WeighedRow t) a_move j (nodes_of_moves ns) → j + size (nodes_of_moves ns) ≡ end → Ahead t j next end ns
    go no_moves e q = absurd (omega arith)
    go (move line c ws ns) e q =
        let a = move_first line c ws ns e in
        let to : next ≡ j + 1 + size (nodes_of_waits ws) = n ∙ a.0.here.end in
        record {
          spans = branch_spans ws a.0;
          rest = record { moves = ns; each = rw to a.1; to_end = omega arith };
          are = ap (λ (b : List ℕ). b ∷ branches ns) (sym (branch_rows ws a.0));
        }

none_ahead : {t : List ℕ} {j end : ℕ} (ms : MovesFrom t j end) → end ≤ j → ms.moves ≡ no_moves
unfolding nodes_of_waits size
none_ahead {t} {j} {end} ms p = go ms.moves ms.to_end
  where
    go : (ns : Moves) → j + size (nodes_of_moves ns) ≡ end → ns ≡ no_moves
    go no_moves q = refl
    go (move line c ws ns) q = absurd (omega arith)

-- a move stands at the node, and others from its end on
pub move_ahead : {t : List ℕ} {j end : ℕ} → MovesFrom t j end → j < end → Spans t j
move_ahead ms p = (ahead ms p refl).spans

pub moves_ahead : {t : List ℕ} {j next end : ℕ} → MovesFrom t j end → j < end → next ≡ end_in t j → MovesFrom t next end
moves_ahead ms p n = (ahead ms p n).rest

-- ---- a loop over moves side by side asks something of each branch and those after it; one that has it is enough
pub record Asks (test : List ℕ → List (List ℕ) → Bool) (ask : List (List ℕ) → Bool) : Type 0 where
  pub of_none : ask [] ≡ false
  pub of_more : (b : List ℕ) (bs : List (List ℕ)) → ask (b ∷ bs) ≡ (test b bs || ask bs)

-- whether one is the same as x; whether one stands twice
pub asks_again : (x : List ℕ) → Asks (λ b bs. same x b) (any (same x))
unfolding any
asks_again x = record { of_none = refl; of_more = λ b bs. refl }

pub asks_twice : Asks (λ b bs. any (same b) bs) twice
unfolding twice
asks_twice = record { of_none = refl; of_more = λ b bs. refl }

-- the answer is that of the moves left
pub record LeftOf (ask : List (List ℕ) → Bool) (t : List ℕ) (all : Moves) (j end : ℕ) : Type 0 where
  pub left : MovesFrom t j end
  pub same_answer : ask (branches all) ≡ ask (branches left.moves)

abbrev pub Asking : (ask : List (List ℕ) → Bool) → List ℕ → (from j end : ℕ) → Type 0
Asking ask t from j end = (ms : MovesFrom t from end) → LeftOf ask t ms.moves j end

pub asking_starts : {ask : List (List ℕ) → Bool} {t : List ℕ} {from end : ℕ} → Asking ask t from from end
asking_starts ms = record { left = ms; same_answer = refl }

module _ {test : List ℕ → List (List ℕ) → Bool} {ask : List (List ℕ) → Bool} (law : Asks test ask) {t : List ℕ} {from j end : ℕ} (w : Asking ask t from j end) where
  pub asking_left : MovesFrom t from end → MovesFrom t j end
  asking_left ms = (w ms).left

  module _ (p : j < end) {next : ℕ} (n : next ≡ end_in t j) {r : Bool} (h : (rest : MovesFrom t next end) → r ≡ test (branch_in t j) (branches rest.moves)) where
    next_answer : (b : Bool) → r ≡ b → (ms : MovesFrom t from end) → (rest : MovesFrom t next end) × (ask (branches ms.moves) ≡ (b || ask (branches rest.moves)))
    next_answer b e ms =
        let l = w ms in
        let x = ahead l.left p n in (
          x.rest,
          l.same_answer ∙ ap ask x.are ∙ law.of_more (branch_in t j) (branches x.rest.moves)
              ∙ ap (λ (y : Bool). y || ask (branches x.rest.moves)) (sym (h x.rest) ∙ e),
        )

    pub asking_found : r ≡ true → (ms : MovesFrom t from end) → true ≡ ask (branches ms.moves)
    asking_found e ms = sym (next_answer true e ms).1

    pub asking_again : r ≡ false → Asking ask t from next end
    asking_again e ms =
        let x = next_answer false e ms in
        record { left = x.0; same_answer = x.1 }

  pub asking_ends : end ≤ j → (ms : MovesFrom t from end) → false ≡ ask (branches ms.moves)
  unfolding branches
  asking_ends p ms =
      let l = w ms in
      sym (l.same_answer ∙ ap (λ (ns : Moves). ask (branches ns)) (none_ahead l.left p) ∙ law.of_none)

-- the moves of a wait
abbrev pub fork_moves : {t : List ℕ} {i end : ℕ} (w : Wait) → ForkAt t i w → end ≡ end_in t i → MovesFrom t (i + 1) end
fork_moves w a e = record { moves = w.moves; each = a.below; to_end = omega (arith, e, a.here.end) }
