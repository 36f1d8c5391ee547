-- C-15 of a tree: its lists of moves, what goes on from the moves of a wait, and the walk that stops as soon as the stones join, which
-- looks at all outcomes but those that are passed over.
use Rattle.std.specs.Prelude.{if◌then◌else◌}
use mathlib.Core.Path.{◌≡◌, refl, sym, ap, ap₂, subst, ◌∙◌}
use mathlib.Core.Logic.{◌≢◌}
use Prim.Native.Nat.{ℕ, ◌+◌, ◌*◌, ◌≤◌}
use native.Mathlib.Nat.{mul_assoc, mul-pos, add-mul}
use native.Mathlib.Omega.{arith}
use mathlib.Core.Bool.{Bool, true, false, not}
use mathlib.Core.List.{List, [], ◌∷◌, ◌++◌, map, append_assoc, map-append}
use lib.Dec.{T, eqb}
use lib.ListN.{length, length-map}
use Rattle.rules.specs.Words.{◌∈◌, at_head, in_tail, among, any, one_if}
use Rattle.rules.specs.Joining.{joined}
use Rattle.rules.specs.Tree.{Waits, no_waits, wait, Moves, no_moves, move, Wait, Move, Sheet, stone, and_then, own_cells, at_start, waits_of_waits, waits_of_moves, every_wait}
use Rattle.rules.specs.Live.{living}
use Rattle.rules.specs.Outcomes.{each_with_each, outcomes, outcome_count, outcomes_of_waits, outcomes_of_moves, count_of_waits, count_of_moves}
use Rattle.rules.specs.Passing.{lists_of_waits, lists_of_moves, lists, stones_of, is_passed, passed_among, passed_over, passed_from, looked_in_waits, looked_in_moves, looked_at, lines_beside, UnlikeWaits, UnlikeMoves}
use Rattle.rules.specs.Plain.{WellRead}
use Rattle.rules.specs.Stopping.{ListsOfOutcomes}
use Rattle.rules.specs.declared.Board.{Board}
use Rattle.rules.specs.declared.Player.{Player}
use Rattle.rules.proofs.Tests.{nor_left, nor_right}
use Rattle.rules.proofs.Lists.{in_first, in_second}
use Rattle.rules.proofs.LineOrder.{unlike_lines}
use Rattle.rules.proofs.EachOutcome.{Each, each_in, each_append, each_map}
use Rattle.rules.proofs.Living.{living_some}
use Rattle.rules.proofs.Outcomes.{count_waits, each_append as each-of-both, each_before, each_each, each_of_none}
use Rattle.rules.proofs.Passing.{elsewhere, passed_joined, passed_apart, passed_first, passed_most}

-- The lists of a tree: their stones are the outcomes' cells, so they are as many
stones_append : (k l : List Move) → stones_of (k ++ l) ≡ stones_of k ++ stones_of l
unfolding stones_of
stones_append [] l = refl
stones_append (m ∷ k) l = ap (◌++◌ (stone m.cell)) (stones_append k l) ∙ sym (append_assoc (stone m.cell) (stones_of k) (stones_of l))

stones_before : (k : List Move) (ls : List (List Move)) → map stones_of (map (λ l. k ++ l) ls) ≡ map (λ o. stones_of k ++ o) (map stones_of ls)
stones_before k [] = refl
stones_before k (l ∷ ls) = ap₂ ◌∷◌ (stones_append k l) (stones_before k ls)

pub stones_first : (put : List ℕ) (m : Move) (ls : List (List Move))
    → map (λ l. put ++ stones_of l) (map (λ l. m ∷ l) ls) ≡ map (λ o. (put ++ stone m.cell) ++ o) (map stones_of ls)
unfolding stones_of
stones_first put m [] = refl
stones_first put m (l ∷ ls) = ap₂ ◌∷◌ (sym (append_assoc put (stone m.cell) (stones_of l))) (stones_first put m ls)

stones_each : (ks ls : List (List Move)) → map stones_of (each_with_each ks ls) ≡ each_with_each (map stones_of ks) (map stones_of ls)
unfolding each_with_each
stones_each [] ls = refl
stones_each (k ∷ ks) ls = map-append stones_of (map (λ l. k ++ l) ls) (each_with_each ks ls) ∙ ap₂ ◌++◌ (stones_before k ls) (stones_each ks ls)

mutual
  unfolding lists_of_waits outcomes_of_waits stones_of

  pub stones_waits : (ws : Waits) → map stones_of (lists_of_waits ws) ≡ outcomes_of_waits ws
  stones_waits no_waits = refl
  stones_waits (wait line ms ws) = stones_each (lists_of_moves ms) (lists_of_waits ws) ∙ ap₂ each_with_each (stones_moves ms) (stones_waits ws)

  stones_moves : (ms : Moves) → map stones_of (lists_of_moves ms) ≡ outcomes_of_moves ms
  stones_moves no_moves = refl
  stones_moves (move line c ws ms) =
      map-append stones_of (map (λ l. record { line = line; cell = c; waits = ws } ∷ l) (lists_of_waits ws)) (lists_of_moves ms)
      ∙ ap₂ ◌++◌ (stones_first [] (record { line = line; cell = c; waits = ws }) (lists_of_waits ws) ∙ ap (map (λ o. stone c ++ o)) (stones_waits ws)) (stones_moves ms)

lists_count : (ws : Waits) → length (lists_of_waits ws) ≡ count_of_waits ws
lists_count ws = sym (length-map (lists_of_waits ws) stones_of) ∙ ap length (stones_waits ws) ∙ count_waits ws

-- the outcome of a number is the own set-up stones with the stones of the list of that number
pub lists_outcomes : ListsOfOutcomes
unfolding lists outcomes at_start
lists_outcomes s =
    let live = living s.root.waits in
    stones_first (own_cells s.set_up) s.root (lists_of_waits live)
    ∙ ap (map (λ o. (own_cells s.set_up ++ stone s.root.cell) ++ o)) (stones_waits live)

-- first the lists that go on from the wait's first move, then those of its other moves
lists_then : (us ws : Waits) → lists_of_waits (and_then us ws) ≡ each_with_each (lists_of_waits us) (lists_of_waits ws)
unfolding lists_of_waits
lists_then no_waits ws = sym (each_of_none (lists_of_waits ws))
lists_then (wait line ms us) ws =
    ap (each_with_each (lists_of_moves ms)) (lists_then us ws) ∙ sym (each_each (lists_of_moves ms) (lists_of_waits us) (lists_of_waits ws))

pub lists_choice : (line l c : ℕ) (us : Waits) (ms : Moves) (ws : Waits) → lists_of_waits (wait line (move l c us ms) ws)
    ≡ map (λ k. record { line = l; cell = c; waits = us } ∷ k) (lists_of_waits (and_then us ws)) ++ lists_of_waits (wait line ms ws)
unfolding lists_of_waits
lists_choice line l c us ms ws =
    let m : Move = record { line = l; cell = c; waits = us } in
    each-of-both (map (λ k. m ∷ k) (lists_of_waits us)) (lists_of_moves ms) (lists_of_waits ws)
    ∙ ap (λ (z : List (List Move)). z ++ each_with_each (lists_of_moves ms) (lists_of_waits ws))
    (each_before (m ∷ []) (lists_of_waits us) (lists_of_waits ws) ∙ ap (map (λ k. m ∷ k)) (sym (lists_then us ws)))

-- what goes on from the moves of a wait begins with them
moves_elsewhere : (line at : ℕ) (ms : Moves) (ws : Waits) → T (not (among (lines_beside ms) line)) → Each (elsewhere line) (lists_of_waits (wait at ms ws))
unfolding lines_beside among lists_of_waits each_with_each elsewhere
moves_elsewhere line at no_moves ws u = tt
moves_elsewhere line at (move l c us ms) ws u =
    let m : Move = record { line = l; cell = c; waits = us } in
    rw (lists_choice at l c us ms ws)
    (each_append (elsewhere line) (map (λ k. m ∷ k) (lists_of_waits (and_then us ws))) (lists_of_waits (wait at ms ws))
    (each_map (elsewhere line) (λ k. m ∷ k) (lists_of_waits (and_then us ws))
    (each_in (λ k. elsewhere line (m ∷ k)) (lists_of_waits (and_then us ws)) (λ k i. nor_left (eqb line l) (among (lines_beside ms) line) u)))
    (moves_elsewhere line at ms ws (nor_right (eqb line l) (among (lines_beside ms) line) u)))

-- forests one before another, their counts, and their lines
pub count_then : (us ws : Waits) → count_of_waits (and_then us ws) ≡ count_of_waits us * count_of_waits ws
unfolding count_of_waits
count_then no_waits ws = omega arith
count_then (wait line ms us) ws = rw (count_then us ws) (sym (mul_assoc (count_of_moves ms) (count_of_waits us) (count_of_waits ws)))

pub unlike_then : (us ws : Waits) → UnlikeWaits us → UnlikeWaits ws → UnlikeWaits (and_then us ws)
unfolding UnlikeWaits
unlike_then no_waits ws u v = v
unlike_then (wait line ms us) ws u v = (u.0, unlike_then us ws u.1 v)

pub then_none : (ws : Waits) → and_then ws no_waits ≡ ws
then_none no_waits = refl
then_none (wait line ms ws) = ap (wait line ms) (then_none ws)

-- waits that all have a move have an outcome
abbrev pub SomeIn : List Wait → Type 0
SomeIn ws = (w : Wait) → w ∈ ws → w.moves ≢ no_moves

mutual
  unfolding waits_of_waits count_of_waits

  pub some_waits : (ws : Waits) → SomeIn (waits_of_waits ws) → 1 ≤ count_of_waits ws
  some_waits no_waits h = omega arith
  some_waits (wait line ms ws) h =
      mul-pos (some_moves ms (h (record { line = line; moves = ms }) at_head) (λ w i. h w (in_tail (in_first (waits_of_waits ws) i))))
      (some_waits ws (λ w i. h w (in_tail (in_second (waits_of_moves ms) i))))

  pub some_moves : (ms : Moves) → ms ≢ no_moves → SomeIn (waits_of_moves ms) → 1 ≤ count_of_moves ms
  some_moves no_moves n h = absurd (n refl)
  some_moves (move line c ws ms) n h = omega (arith, some_waits ws (λ w i. h w (in_first (waits_of_moves ms) i)))

-- The walk: what it looks at and what is passed over are all outcomes
module _ (b : Board) (p : Player) where
  passed_but_one : (put : List ℕ) (ls : List (List Move)) → joined b p (among put) ≡ true → 1 ≤ length ls → 1 + passed_among b p put [] ls ≡ length ls
  passed_but_one put [] j h = absurd (omega arith)
  passed_but_one put (l ∷ ls) j h = omega (arith, passed_joined b p put l ls j)

  -- (A) of a tree: from stones that join all but one are passed over
  pub passed_stopped : (put : List ℕ) (ws : Waits) → joined b p (among put) ≡ true → 1 ≤ count_of_waits ws → 1 + passed_from b p put ws ≡ count_of_waits ws
  passed_stopped put ws j h = passed_but_one put (lists_of_waits ws) j (omega (arith, lists_count ws)) ∙ lists_count ws

  -- (B) of a tree: from stones that do not, what goes on from the wait's first move and what goes on from its others are counted apart
  pub passed_choice : (put : List ℕ) (line l c : ℕ) (us : Waits) (ms : Moves) (ws : Waits) → joined b p (among put) ≡ false → T (not (among (lines_beside ms) l))
      → passed_from b p put (wait line (move l c us ms) ws) ≡ passed_from b p (put ++ stone c) (and_then us ws) + passed_from b p put (wait line ms ws)
  passed_choice put line l c us ms ws j u =
      ap (passed_among b p put []) (lists_choice line l c us ms ws)
      ∙ passed_apart b p put (record { line = l; cell = c; waits = us }) (lists_of_waits (and_then us ws)) (lists_of_waits (wait line ms ws)) j (moves_elsewhere l line ms ws u)

  pub passed_no_choice : (put : List ℕ) (line : ℕ) (ws : Waits) → passed_from b p put (wait line no_moves ws) ≡ 0
  unfolding lists_of_waits each_with_each passed_among
  passed_no_choice put line ws = refl

  -- no more than there are; and where no wait is left there is one outcome, which is not passed over
  pub passed_few : (put : List ℕ) (ws : Waits) → passed_from b p put ws ≤ count_of_waits ws
  passed_few put ws = omega (arith, passed_most b p put [] (lists_of_waits ws), lists_count ws)

  passed_none : (put : List ℕ) → passed_from b p put no_waits ≡ 0
  unfolding lists_of_waits passed_among is_passed any one_if
  passed_none put = omega arith

  by_join : (put : List ℕ) (n line : ℕ) (ms : Moves) (ws : Waits) → 1 ≤ count_of_waits (wait line ms ws) → (t : Bool) → joined b p (among put) ≡ t
      → (joined b p (among put) ≡ false → n + passed_from b p put (wait line ms ws) ≡ count_of_waits (wait line ms ws))
      → (if joined b p (among put) then 1 else n) + passed_from b p put (wait line ms ws) ≡ count_of_waits (wait line ms ws)
  by_join put n line ms ws h true j f =
      ap (λ (t : Bool). (if t then 1 else n) + passed_from b p put (wait line ms ws)) j ∙ passed_stopped put (wait line ms ws) j h
  by_join put n line ms ws h false j f = ap (λ (t : Bool). (if t then 1 else n) + passed_from b p put (wait line ms ws)) j ∙ f j

  -- the waits us and then others, of which all is looked at or passed over
  mutual
    unfolding looked_in_waits waits_of_waits UnlikeWaits count_of_waits

    looked_waits : (us ws : Waits) (onward : List ℕ → ℕ) → SomeIn (waits_of_waits us) → UnlikeWaits us → 1 ≤ count_of_waits ws
        → ((put : List ℕ) → onward put + passed_from b p put ws ≡ count_of_waits ws)
        → (put : List ℕ) → looked_in_waits b p us onward put + passed_from b p put (and_then us ws) ≡ count_of_waits (and_then us ws)
    looked_waits no_waits ws onward h u n k put = k put
    looked_waits (wait line ms us) ws onward h u n k put =
        let under : SomeIn (waits_of_moves ms) = λ w i. h w (in_tail (in_first (waits_of_waits us) i)) in
        let others : SomeIn (waits_of_waits us) = λ w i. h w (in_tail (in_second (waits_of_moves ms) i)) in
        let later : 1 ≤ count_of_waits (and_then us ws) = rw (count_then us ws) (mul-pos (some_waits us others) n) in
        by_join put (looked_in_moves b p ms (looked_in_waits b p us onward) put) line ms (and_then us ws)
        (mul-pos (some_moves ms (h (record { line = line; moves = ms }) at_head) under) later) (joined b p (among put)) refl
        (λ j. looked_moves ms line (and_then us ws) (looked_in_waits b p us onward) under u.0 later (λ more. looked_waits us ws onward others u.1 n k more) put j)

    looked_moves : (ms : Moves) (line : ℕ) (ws : Waits) (onward : List ℕ → ℕ) → SomeIn (waits_of_moves ms) → UnlikeMoves ms → 1 ≤ count_of_waits ws
        → ((put : List ℕ) → onward put + passed_from b p put ws ≡ count_of_waits ws)
        → (put : List ℕ) → joined b p (among put) ≡ false
        → looked_in_moves b p ms onward put + passed_from b p put (wait line ms ws) ≡ count_of_waits (wait line ms ws)
    looked_moves no_moves line ws onward h u n k put j = omega (arith, passed_no_choice put line ws)
    looked_moves (move l c us ms) line ws onward h u n k put j =
        let first = looked_waits us ws onward (λ w i. h w (in_first (waits_of_moves ms) i)) u.1 n k (put ++ stone c) in
        let others = looked_moves ms line ws onward (λ w i. h w (in_second (waits_of_waits us) i)) u.2 n k put j in
        omega (arith, first, others, passed_choice put line l c us ms ws j u.0, count_then us ws, add-mul (count_of_waits us) (count_of_moves ms) (count_of_waits ws))

-- a sheet's own: the walk begins with the stones at the start
pub passed_sheet : (s : Sheet) → passed_over s ≡ passed_from s.board s.player (at_start s) (living s.root.waits)
unfolding passed_over lists at_start
passed_sheet s = passed_first s.board s.player (own_cells s.set_up) s.root (lists_of_waits (living s.root.waits))

-- C-15: the walk that stops as soon as the stones join looks at all outcomes but those that are passed over
pub looked_and_passed : (s : Sheet) → WellRead s → looked_at s + passed_over s ≡ outcome_count s
unfolding looked_at outcome_count every_wait count_of_waits
looked_and_passed s r =
    let b = s.board in
    let p = s.player in
    let put = at_start s in
    let live = living s.root.waits in
    ap (λ (n : ℕ). looked_at s + n) (passed_sheet s)
    ∙ subst (λ (ws : Waits). looked_at s + passed_from b p put ws ≡ count_of_waits ws) (then_none live)
    (looked_waits b p live no_waits (λ xs. 1) (living_some s.root.waits r.some_moves) (unlike_lines s r) (omega arith) (λ xs. omega (arith, passed_none b p xs)) put)
