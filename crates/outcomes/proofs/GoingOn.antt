-- Laws of outcomes that go on from given cells: of the waits under a move followed by other waits, and of the walk among them.
use mathlib.Core.Path.{◌≡◌, refl, sym, ap, ap₂, ◌∙◌}
use mathlib.Core.Bool.{Bool, true, false, not}
use Prim.Native.Nat.{ℕ, ◌+◌, ◌-◌, ◌≤◌}
use native.Mathlib.Omega.{arith}
use mathlib.Core.List.{List, [], ◌∷◌, ◌++◌, map, append-nil, map-append, map-map}
use lib.Dec.{T}
use lib.ListN.{length, length-map}
use Rattle.rules.specs.declared.Board.{Board}
use Rattle.rules.specs.declared.Player.{Player}
use Rattle.rules.specs.declared.Verdict.{Verdict}
use Rattle.rules.specs.declared.Verdict.TheVariants.{NotJoined}
use Rattle.rules.specs.Words.{among}
use Rattle.rules.specs.Tree.{Waits, no_waits, wait, Moves, no_moves, move, Move, stone, and_then}
use Rattle.rules.specs.Joining.{joined}
use Rattle.rules.specs.Outcomes.{count_of_waits, each_with_each, outcomes_of_waits}
use Rattle.rules.specs.Passing.{lists_of_waits, stones_of, passed_from, lines_beside}
use Rattle.rules.specs.Reading.{Result, refused, got}
use Rattle.rules.specs.Entries.{◌>>=◌, refuse_unjoined}
use Rattle.rules.proofs.Steps.{not_refused, got_inj, refused_inj, then_got}
use Rattle.rules.proofs.Outcomes.{count_waits}
use Rattle.rules.proofs.Passing.{joined_on}
use Rattle.rules.proofs.Looking.{lists_choice, stones_first, stones_waits, passed_stopped, passed_choice, passed_no_choice}
use Rattle.outcomes.specs.Searching.{going_on, walked}

-- what goes on is the stones of the lists of moves
going_lists : (xs : List ℕ) (ws : Waits) → going_on xs (outcomes_of_waits ws) ≡ map (λ l. xs ++ stones_of l) (lists_of_waits ws)
going_lists xs ws = ap (going_on xs) (sym (stones_waits ws)) ∙ map-map (λ o. xs ++ o) stones_of (lists_of_waits ws)

-- first what goes on from the wait's first move, then what goes on from its other moves
first_choice : (xs : List ℕ) (line l c : ℕ) (us : Waits) (ms : Moves) (ws : Waits)
    → going_on xs (outcomes_of_waits (wait line (move l c us ms) ws)) ≡ going_on (xs ++ stone c) (outcomes_of_waits (and_then us ws)) ++ going_on xs (outcomes_of_waits (wait line ms ws))
first_choice xs line l c us ms ws =
    let m : Move = record { line = l; cell = c; waits = us } in
    let put : List Move → List ℕ = λ k. xs ++ stones_of k in
    let below = lists_of_waits (and_then us ws) in
    going_lists xs (wait line (move l c us ms) ws)
    ∙ ap (map put) (lists_choice line l c us ms ws)
    ∙ map-append put (map (λ k. m ∷ k) below) (lists_of_waits (wait line ms ws))
    ∙ ap₂ ◌++◌ (stones_first xs m below ∙ ap (going_on (xs ++ stone c)) (stones_waits (and_then us ws))) (sym (going_lists xs (wait line ms ws)))

-- as many go on as the waits have
going_count : (xs : List ℕ) (ws : Waits) → length (going_on xs (outcomes_of_waits ws)) ≡ count_of_waits ws
going_count xs ws = length-map (outcomes_of_waits ws) (λ o. xs ++ o) ∙ count_waits ws

module _ (b : Board) (p : Player) where
  -- the search goes on among later outcomes where none of the earlier is refused
  search_then : (n : ℕ) (os rs : List (List ℕ)) → refuse_unjoined b p n (os ++ rs) ≡ (refuse_unjoined b p n os >>= λ u. refuse_unjoined b p (n + length os) rs)
  unfolding refuse_unjoined ◌>>=◌
  search_then n [] rs = let z : n ≡ n + 0 = omega arith in ap (λ (k : ℕ). refuse_unjoined b p k rs) z
  search_then n (o ∷ os) rs = go (joined b p (among o)) refl (search_then (n + 1) os rs)
    where
      go : (t : Bool) → joined b p (among o) ≡ t → refuse_unjoined b p (n + 1) (os ++ rs) ≡ (refuse_unjoined b p (n + 1) os >>= λ u. refuse_unjoined b p (n + 1 + length os) rs)
          → refuse_unjoined b p n (o ∷ os ++ rs) ≡ (refuse_unjoined b p n (o ∷ os) >>= λ u. refuse_unjoined b p (n + length (o ∷ os)) rs)
      go true e ih =
          let z : n + 1 + length os ≡ n + length (o ∷ os) = omega arith in
          rw (e, refuse_unjoined) (ih ∙ ap (λ (k : ℕ). refuse_unjoined b p (n + 1) os >>= λ u. refuse_unjoined b p k rs) z)
      go false e ih = rw (e, refuse_unjoined) refl

  -- from cells that join no outcome is refused
  all_join : (n : ℕ) (xs : List ℕ) (os : List (List ℕ)) → joined b p (among xs) ≡ true → refuse_unjoined b p n (going_on xs os) ≡ got tt
  unfolding refuse_unjoined
  all_join n xs [] e = refl
  all_join n xs (o ∷ os) e = rw (joined_on b p xs o e, refuse_unjoined) (all_join (n + 1) xs os e)

  -- the walk: from cells that join no outcome is refused, and all but one are passed over
  pub walked_joined : (n : ℕ) (xs : List ℕ) (ws : Waits) → joined b p (among xs) ≡ true → 1 ≤ count_of_waits ws → walked b p n xs ws ≡ got (count_of_waits ws - 1)
  unfolding walked ◌>>=◌
  walked_joined n xs ws j h =
      ap (λ (r : Result (Unit {0})). r >>= λ u. got (passed_from b p xs ws)) (all_join n xs (outcomes_of_waits ws) j)
      ∙ ap got (let z : passed_from b p xs ws ≡ count_of_waits ws - 1 = omega (arith, passed_stopped b p xs ws j h) in z)

  -- where no wait is left there is one outcome, the cells themselves
  pub walked_here : (n : ℕ) (xs : List ℕ) → joined b p (among xs) ≡ false → walked b p n xs no_waits ≡ refused (NotJoined n)
  unfolding walked ◌>>=◌ refuse_unjoined outcomes_of_waits
  walked_here n xs e =
      let same : joined b p (among (xs ++ [])) ≡ false = ap (λ (l : List ℕ). joined b p (among l)) (append-nil xs) ∙ e in
      rw (same, refuse_unjoined) refl

  -- where the wait has no move there is none
  pub walked_none : (n : ℕ) (xs : List ℕ) (line : ℕ) (ws : Waits) → walked b p n xs (wait line no_moves ws) ≡ got 0
  unfolding walked ◌>>=◌ refuse_unjoined outcomes_of_waits each_with_each
  walked_none n xs line ws = ap got (passed_no_choice b p xs line ws)

  -- else first what goes on from its first move is walked, and then what goes on from its others
  both_walked : (x y : Result (Unit {0})) (k j : ℕ)
      → ((x >>= λ u. y) >>= λ u. got (k + j)) ≡ ((x >>= λ u. got k) >>= λ a. (y >>= λ u. got j) >>= λ c. got (a + c))
  unfolding ◌>>=◌
  both_walked (refused v) y k j = refl
  both_walked (got u) (refused v) k j = refl
  both_walked (got u) (got w) k j = refl

  pub walked_choice : (n : ℕ) (xs : List ℕ) (line l c : ℕ) (us : Waits) (ms : Moves) (ws : Waits) → joined b p (among xs) ≡ false → T (not (among (lines_beside ms) l))
      → walked b p n xs (wait line (move l c us ms) ws)
      ≡ (walked b p n (xs ++ stone c) (and_then us ws) >>= λ k. walked b p (n + count_of_waits (and_then us ws)) xs (wait line ms ws) >>= λ j. got (k + j))
  unfolding walked
  walked_choice n xs line l c us ms ws e u =
      let first = going_on (xs ++ stone c) (outcomes_of_waits (and_then us ws)) in
      let others = going_on xs (outcomes_of_waits (wait line ms ws)) in
      ap₂ (λ (r : Result (Unit {0})) (k : ℕ). r >>= λ w. got k)
      (ap (λ (os : List (List ℕ)). refuse_unjoined b p n os) (first_choice xs line l c us ms ws)
      ∙ search_then n first others
      ∙ ap (λ (k : ℕ). refuse_unjoined b p n first >>= λ w. refuse_unjoined b p (n + k) others) (going_count (xs ++ stone c) (and_then us ws)))
      (passed_choice b p xs line l c us ms ws e u)
      ∙ both_walked (refuse_unjoined b p n first) (refuse_unjoined b p (n + count_of_waits (and_then us ws)) others) (passed_from b p (xs ++ stone c) (and_then us ws)) (passed_from b p xs (wait line ms ws))

  -- what the walk's answer tells: no outcome is refused, and so many are passed over; or the first that does not join
  pub walked_got : (n : ℕ) (xs : List ℕ) (ws : Waits) (k : ℕ) → walked b p n xs ws ≡ got k → (refuse_unjoined b p n (going_on xs (outcomes_of_waits ws)) ≡ got tt) × (passed_from b p xs ws ≡ k)
  unfolding walked
  walked_got n xs ws k e =
      let r = then_got (refuse_unjoined b p n (going_on xs (outcomes_of_waits ws))) (λ u. got (passed_from b p xs ws)) k e in
      (r.1, got_inj r.2)

  pub walked_refused : (n : ℕ) (xs : List ℕ) (ws : Waits) (v : Verdict) → walked b p n xs ws ≡ refused v → refuse_unjoined b p n (going_on xs (outcomes_of_waits ws)) ≡ refused v
  unfolding walked ◌>>=◌
  walked_refused n xs ws v e = stops (refuse_unjoined b p n (going_on xs (outcomes_of_waits ws))) e
    where
      stops : (r : Result (Unit {0})) → (r >>= λ u. got (passed_from b p xs ws)) ≡ refused v → r ≡ refused v
      stops (refused w) q = ap refused (refused_inj q)
      stops (got u) q = absurd (not_refused (sym q))
