-- The rounds of a game, move by move: a move that is refused, and a move that is answered.
use mathlib.Core.Path.{◌≡◌, refl, sym, ap, ◌∙◌}
use mathlib.Core.Bool.{Bool, true, false, not, ◌||◌}
use mathlib.Core.Option.{Option, none, some}
use Prim.Native.Nat.{ℕ, ◌+◌, ◌≤◌}
use native.Mathlib.Omega.{arith}
use mathlib.Core.List.{List, [], ◌∷◌, ◌++◌}
use lib.Dec.{T}
use lib.ListN.{length, length-append}
use Rattle.rules.specs.Words.{among}
use Rattle.rules.specs.Board.{is_cell}
use Rattle.rules.specs.Tree.{Sheet}
use Rattle.rules.specs.Joining.{joined}
use Rattle.rules.specs.Reading.{Result, refused, got}
use Rattle.rules.specs.Choice.{Choice, taken}
use Rattle.rules.specs.Answering.{Game, answer, mine, is_over, is_taken, is_empty, next, answered_by, answered}
use Rattle.rules.specs.Entries.{refuse_if, ◌>>=◌, step, stopped, played, rounds}
use Rattle.rules.specs.Promise.{Ruled, no_move, one_move_lem}
use Rattle.rules.specs.declared.Board.{Board}
use Rattle.rules.specs.declared.Player.{Player}
use Rattle.rules.specs.declared.Verdict.{Verdict}
use Rattle.rules.specs.declared.Verdict.TheVariants.{AfterOver, NoSuchCell, CellTaken}
use Rattle.rules.proofs.Joining.{joined_same}
use Rattle.rules.proofs.Steps.{got_inj, then_got}
use Rattle.answering.specs.Playing.{checked, reached}

-- the refusals of a move depend on the stones alone
pub checked_same : (b : Board) (p : Player) (m n u v : ℕ → Bool) (x : ℕ) → ((y : ℕ) → m y ≡ n y) → ((y : ℕ) → u y ≡ v y) → checked b p m u x ≡ checked b p n v x
unfolding checked
checked_same b p m n u v x f g = rw (joined_same b p m n (λ y on. f y), f x, g x)

-- a step is the refusals, and then the answer
pub step_checked : (s : Sheet) (g : Game) (x : ℕ) → step s g x ≡ (checked s.board s.player (among (mine s g)) (among g.theirs) x >>= λ done. got (answered g x))
unfolding step checked is_over is_taken refuse_if ◌>>=◌
step_checked s g x =
    go (joined s.board s.player (among (mine s g))) (is_cell s.board x) (among (mine s g) x || among g.theirs x) (got (answered g x))
  where
    go : (a c d : Bool) (h : Result Game)
        → (refuse_if a AfterOver >>= λ u. refuse_if (not c) NoSuchCell >>= λ u. refuse_if d CellTaken >>= λ u. h)
        ≡ ((refuse_if a AfterOver >>= λ u. refuse_if (not c) NoSuchCell >>= λ u. refuse_if d CellTaken) >>= λ u. h)
    go true c d h = refl
    go false false d h = refl
    go false true true h = refl
    go false true false h = refl

-- a move that is not refused
pub record Fine (b : Board) (p : Player) (m u : ℕ → Bool) (x : ℕ) : Type 0 where
  pub not_over : joined b p m ≡ false
  pub on_board_lem : is_cell b x ≡ true
  pub free : (m x || u x) ≡ false

pub fine : (b : Board) (p : Player) (m u : ℕ → Bool) (x : ℕ) → checked b p m u x ≡ got tt → Fine b p m u x
unfolding checked refuse_if ◌>>=◌
fine b p m u x e = go (joined b p m) (is_cell b x) (m x || u x) refl refl refl e
  where
    go : (a c d : Bool) → joined b p m ≡ a → is_cell b x ≡ c → (m x || u x) ≡ d
        → (refuse_if a AfterOver >>= λ u. refuse_if (not c) NoSuchCell >>= λ u. refuse_if d CellTaken) ≡ got tt → Fine b p m u x
    go true c d i j k e = let z : ◌≡◌ {A = ℕ} 0 1 = cc in absurd (omega arith)
    go false false d i j k e = let z : ◌≡◌ {A = ℕ} 0 1 = cc in absurd (omega arith)
    go false true true i j k e = let z : ◌≡◌ {A = ℕ} 0 1 = cc in absurd (omega arith)
    go false true false i j k e = record { not_over = i; on_board_lem = j; free = k }

module _ (s : Sheet) (g : Game) (x : ℕ) where
  abbrev asked : Result (Unit {0})
  asked = checked s.board s.player (among (mine s g)) (among g.theirs) x

  pub fine_over : asked ≡ got tt → T (not (is_over s g))
  unfolding is_over
  fine_over e = rw (fine s.board s.player (among (mine s g)) (among g.theirs) x e).not_over tt

  pub fine_empty : asked ≡ got tt → T (is_empty s g x)
  unfolding is_empty is_taken
  fine_empty e =
      let f = fine s.board s.player (among (mine s g)) (among g.theirs) x e in
      rw (f.on_board_lem, f.free) tt

  -- refused: the rounds stop there
  pub rounds_stop : (v : Verdict) (place : ℕ) (xs : List ℕ) → asked ≡ refused v → rounds s g place (x ∷ xs) ≡ stopped v place
  unfolding rounds ◌>>=◌
  rounds_stop v place xs e = rw (step_checked s g x, e, rounds)

  pub reached_stop : (v : Verdict) (xs : List ℕ) → asked ≡ refused v → reached s g (x ∷ xs) ≡ g
  unfolding reached ◌>>=◌
  reached_stop v xs e = rw (step_checked s g x, e, reached)

  -- answered: they go on
  pub rounds_on : (place : ℕ) (xs : List ℕ) → asked ≡ got tt → rounds s g place (x ∷ xs) ≡ rounds s (answered g x) (place + 1) xs
  unfolding rounds ◌>>=◌
  rounds_on place xs e = rw (step_checked s g x, e, rounds)

  pub reached_on : (xs : List ℕ) → asked ≡ got tt → reached s g (x ∷ xs) ≡ reached s (answered g x) xs
  unfolding reached ◌>>=◌
  reached_on xs e = rw (step_checked s g x, e, reached)

  pub answered_next : (k : Choice g.open_waits) → answer x g.open_waits ≡ some k → answered g x ≡ next g x k
  unfolding answered answered_by
  answered_next k e = rw e

-- no move is left
pub rounds_end : (s : Sheet) (g : Game) (place : ℕ) → rounds s g place [] ≡ played g
unfolding rounds
rounds_end s g place = refl

pub reached_end : (s : Sheet) (g : Game) → reached s g [] ≡ g
unfolding reached
reached_end s g = refl

-- where the moves are played out, the game they lead to
pub reached_played : (s : Sheet) (xs : List ℕ) (g h : Game) (place : ℕ) → rounds s g place xs ≡ played h → reached s g xs ≡ h
unfolding rounds reached
reached_played s [] g h place e = cc
reached_played s (x ∷ xs) g h place e = go (step s g x) refl (λ k. reached_played s xs k h (place + 1))
  where
    go : (r : Result Game) → step s g x ≡ r → ((k : Game) → rounds s k (place + 1) xs ≡ played h → reached s k xs ≡ h) → reached s g (x ∷ xs) ≡ h
    go (refused v) f ih = let z : ◌≡◌ {A = ℕ} 0 1 = cc (rw (f, rounds) at e) in absurd (omega arith)
    go (got k) f ih = rw (f, reached) (ih k (rw (f, rounds) at e))

-- a move brings one answer at most, so that there are no more answers than moves
one_answer_most : (g : Game) (x : ℕ) (k : Option (Choice g.open_waits)) → length (answered_by g x k).answers ≤ length g.answers + 1
unfolding answered_by next
one_answer_most g x none = omega arith
one_answer_most g x (some k) = omega (arith, length-append g.answers (taken g.open_waits k ∷ []))

pub rounds_answers : (s : Sheet) (xs : List ℕ) (g h : Game) (place : ℕ) → rounds s g place xs ≡ played h → length h.answers ≤ length g.answers + length xs
unfolding rounds answered
rounds_answers s [] g h place e = let same : g ≡ h = cc in omega (arith, ap (λ (k : Game). length k.answers) same)
rounds_answers s (x ∷ xs) g h place e = go (step s g x) refl (λ k. rounds_answers s xs k h (place + 1))
  where
    go : (r : Result Game) → step s g x ≡ r → ((k : Game) → rounds s k (place + 1) xs ≡ played h → length h.answers ≤ length k.answers + length xs)
        → length h.answers ≤ length g.answers + length (x ∷ xs)
    go (refused v) f ih = let z : ◌≡◌ {A = ℕ} 0 1 = cc (rw (f, rounds) at e) in absurd (omega arith)
    go (got k) f ih =
        let t = then_got (checked s.board s.player (among (mine s g)) (among g.theirs) x) (λ done. got (answered g x)) k (sym (step_checked s g x) ∙ f) in
        let same : answered g x ≡ k = got_inj t.2 in
        omega (arith, ih k (rw (f, rounds) at e), ap (λ (j : Game). length j.answers) same, one_answer_most g x (answer x g.open_waits))

-- one move more by the rule
pub ruled_more : {s : Sheet} {g h : Game} {xs : List ℕ} (x : ℕ) → Ruled s g xs h → T (not (is_over s h)) → T (is_empty s h x) → Ruled s g (xs ++ x ∷ []) (answered h x)
ruled_more x no_move u e = one_move_lem u e no_move
ruled_more x (one_move_lem v f r) u e = one_move_lem v f (ruled_more x r u e)
