-- Demand 3, the cover's sentence: what an accepted sheet promises its holder.
use Rattle.std.specs.Prelude.{◌≡◌, ◌≢◌, ℕ, ◌≤◌, ◌<◌, not, List, [], ◌∷◌, T, length, take, get_or}
use Rattle.std.proofs.Math.Option.{some}
use Rattle.rules.specs.Text.{Bytes}
use Rattle.rules.specs.Board.{smallest}
use Rattle.rules.specs.Tree.{Sheet, wait_count}
use Rattle.rules.specs.Reading.{got}
use Rattle.rules.specs.Choice.{Choice, taken}
use Rattle.rules.specs.Answering.{Game, answer, start, is_over, is_empty, answered}
use Rattle.rules.specs.Entries.{accepted, play}
use Rattle.rules.specs.declared.Verdict.TheVariants.{Done}

-- Games from g to h against these opponent moves, each made before the sides are joined and on a cell empty at that moment, and
-- each answered by the answering rule
pub data Ruled (s : Sheet) : Game → List ℕ → Game → Type 0 where
  no_move : {g : Game} → Ruled s g [] g
  one_move_lem : {g h : Game} {x : ℕ} {xs : List ℕ} → T (not (is_over s g)) → T (is_empty s g x) → Ruled s (answered g x) xs h → Ruled s g (x ∷ xs) h

-- the rule has an answer to x, whose cell was empty and is not x
pub record HasAnswer (s : Sheet) (g : Game) (x : ℕ) : Type 0 where
  pub choice : Choice g.open_waits
  pub is_answer : answer x g.open_waits ≡ some choice
  pub was_empty : T (is_empty s g (taken g.open_waits choice))
  pub not_theirs : taken g.open_waits choice ≢ x

-- the answer to the move at a place of the list (from 0): in the game as it stood before that move, its cell was empty, and it is
-- not the cell of that move
pub record AnsweredAt (s : Sheet) (moves : List ℕ) (place cell : ℕ) : Type 0 where
  pub game : Game
  pub before : Ruled s (start s) (take place moves) game
  pub was_empty : T (is_empty s game cell)
  pub not_theirs : cell ≢ get_or moves place 0

-- Games from g to h against an opponent, by his own moves: until the sides are joined he makes the move that he picks in the game as
-- it stands, and the answering rule answers
pub data Against (s : Sheet) (opponent : Game → ℕ) : Game → List ℕ → Game → Type 0 where
  no_turn : {g : Game} → Against s opponent g [] g
  turn : {g h : Game} {xs : List ℕ} → T (not (is_over s g)) → Against s opponent (answered g (opponent g)) xs h → Against s opponent g (opponent g ∷ xs) h

-- in every game that he comes to and that is not over, the opponent picks an empty cell
abbrev pub MovesToEmpty : Sheet → (Game → ℕ) → Type 0
MovesToEmpty s opponent = (xs : List ℕ) (g : Game) → Against s opponent (start s) xs g → T (not (is_over s g)) → T (is_empty s g (opponent g))

-- his game to its end: after these moves, no more than the sheet has waits, the sides are joined
pub record JoinedAgainst (s : Sheet) (opponent : Game → ℕ) : Type 0 where
  pub moves : List ℕ
  pub game : Game
  pub his : Against s opponent (start s) moves game
  pub ruled : Ruled s (start s) moves game
  pub joined : T (is_over s game)
  pub within : length moves ≤ wait_count s

-- play's reply to these moves, with this room: 0, one answer a move, over as soon as the stones join
pub record PlaysOut (workspace : ℕ) (t : Bytes) (s : Sheet) (xs : List ℕ) (room : ℕ) (g : Game) : Type 0 where
  pub reply : play workspace t xs room ≡ record { verdict = Done; place = 0; answers = g.answers; over = is_over s g }
  pub one_each : length g.answers ≡ length xs

-- The cover's sentence, clause by clause
pub record CoverSentence (workspace : ℕ) (t : Bytes) (s : Sheet) : Type 0 where
  -- "played from its start by the answering rule against any opponent moves, each on a cell empty at that moment": play replies so
  pub plays : (xs : List ℕ) (g : Game) → Ruled s (start s) xs g → (room : ℕ) → length xs ≤ room → PlaysOut workspace t s xs room g
  -- "until the player's sides are joined the opponent has an empty cell to move to"
  pub has_cell : (xs : List ℕ) (g : Game) → Ruled s (start s) xs g → T (not (is_over s g)) → (x : ℕ) × T (is_empty s g x)
  -- "and every such move is answered with a cell that was empty": the next one, and each one so far
  pub has_answer : (xs : List ℕ) (g : Game) → Ruled s (start s) xs g → T (not (is_over s g)) → (x : ℕ) → T (is_empty s g x) → HasAnswer s g x
  pub each_answer : (xs : List ℕ) (g : Game) → Ruled s (start s) xs g → (place : ℕ) → place < length xs → AnsweredAt s xs place (get_or g.answers place 0)
  -- "The sides are joined after no more opponent moves than the sheet has waiting points": no game is longer, one that is not over is
  -- shorter, and against any opponent who moves to an empty cell until then, they are joined
  pub within : (xs : List ℕ) (g : Game) → Ruled s (start s) xs g → length xs ≤ wait_count s
  pub not_yet : (xs : List ℕ) (g : Game) → Ruled s (start s) xs g → T (not (is_over s g)) → length xs < wait_count s
  pub is_joined : (opponent : Game → ℕ) → MovesToEmpty s opponent → JoinedAgainst s opponent
  -- (there is such an opponent: he moves to the smallest empty cell)
  pub has_opponent : MovesToEmpty s (λ g. smallest s.board (is_empty s g))

-- Demand 3: "Any accepted sheet"
abbrev pub Demand3 : Type 0
Demand3 = (workspace : ℕ) (t : Bytes) (s : Sheet) → accepted workspace t ≡ got s → CoverSentence workspace t s
