-- What playing a list of moves on a held sheet asks for and answers.
use Rattle.std.specs.Prelude.{◌≡◌, Bool, false, not, ◌||◌, ℕ, List, [], ◌∷◌, length}
use Rattle.std.specs.Prelude as code
use Rattle.rules.specs.Text.{Bytes}
use Rattle.rules.specs.Board.{is_cell}
use Rattle.rules.specs.Tree.{Sheet}
use Rattle.rules.specs.Joining.{joined}
use Rattle.rules.specs.Reading.{Result, refused, got}
use Rattle.rules.specs.Answering.{Game, start, is_over}
use Rattle.rules.specs.Entries.{refuse_if, ◌>>=◌, step, Rounds, stopped, played, rounds, accepted, room_after}
use Rattle.rules.specs.declared.Board.{Board}
use Rattle.rules.specs.declared.Player.{Player}
use Rattle.rules.specs.declared.Verdict.TheVariants.{Done, AfterOver, NoSuchCell, CellTaken}
use Rattle.rules.specs.declared.Played as declared
use Rattle.cells.specs.declared.Cells.{Cells}
use Rattle.nodes.specs.Nodes.{a_move, nodes_of_waits}
use Rattle.nodes.specs.Table.{At}
use Rattle.nodes.specs.Sheets.{HeldStones}
use Rattle.answering.specs.Rows.{EndedOn, Remarked}
use Rattle.answering.specs.Marks.{Opens}
use Rattle.answering.specs.declared.PlayedOut.{PlayedOut}
use Rattle.answering.specs.declared.Stopped.{Stopped}

-- the sheet is an accepted one, and stands in the table up to its counts
pub record Playable (t : List ℕ) (b : Board) (p : Player) (s : Sheet) : Type 0 where
  pub on : s.board ≡ b
  pub player_is : s.player ≡ p
  pub is_accepted : (workspace : ℕ) × (text : Bytes) × (accepted workspace text ≡ got s)
  pub root : At (EndedOn b t) a_move 0 s.root.cell (nodes_of_waits s.root.waits)

-- some sheet is such a one, and has these set-up stones
pub record SomePlayable (t : List ℕ) (b : Board) (p : Player) (own opp : Cells) : Type 0 where
  pub sheet : Sheet
  pub playable : Playable t b p sheet
  pub stones : HeldStones b sheet.set_up own opp

-- 15, 16, 17 of a move to x, with the stones of the player and of the opponent as sets
unfoldable pub checked : Board → Player → (mine theirs : ℕ → Bool) → ℕ → Result (Unit {0})
checked b p mine theirs x = do
  _ ← refuse_if (joined b p mine) AfterOver
  _ ← refuse_if (not (is_cell b x)) NoSuchCell
  refuse_if (mine x || theirs x) CellTaken

-- the game that the moves lead to, up to the first that is refused
unfoldable pub reached : Sheet → Game → List ℕ → Game
reached s g [] = g
reached s g (x ∷ xs) = elim (step s g x) [ refused v ↦ g | got h ↦ reached s h xs ]

-- what is replied of the rounds
unfoldable pub shown : Sheet → Rounds → code.Result PlayedOut Stopped
shown s (stopped v place) = code.Err (record { verdict = v; place = place })
shown s (played g) = code.Ok (record { answers = length g.answers; over = is_over s g })

-- it as an entry returns it: on a refusal no answers and not over
abbrev pub as_played : code.Result PlayedOut Stopped → declared.Played
as_played (code.Err x) = record { verdict = x.verdict; place = x.place; answers = 0; over = false }
as_played (code.Ok x) = record { verdict = Done; place = 0; answers = x.answers; over = x.over }

-- the moves are played: the reply is that of the rounds; the table is the same up to the counts of its nodes, which mark the waits
-- that are open in the game reached; and the answers up to the first refused move stand in the first places of the room, whose other
-- places are as they were
pub record PlaysMoves (s : Sheet) (t moves room : List ℕ) (r : code.Result PlayedOut Stopped) (t' room' : List ℕ) : Type 0 where
  pub reply : r ≡ shown s (rounds s (start s) 1 moves)
  pub rows : Remarked t t'
  pub open_waits : Opens s.root.line s.board t' (reached s (start s) moves).open_waits
  pub answers : room' ≡ room_after (reached s (start s) moves).answers room
