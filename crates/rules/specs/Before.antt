-- Document 02, C-11: what was read before there were set-up lines, what each definition was that looks at set-up stones, and which
-- sheets get the reply that they got. Nothing else cites these.
use Rattle.std.specs.Prelude.{◌≡◌, ℕ, [], ◌++◌, map, ltb, length}
use Rattle.std.proofs.Math.Option.{Option, none, some}
use Rattle.rules.specs.Sizes.{most_bytes, least_workspace}
use Rattle.rules.specs.Text.{Bytes}
use Rattle.rules.specs.Lines.{Header, header_line}
use Rattle.rules.specs.Tree.{Sheet, stone}
use Rattle.rules.specs.Written.{written_header}
use Rattle.rules.specs.Reading.{Result, refused, got, read_tree}
use Rattle.rules.specs.Unread.{BoardSize, NoSetUp}
use Rattle.rules.specs.Fair.{first_twice}
use Rattle.rules.specs.Live.{living}
use Rattle.rules.specs.Outcomes.{outcomes_of_waits, outcomes, outcome_count}
use Rattle.rules.specs.Answering.{Game, start, mine}
use Rattle.rules.specs.Entries.{◌>>=◌, refuse_if, fair_by, fair}
use Rattle.rules.specs.SameReplies.{SameReplies}
use Rattle.rules.specs.declared.Board.{Board}
use Rattle.rules.specs.declared.Player.{Player}
use Rattle.rules.specs.declared.Verdict.TheVariants.{SmallWorkspace, LongText, BadHeader}

-- no set-up line stands after line 1
pub record WithoutSetUp (t : Bytes) : Type 0 where
  pub no_line : (b : Board) (p : Player) (left : Bytes) → BoardSize b → t ≡ written_header b p ++ left → NoSetUp left

-- the tree stood right after line 1
unfoldable pub headed_before : Option (Header × Bytes) → Result Sheet
headed_before none = refused BadHeader
headed_before (some x) = read_tree x.0 [] x.1

unfoldable pub read_before : (workspace : ℕ) → Bytes → Result Sheet
read_before w t = do
  _ ← refuse_if (ltb w least_workspace) SmallWorkspace
  _ ← refuse_if (ltb most_bytes (length t)) LongText
  headed_before (header_line t)

-- then came 10 and the checks after it; there was no 20. (24 is C-20's, and the live moves are C-16's: they ask nothing of set-up stones)
unfoldable pub fair_before : Sheet → Result Sheet
fair_before s = fair_by none (first_twice s) (outcome_count s) s

-- on the sheet all is as it was: an outcome was the root's, the game began with the root's stone alone, and so did the player's stones
pub record AsBefore (s : Sheet) : Type 0 where
  pub fair_is : fair s ≡ fair_before s
  pub outcomes_are : outcomes s ≡ map (λ o. stone s.root.cell ++ o) (outcomes_of_waits (living s.root.waits))
  pub start_is : start s ≡ record { answers = []; theirs = []; open_waits = s.root.waits }
  pub mine_are : (g : Game) → mine s g ≡ stone s.root.cell ++ g.answers

-- every entry's reply is the one to what was read before, and on a sheet that was read before all is as it was
pub record SameWithoutSetUp (t : Bytes) : Type 0 where
  pub replies : SameReplies t (λ w. read_before w t) fair
  pub on_sheets : (w : ℕ) (s : Sheet) → read_before w t ≡ got s → AsBefore s
