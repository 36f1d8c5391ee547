-- What the reading of set-up lines promises.
use Rattle.std.specs.Prelude.{◌≡◌, ◌+◌, ◌<◌, ◌≤◌, List, [], ◌∷◌, ◌++◌, length}
use Rattle.std.specs.Prelude as code
use Rattle.std.proofs.Math.Option.{none, some}
use Rattle.rules.specs.Text.{Bytes}
use Rattle.rules.specs.Lines.{SetUpLine, set_up_line}
use Rattle.rules.specs.Tree.{Stone, set_up_cells}
use Rattle.rules.specs.Reading.{refused, got, set_down, read_set_up}
use Rattle.rules.specs.declared.Board.{Board}
use Rattle.rules.specs.declared.Verdict.{Verdict}
use Rattle.nodes.specs.Sheets.{HeldStones}
use Rattle.nodes.specs.declared.head.Stones.{Stones}
use Rattle.reading.specs.declared.spot.Spot.{Spot}

-- one stands there, and its stone is set down
pub record StoneGot (b : Board) (s : Spot) (cs : List Stone) (after : Spot) (stones : Stones) : Type 0 where
  pub said : SetUpLine
  pub stone : Stone
  pub line_read : set_up_line s.text.now ≡ some (said, after.text.now)
  pub set_down_lem : set_down b (set_up_cells cs) (length cs + 2) said ≡ got stone
  pub held : HeldStones b (cs ++ stone ∷ []) stones.own stones.opp
  pub shorter : length after.text.now < length s.text.now
  pub next_line_lem : after.line ≡ s.line + 1
  pub same_nodes : after.nodes ≡ s.nodes

-- one stands there, and is refused
pub record StoneRefused (b : Board) (s : Spot) (cs : List Stone) (v : Verdict) : Type 0 where
  pub said : SetUpLine
  pub left : Bytes
  pub begun : 1 ≤ length s.text.now
  pub line_read : set_up_line s.text.now ≡ some (said, left)
  pub not_down : set_down b (set_up_cells cs) (length cs + 2) said ≡ refused v

-- after the stones cs: a set-up line stands at the spot, and its stone is put to them; none, or one that is refused, and they are as they were
abbrev pub StepKept : Board → Spot → List Stone → Stones → code.Result (code.Option Spot) Verdict → Stones → Type 0
StepKept b s cs before (code.Ok (code.Some after)) stones = StoneGot b s cs after stones
StepKept b s cs before (code.Ok code.None) stones = (set_up_line s.text.now ≡ none) × (stones ≡ before)
StepKept b s cs before (code.Err v) stones = StoneRefused b s cs v × (stones ≡ before)

-- all set-up lines were read
pub record SetUpGot (b : Board) (body : Bytes) (after : Spot) (stones : Stones) : Type 0 where
  pub set_up : List Stone
  pub reads : read_set_up (length body) b [] body ≡ got (set_up, after.text.now)
  pub held : HeldStones b set_up stones.own stones.opp
  pub line_is : after.line ≡ length set_up + 2
  pub line_low : after.line + length after.text.now ≤ length body + 2
  pub no_nodes_lem : after.nodes ≡ 0

abbrev pub SetUpReply : Board → Bytes → code.Result (Spot × Stones) Verdict → Type 0
SetUpReply b body (code.Ok x) = SetUpGot b body x.0 x.1
SetUpReply b body (code.Err v) = read_set_up (length body) b [] body ≡ refused v
