-- What the reading functions promise: their reply, and the table after it.
use Rattle.std.specs.Prelude.{◌≡◌, ℕ, ◌+◌, ◌<◌, ◌≤◌, List, [], length}
use Rattle.std.specs.Prelude as code
use Rattle.rules.specs.Lines.{reader_of}
use Rattle.rules.specs.Text.{Bytes}
use Rattle.rules.specs.Sizes.{most_depth, most_nodes}
use Rattle.rules.specs.Tree.{Move, Stone, Sheet}
use Rattle.rules.specs.Reading.{Result, refused, got, node_line, read_move, ended, read_set_up, read_body}
use Rattle.rules.specs.Reading as R
use Rattle.rules.specs.Answer.{as_result}
use Rattle.rules.specs.declared.Board.{Board}
use Rattle.rules.specs.declared.Player.{Player}
use Rattle.rules.specs.declared.Verdict.{Verdict}
use Rattle.rules.specs.declared.LineKind.{LineKind}
use Rattle.rules.specs.declared.LineKind.TheVariants.{First}
use Rattle.nodes.specs.Sheets.{HeldStones}
use Rattle.nodes.specs.Nodes.{a_move, nodes_of_waits}
use Rattle.nodes.specs.Table.{Row, At}
use Rattle.nodes.specs.declared.head.SetUp.{SetUp}
use Rattle.reading.specs.Spots.{spot_of}
use Rattle.reading.specs.Storing.{Stored, store_node}
use Rattle.reading.specs.declared.spot.Spot.{Spot}
use Rattle.reading.specs.declared.Said.{Said}

-- the node that a line says, and the spot after it
abbrev pub node_said : Spot → Said → R.Node × R.Spot
node_said s l =
    (record { line = s.line; cell = l.cell; under = l.under }, record { text = l.text.now; line = s.line + 1; nodes = s.nodes + 1 })

-- a line that was read took text, and a level and a node were left for it
pub record LineTaken (levels : ℕ) (s : Spot) (l : Said) : Type 0 where
  pub shorter : length l.text.now < length s.text.now
  pub level_left : 1 ≤ levels
  pub node_left : s.nodes < most_nodes

abbrev pub TakenIfRead : (levels : ℕ) → Spot → code.Result Said Verdict → Type 0
TakenIfRead levels s (code.Ok l) = LineTaken levels s l
TakenIfRead levels s (code.Err v) = Unit {0}

pub record SaidKept (b : Board) (k : LineKind) (levels : ℕ) (s : Spot) (r : code.Result Said Verdict) : Type 0 where
  pub reply_is : as_result (node_said s) r ≡ node_line b (reader_of k) levels (spot_of s)
  pub taken : TakenIfRead levels s r

-- the reply and the table are those of the definition
pub record ReadKept (s : Stored) (r : code.Result Spot Verdict) (t' : List ℕ) : Type 0 where
  pub reply_is : as_result spot_of r ≡ s.reply
  pub table_is : t' ≡ s.table

-- a tree that is read from a spot on, with no text after it, after these set-up stones
abbrev pub tree_from : Board → Player → List Stone → R.Spot → Result Sheet
tree_from b p cs s = ended (record { board = b; player = p }) cs (read_move most_depth b (reader_of First) s)

-- the tree stands in the table
pub record TreeStands (b : Board) (p : Player) (cs : List Stone) (s : R.Spot) (t : List ℕ) : Type 0 where
  pub root : Move
  pub reads : tree_from b p cs s ≡ got (record { board = b; player = p; set_up = cs; root = root })
  pub stands : At (Row t) a_move 0 root.cell (nodes_of_waits root.waits)

abbrev pub TreeReply : Board → Player → List Stone → R.Spot → code.Result (Unit {0}) Verdict → List ℕ → Type 0
TreeReply b p cs s (code.Ok x) t = TreeStands b p cs s t
TreeReply b p cs s (code.Err v) t = tree_from b p cs s ≡ refused v

-- the reply is that of rules for either player and any stones, and the table is that of the definition
pub record TreeKept (b : Board) (start : Spot) (t : List ℕ) (r : code.Result (Unit {0}) Verdict) (t' : List ℕ) : Type 0 where
  pub reply_is : (p : Player) (cs : List Stone) → TreeReply b p cs (spot_of start) r t'
  pub table_is : t' ≡ (store_node most_depth First b (spot_of start) t).table

-- the tree of a body stands in the table, and what is set up before it is told: its stones, and the line of its first node
pub record BodyStands (b : Board) (p : Player) (body : Bytes) (u : SetUp) (t : List ℕ) : Type 0 where
  pub set_up : List Stone
  pub root : Move
  pub reads : read_body (record { board = b; player = p }) body ≡ got (record { board = b; player = p; set_up = set_up; root = root })
  pub stands : At (Row t) a_move 0 root.cell (nodes_of_waits root.waits)
  pub first_is : u.first ≡ length set_up + 2
  pub first_low : u.first ≤ length body + 2
  pub held : HeldStones b set_up u.stones.own u.stones.opp

abbrev pub BodyReply : Board → Player → Bytes → code.Result SetUp Verdict → List ℕ → Type 0
BodyReply b p body (code.Ok u) t = BodyStands b p body u t
BodyReply b p body (code.Err v) t = read_body (record { board = b; player = p }) body ≡ refused v

-- the table after the body is read: as it was where a set-up line is refused
unfoldable pub stored_after : Board → List ℕ → Result (List Stone × Bytes) → List ℕ
stored_after b t (refused v) = t
stored_after b t (got x) = (store_node most_depth First b (record { text = x.1; line = length x.0 + 2; nodes = 0 }) t).table

-- the reply is that of rules for either player, and the table is that of the definition
pub record BodyKept (b : Board) (body : Bytes) (t : List ℕ) (r : code.Result SetUp Verdict) (t' : List ℕ) : Type 0 where
  pub reply_is : (p : Player) → BodyReply b p body r t'
  pub table_is : t' ≡ stored_after b t (read_set_up (length body) b [] body)
