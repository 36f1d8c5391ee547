-- What taking out the moves that aren't live does to the table.
use Rattle.std.specs.Prelude.{◌≡◌, List, ℕ, ◌+◌, ◌*◌, ◌<◌, ◌≤◌, length, get_or}
use Rattle.std.proofs.Math.Option.{none}
use Rattle.rules.specs.declared.Board.{Board}
use Rattle.rules.specs.Tree.{Waits, Moves, Sheet}
use Rattle.rules.specs.Live.{living, living_after, idle_count}
use Rattle.nodes.specs.Nodes.{Nodes, Kind, a_wait, a_move, nodes_of_waits, nodes_of_moves, size}
use Rattle.nodes.specs.Table.{end_in, Row, WeighedOn, At}
use Rattle.nodes.specs.Sheets.{HoldsSheet, HoldsLiving}

-- the tables differ at most at the nodes from `to` up to `next`
pub record Within (t v : List ℕ) (to next : ℕ) : Type 0 where
  pub long : length v ≡ length t
  pub before : (m : ℕ) → m < 4 * to → get_or v m 0 ≡ get_or t m 0
  pub after : (m : ℕ) → 4 * next ≤ m → get_or v m 0 ≡ get_or t m 0

-- what stood from node `from` on stands from node `to` on, up to node `out`; nothing past it is touched
pub record MovedUp (t v : List ℕ) (from to out : ℕ) : Type 0 where
  pub ahead : to < out
  pub behind : out ≤ end_in t from
  pub kept : Within t v to (end_in t from)

-- a node with these nodes under it stands at node `to`, up to node `out`
pub record StandsTo (v : List ℕ) (k : Kind) (to c : ℕ) (u : Nodes) (out : ℕ) : Type 0 where
  pub out_is : out ≡ to + 1 + size u
  pub stands : At (Row v) k to c u

-- it is whatever move, or wait, stood at node `from`, without the moves under it that aren't live
pub record MoveThinnedAny (b : Board) (t : List ℕ) (from to out : ℕ) (v : List ℕ) : Type 0 where
  pub moved : MovedUp t v from to out
  pub thinned : (c : ℕ) (ws : Waits) → At (WeighedOn b t) a_move from c (nodes_of_waits ws) → StandsTo v a_move to c (nodes_of_waits (living ws)) out

pub record WaitThinnedAny (b : Board) (t : List ℕ) (from to out : ℕ) (v : List ℕ) : Type 0 where
  pub moved : MovedUp t v from to out
  pub thinned : (ms : Moves) → At (WeighedOn b t) a_wait from 0 (nodes_of_moves ms) → StandsTo v a_wait to 0 (nodes_of_moves (living_after none ms)) out

-- some sheet is held, and so many of its moves aren't live
pub record SomeIdle (t : List ℕ) (b : Board) (idle : ℕ) : Type 0 where
  pub sheet : Sheet
  pub held : HoldsSheet t b sheet
  pub idle_is : idle ≡ idle_count sheet

-- the sheet is held without its moves that aren't live, which are so many
pub record KeepsLive (t : List ℕ) (b : Board) (s : Sheet) (idle : ℕ) : Type 0 where
  pub holds : HoldsLiving t b s
  pub idle_is : idle ≡ idle_count s
