-- What looking at the moves of a wait tells: the cells that all of them share, which are live, and how many aren't.
use Rattle.std.specs.Prelude.{◌≡◌, Bool, List, ◌≢◌, ℕ, ◌≤◌, T}
use Rattle.std.specs.Prelude as code
use Rattle.std.proofs.Math.Option.{none, some}
use Rattle.rules.specs.declared.Board.{Board}
use Rattle.rules.specs.Words.{among}
use Rattle.rules.specs.Board.{smallest}
use Rattle.rules.specs.Tree.{Waits, no_moves, Wait, Sheet}
use Rattle.rules.specs.Fair.{not_elusive, first_not_elusive}
use Rattle.rules.specs.Live.{Shared, and_this, is_live, idle_at, idle_count}
use Rattle.cells.specs.Cells.{held}
use Rattle.cells.specs.declared.Cells.{Cells}
use Rattle.nodes.specs.Nodes.{a_move, nodes_of_waits}
use Rattle.nodes.specs.Table.{WeighedOn, At}
use Rattle.nodes.specs.Order.{TreeNode, is_move, is_wait}
use Rattle.fair.specs.Faults.{at_waits, WaitAt, NodeAt, IsFault, FaultAt, FaultFound}
use Rattle.fair.specs.declared.Fault.{Fault}
use Rattle.live.specs.declared.Common.{Common}
use Rattle.live.specs.declared.Common.TheVariants.{NoMove, Left, Spent}

-- ---- the cells common to all moves before

-- there was no move; or these cells are common to the moves, and 0 is none of them; or no cell is
pub data CommonIs (b : Board) : Common → Shared → Type 0 where
  no_move : CommonIs b NoMove none
  left : {cells : Cells} {xs : List ℕ} → ((x : ℕ) → 1 ≤ x → held b cells.rows x ≡ among xs x) → (T (among xs 0) → ⊥) → CommonIs b (Left cells) (some xs)
  spent : {xs : List ℕ} → ((x : ℕ) → T (among xs x) → ⊥) → CommonIs b Spent (some xs)

-- what is told of one move more: whether it is live, and the cells that are common with it
pub record MoveTold (b : Board) (before : Shared) (c : ℕ) (ws : Waits) (r : Common) (live : Bool) : Type 0 where
  pub live_is : live ≡ is_live before c ws
  pub common_is : CommonIs b r (and_this before c ws)

-- so it is of the move that stands at node i, whatever it is, and whatever moves were before
abbrev pub ToldAny : Board → List ℕ → ℕ → (z r : Common) → (live : Bool) → Type 0
ToldAny b t i z r live = (before : Shared) (c : ℕ) (ws : Waits) → CommonIs b z before → At (WeighedOn b t) a_move i c (nodes_of_waits ws) → MoveTold b before c ws r live

-- the smallest of the cells that are common to some moves
abbrev pub LeastAny : Board → Common → ℕ → Type 0
LeastAny b z r = (xs : List ℕ) → CommonIs b z (some xs) → r ≡ smallest b (among xs)

-- ---- a wait, a node and a sheet

-- what is told of a wait at node i: its fault, or none, and then how many of its moves aren't live
abbrev pub Told : Board → ℕ → Wait → code.Result ℕ Fault → Type 0
Told b i w (code.Err f) = IsFault i (smallest b (not_elusive w)) (code.Some f)
Told b i w (code.Ok idle) = IsFault i (smallest b (not_elusive w)) code.None × (idle ≡ idle_at w)

abbrev pub LookedAny : Board → List ℕ → ℕ → code.Result ℕ Fault → Type 0
LookedAny b t i r = (w : Wait) → WaitAt b t i w → w.moves ≢ no_moves → Told b i w r

-- how many moves right under a node aren't live
abbrev pub idle_in : TreeNode → ℕ
idle_in (is_move m) = 0
idle_in (is_wait w) = idle_at w

-- what is told of the node that stands at node i, whatever it is
abbrev pub LookedAt : Board → List ℕ → ℕ → code.Result ℕ Fault → Type 0
LookedAt b t i (code.Err f) = FaultAt (at_waits not_elusive) b t i (code.Some f)
LookedAt b t i (code.Ok idle) = FaultAt (at_waits not_elusive) b t i code.None × ((n : TreeNode) → NodeAt b t i n → idle ≡ idle_in n)

-- what 11 finds of a sheet: its fault, or none, and then how many of its moves aren't live
abbrev pub ElusiveFound : Sheet → code.Result ℕ Fault → Type 0
ElusiveFound s (code.Err f) = FaultFound s (first_not_elusive s) (code.Some f)
ElusiveFound s (code.Ok idle) = FaultFound s (first_not_elusive s) code.None × (idle ≡ idle_count s)
