-- `cells::closure` meets its contract: each turn keeps what is settled, and there is less room where a row takes cells in.
use Rattle.std.proofs.Common.{rules, arith, sym, ◌∙◌, ℕ, ◌<◌, ◌≤◌, get_or, set, w32}
use mir.Val.{Fits}
use Rattle.cells.proofs.Growing.{settled_none, settled_more, settled_back, settled_here, settled_room, not_top, settled_all}
use Rattle.cells.proofs.Room.{room}
use Rattle.cells.proofs.closure.Goals as goal

-- the words of the set at the start
words : (c : goal.After-words-1) (k : ℕ) → Fits w32 (get_or c.args.a.rows k 0)
words c k = search rules

pub loop-row-init : goal.loop-row-init
loop-row-init c = (omega arith, omega arith, settled_none _ (record { long = search rules; fits = λ k. (words c k).fits }))

pub loop-row-preserved-then-word-words : goal.loop-row-preserved-then-word-words
loop-row-preserved-then-word-words c =
    (omega arith, omega arith, settled_more _ _ c.loop-row.invariant.2 c.loop-row.invariant.0 c.requires.1 (sym c.if-word-words.true ∙ c.grow_row-word.ensures))

-- the row above took some of them in
below_top : (c : goal.Then-grow_row-above) → 2 ≤ c.loop-row.row
below_top c = not_top _ c.loop-row.row _ _ c.requires.1 c.loop-row.invariant.0 (search rules) c.grow_row.ensures c.if-grow_row-above.true

pub overflow_sub-row-then-grow_row-above : goal.overflow_sub-row-then-grow_row-above
overflow_sub-row-then-grow_row-above c = omega (arith, below_top c)

pub loop-row-smaller-then-grow_row-above : goal.loop-row-smaller-then-grow_row-above
loop-row-smaller-then-grow_row-above c =
    let less : room (set c.loop-row.words c.loop-row.row c.grow_row-word.result) < room c.loop-row.words =
    settled_room c.grow_row-word.type_inv c.loop-row.row c.loop-row.invariant.2 c.loop-row.invariant.0 (omega arith) c.grow_row-word.ensures c.if-word-words.false in
    omega (arith, less, c.loop-row.invariant.1, below_top c)

pub loop-row-preserved-then-grow_row-above : goal.loop-row-preserved-then-grow_row-above
loop-row-preserved-then-grow_row-above c = (
  omega (arith, below_top c),
  omega (arith, c.loop-row.invariant.1),
  settled_back c.grow_row-word.type_inv _ c.loop-row.row c.loop-row.invariant.2 c.loop-row.invariant.0 (omega arith) c.requires.1 c.grow_row-word.ensures,
)

pub loop-row-smaller : goal.loop-row-smaller
loop-row-smaller c =
    let less : room (set c.loop-row.words c.loop-row.row c.grow_row-word.result) < room c.loop-row.words =
    settled_room c.grow_row-word.type_inv c.loop-row.row c.loop-row.invariant.2 c.loop-row.invariant.0 (omega arith) c.grow_row-word.ensures c.if-word-words.false in
    omega (arith, less)

pub loop-row-preserved : goal.loop-row-preserved
loop-row-preserved c = (
  c.loop-row.invariant.0,
  c.loop-row.invariant.1,
  settled_here c.grow_row-word.type_inv _ c.loop-row.row c.loop-row.invariant.2 c.loop-row.invariant.0 (omega arith) c.requires.1 c.grow_row-word.ensures (sym c.grow_row.ensures ∙ c.if-grow_row-above.false),
)

pub returns : goal.returns
returns c = settled_all _ c.loop-row.invariant.2 c.loop-row-test.false c.requires.1
