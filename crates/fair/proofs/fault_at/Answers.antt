-- A move has the smallest of the faulty cells that are found there; a wait has none, nor has a move with nothing under it.
use Rattle.std.proofs.Common.{arith, sym, ◌∙◌}
use Rattle.rules.specs.Fair.{not_apart}
use Rattle.cells.specs.Cells.{held}
use Rattle.fair.proofs.WhichKind.{some_move, least_move, none_wait, leaf_apart}
use Rattle.fair.proofs.Search.{smallest_low}
use Rattle.fair.proofs.fault_at.Goals.{then-not-is_move-via-then-not-is_move, then-not-is_move-via-else-not-is_move+then-under_at-eq0}
use Rattle.fair.proofs.fault_at.Goals as goal

pub returns-then-not-is_move : goal.returns-then-not-is_move
returns-then-not-is_move c =
    elim c.then-not-is_move.branch [
      | then-not-is_move-via-then-not-is_move w ↦ none_wait not_apart (sym c.is_move.ensures ∙ w.if-not-is_move.true)
      | then-not-is_move-via-else-not-is_move+then-under_at-eq0 w ↦ leaf_apart (sym w.under_at.ensures ∙ w.if-under_at-eq0.true) (sym c.is_move.ensures ∙ w.if-not-is_move.false)
    ]

pub not_apart_at-found-requires : goal.not_apart_at-found-requires
not_apart_at-found-requires c = record { stands = some_move (sym c.is_move.ensures ∙ c.if-not-is_move.false) c.requires.stands }

pub of-requires : goal.of-requires
of-requires c =
    let low = smallest_low _ (held c.args.grid.board c.not_apart_at-found.result.rows) c.args.grid.fits in
    omega (arith, c.least.ensures, low)

pub returns : goal.returns
returns c = least_move _ _ c.least.ensures not_apart (sym c.is_move.ensures ∙ c.if-not-is_move.false) c.not_apart_at-found.ensures c.of.result c.of.ensures
