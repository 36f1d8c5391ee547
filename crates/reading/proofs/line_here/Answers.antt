-- The line of a node, refusal by refusal.
use mathlib.Core.Path.{sym, ap, ◌∙◌, subst}
use lib.Dec.{T}
use lib.ListN.{length}
use Rattle.std.specs.Prelude.{Some}
use Rattle.std.proofs.lemmas.Bool.{eqb-true, eqb-false}
use Rattle.std.proofs.lemmas.List.{nil_from_length}
use Rattle.std.proofs.lemmas.Result.{err_from_is_err_and}
use Rattle.rules.specs.Lines.{reader_of}
use Rattle.rules.proofs.NodeLine.{LineBegins, sees_end, sees_many, sees_bad, sees_deep, sees_off}
use Rattle.lines.specs.Seen.{Reads, line_seen}
use Rattle.reading.specs.Spots.{spot_of}
use Rattle.reading.proofs.OnBoard.{numbered_off}
use Rattle.reading.proofs.Refusing.{refused_with}
use Rattle.reading.proofs.Line.{line_refused, line_got}
use Rattle.reading.proofs.line_here.Goals as goal
use Rattle.reading.proofs.line_here.Goals.{Else-spot-eq-MOST_NODES, In_ok-said}

-- past the first two tests a line begins
begins : (c : Else-spot-eq-MOST_NODES) → LineBegins (spot_of c.args.spot)
begins c = record { some_text = λ e. eqb-false _ _ (sym c.if-is_empty.ensures) (ap length e); not_full = c.if-spot-eq-MOST_NODES.false }

pub returns-then-is_empty : goal.returns-then-is_empty
returns-then-is_empty c = line_refused _ _ _ _ _ (sees_end (nil_from_length _ (eqb-true _ _ (sym c.if-is_empty.ensures))))

pub returns-then-spot-eq-MOST_NODES : goal.returns-then-spot-eq-MOST_NODES
returns-then-spot-eq-MOST_NODES c =
    line_refused _ _ _ _ _ (sees_many (λ e. eqb-false _ _ (sym c.if-is_empty.ensures) (ap length e)) c.if-spot-eq-MOST_NODES.true)

-- what `node_line` read
line_read : (c : In_ok-said) → Reads c.args.spot.text.now (reader_of c.args.kind) (line_seen (Some (c.in_ok-said.said, c.in_ok-said.text)))
line_read c = let r = c.node_line.ensures in rw c.in_ok-said.ensures.ok_part at r

pub returns-in_err-said : goal.returns-in_err-said
returns-in_err-said c =
    let p = err_from_is_err_and c.from_residual.result c.from_residual.ensures.1 in
    let e = c.in_err-said.ensures in
    let r = c.node_line.ensures in
    let q = rw e.ok_part at r in
    rw (p.1, p.2, refused_with e.ok_part e.value) (line_refused _ _ _ _ _ (sees_bad (begins (goal.at.returns-in_err-said c).Else-spot-eq-MOST_NODES) (sym q.same)))

pub returns-then-levels-eq0 : goal.returns-then-levels-eq0
returns-then-levels-eq0 c =
    line_refused _ _ _ _ _
    (sees_deep (begins (goal.at.returns-then-levels-eq0 c).Else-spot-eq-MOST_NODES) _ (sym (line_read (goal.at.returns-then-levels-eq0 c).In_ok-said).same) c.if-levels-eq0.true)

pub returns-in_err-cell : goal.returns-in_err-cell
returns-in_err-cell c =
    let p = err_from_is_err_and c.from_residual-in_err-cell.result c.from_residual-in_err-cell.ensures.1 in
    let e = c.in_err-cell.ensures in
    rw (p.1, p.2, refused_with e.ok_part e.value)
    (line_refused _ _ _ _ _
    (sees_off (begins (goal.at.returns-in_err-cell c).Else-spot-eq-MOST_NODES) _ (sym (line_read (goal.at.returns-in_err-cell c).In_ok-said).same) c.if-levels-eq0.false
    (λ h. subst T (numbered_off _ _ (sym e.ok_part ∙ c.number_on.ensures)) h)))

pub returns : goal.returns
returns c =
    line_got _ _ _ _ (begins (goal.at.returns c).Else-spot-eq-MOST_NODES) _ c.in_ok-said.text _ (line_read (goal.at.returns c).In_ok-said) c.if-levels-eq0.false
    (sym c.in_ok-cell.ensures.ok_part ∙ c.number_on.ensures)
