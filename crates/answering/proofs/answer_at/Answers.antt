-- Where an open wait holds the cell, the answer is under it; otherwise it is the first move under the first open wait.
use Rattle.std.proofs.Common.{arith, sym, ◌∙◌}
use Rattle.std.proofs.lemmas.Option.{same_Some}
use Rattle.answering.proofs.Choosing.{answer_touched, answer_free, free_waiting}
use Rattle.answering.proofs.Searching.{waiting_first}
use Rattle.answering.proofs.answer_at.Goals as goal

pub unwrap-first-requires : goal.unwrap-first-requires
unwrap-first-requires c =
    let p = c.requires.1 in
    let f = answer_free _ p.4 (c.in_default.ensures _ _ _ p.4.are_open) in
    rw (waiting_first _ c.first_open.ensures (free_waiting _ p.4 f))

pub returns-in_default : goal.returns-in_default
returns-in_default c n₁ b ws k a =
    let f = answer_free _ a (c.in_default.ensures n₁ b ws a.are_open) in
    let g = same_Some _ _ (sym c.unwrap-first.ensures ∙ waiting_first _ c.first_open.ensures (free_waiting _ a f)) in
    record { wait_is = g ∙ sym f.wait_is; move_is = omega (arith, g, f.move_is) }

pub overflow_add-first : goal.overflow_add-first
overflow_add-first c =
    let p = c.requires.1 in
    omega (arith, (answer_touched _ p.4 _ (c.in-At.ensures p.0 p.1 p.2 p.4.are_open)).room)

pub first_without-node-requires : goal.first_without-node-requires
first_without-node-requires c =
    let p = c.requires.1 in
    (c.requires.0, (_, _, _, (answer_touched _ p.4 _ (c.in-At.ensures p.0 p.1 p.2 p.4.are_open)).dodge))

pub returns : goal.returns
returns c n₁ b ws k a =
    let d = answer_touched _ a _ (c.in-At.ensures n₁ b ws a.are_open) in
    record { wait_is = sym d.wait_is; move_is = c.first_without-node.ensures _ _ _ d.dodge ∙ sym d.move_is }
