-- What meets the hypotheses of the theorems: the sample P1, and a game on it; the same from set-up stones; P3, with a wait of one move.
use mathlib.Core.Path.{◌≡◌, refl, sym, ap, subst, ◌∙◌}
use Prim.Native.Nat.{◌<◌}
use native.Mathlib.Omega.{arith}
use mathlib.Core.List.{[], ◌∷◌}
use mathlib.Core.Option.{none}
use lib.Dec.{T}
use lib.ListN.{drop}
use Rattle.rules.specs.Sizes.{least_workspace}
use Rattle.rules.specs.Words.{at_head}
use Rattle.rules.specs.Board.{smallest}
use Rattle.rules.specs.Text.{Bytes}
use Rattle.rules.specs.Lines.{Header, header_line, set_up_line}
use Rattle.rules.specs.Tree.{no_waits, no_moves, move, every_wait, waits_of_waits}
use Rattle.rules.specs.Choice.{the_first, one_later}
use Rattle.rules.specs.Answering.{start, answered, next, is_empty}
use Rattle.rules.specs.Plain.{IsSheet, WellRead, IsElusive}
use Rattle.rules.specs.Promise.{Ruled, no_move, one_move_lem, MovesToEmpty}
use Rattle.rules.specs.Holder.{Chosen, no_round, round, live_choice}
use Rattle.rules.specs.Spare.{StillAccepted, game_after}
use Rattle.rules.specs.Passing.{lists}
use Rattle.rules.specs.Entries.{read, read_up_to, fair, judge, judged}
use Rattle.rules.specs.Stopping.{PassedBy, LookedAndPassed}
use Rattle.rules.specs.SameReplies.{SameReplies}
use Rattle.rules.specs.UpTo.{NoSizeFrom}
use Rattle.rules.specs.Before.{WithoutSetUp, SameWithoutSetUp}
use Rattle.rules.specs.Once.{WithoutTwice, fair_without24}
use Rattle.rules.specs.Samples.{byte_of, sheet, P1, P3, P8, p1, p3, p8, p8_first, p8_second, stones, on_stones, spare, on_spare}
use Rattle.rules.proofs.Computed.{p1_accepted, p1_opens, p1_header, p3_read, stones_accepted, stones_open, spare_taken, spare_answers, p8_counts, p8_passed}
use Rattle.rules.specs.declared.Verdict.TheVariants.{Accepted}
use Rattle.rules.proofs.Steps.{some_inj}
use Rattle.rules.proofs.Lines.{header_back, no_set_up_line}
use Rattle.rules.proofs.Unread.{read_no_line}
use Rattle.rules.proofs.UpTo.{small_same}
use Rattle.rules.proofs.Before.{same_without}
use Rattle.rules.proofs.Once.{same_once, accepted_once}
use Rattle.rules.proofs.Spare.{live_answers, spared_as_before}
use Rattle.rules.proofs.Stopping.{passed_exactly, all_looked_or_passed}
use Rattle.rules.proofs.Written.{reads_exactly}
use Rattle.rules.proofs.Given.{accepted_exactly}
use Rattle.rules.proofs.Cover.{demand_3}
use Rattle.rules.proofs.OneMove.{one_move_faulty}

-- P1 is a sheet by document 01, and well read
pub p1_sheet : IsSheet least_workspace (sheet P1) p1
p1_sheet = (accepted_exactly least_workspace (sheet P1) p1).0 p1_accepted

pub p1_well : WellRead p1
p1_well = p1_sheet.fair.read.spells.well

-- a game of one round by the rule, and one by choice: the opponent begins with 3
pub p1_ruled : Ruled p1 (start p1) (3 ∷ []) (answered (start p1) 3)
p1_ruled = one_move_lem p1_opens.0 p1_opens.1 no_move

pub p1_chosen : Chosen p1 (start p1) 1 (unfold start in next (start p1) 3 (the_first (one_later (the_first tt))))
unfolding start
p1_chosen = round 3 (the_first (one_later (the_first tt))) p1_opens.0 p1_opens.1 p1_opens.2 no_round

-- an opponent who moves to an empty cell until the sides are joined
pub p1_opponent : MovesToEmpty p1 (λ g. smallest p1.board (is_empty p1 g))
p1_opponent = (demand_3 least_workspace (sheet P1) p1 p1_accepted).has_opponent

-- P1's header has no size from 14 to 19, so it gets the reply that it got
pub p1_small : NoSizeFrom 14 (sheet P1)
p1_small =
    record {
      columns = λ x e. subst (λ (z : Header × Bytes). z.0.board.columns < 14) (some_inj (sym p1_header ∙ e)) (omega arith);
      rows = λ x e. subst (λ (z : Header × Bytes). z.0.board.rows < 14) (some_inj (sym p1_header ∙ e)) (omega arith);
    }

pub p1_same : SameReplies (sheet P1) (λ w. read_up_to 13 w (sheet P1)) fair
p1_same = small_same 13 (omega arith) (sheet P1) p1_small

-- no set-up line stands in P1, so it gets the reply that it got
pub p1_bare : WithoutSetUp (sheet P1)
p1_bare =
    record {
      no_line = λ b p left size e.
          let same = some_inj (sym p1_header ∙ ap header_line e ∙ header_back b p left size) in
          read_no_line left (subst (λ (z : Header × Bytes). set_up_line z.1 ≡ none) same (unfold sheet byte_of in no_set_up_line 109 _ (λ q. omega arith)));
    }

pub p1_same_bare : SameWithoutSetUp (sheet P1)
p1_same_bare = same_without (sheet P1) p1_bare

-- no wait of P1 has a branch twice, so it gets the reply that it got
pub p1_once : WithoutTwice (sheet P1)
p1_once = accepted_once least_workspace (sheet P1) p1 p1_accepted

pub p1_same_once : SameReplies (sheet P1) (λ w. read w (sheet P1)) fair_without24
p1_same_once = same_once (sheet P1) p1_once

-- from set-up stones of both sides: a sheet, and a game of one round by the rule
pub stones_sheet : IsSheet least_workspace (sheet stones) on_stones
stones_sheet = (accepted_exactly least_workspace (sheet stones) on_stones).0 stones_accepted

pub stones_ruled : Ruled on_stones (start on_stones) (3 ∷ []) (answered (start on_stones) 3)
stones_ruled = one_move_lem stones_open.0 stones_open.1 no_move

-- a sheet with a move that isn't live: it is a sheet, and was one while outcomes ran over every move; what the rule answers on it
pub spare_sheet : IsSheet least_workspace (sheet spare) on_spare
spare_sheet = (accepted_exactly least_workspace (sheet spare) on_spare).0 spare_taken.0

pub spare_still : StillAccepted least_workspace (sheet spare) on_spare
spare_still = spared_as_before.accepts least_workspace (sheet spare) on_spare spare_taken.1

pub spare_answer : T (live_choice on_spare.root.waits (the_first (one_later (the_first tt))))
unfolding start game_after
spare_answer =
    live_answers on_spare spare_sheet.fair.read.spells.well spare_sheet.fair.apart spare_sheet.fair.elusive [] 4
    (the_first (one_later (the_first tt))) spare_answers

-- P8: its second outcome is passed over, and its outcomes are those looked at and those passed over
pub p8_sheet : IsSheet least_workspace (sheet P8) p8
p8_sheet = (accepted_exactly least_workspace (sheet P8) p8).0 p8_passed.0

pub p8_second_passed : PassedBy p8 (p8_first ∷ []) p8_second
p8_second_passed = (passed_exactly p8 p8_sheet.fair.read.spells.well (p8_first ∷ []) (drop 2 (lists p8)) p8_second p8_passed.2).0 p8_passed.3

pub p8_all : LookedAndPassed least_workspace (sheet P8) p8_counts
unfolding judge judged
p8_all = all_looked_or_passed least_workspace (sheet P8) p8_counts (ap judged p8_passed.0 ∙ ap Accepted p8_passed.1)

-- P3 is read, and the one move of its wait is its fault
pub p3_faulty : IsElusive p3.board (record { line = 3; moves = move 4 3 no_waits no_moves }) → ⊥
unfolding every_wait waits_of_waits
p3_faulty = one_move_faulty p3 ((reads_exactly (sheet P3) p3).0 p3_read).well _ at_head 4 3 no_waits refl
