-- The tables of `specs/Samples`, shown from the definitions: P1 to P12 as one theorem, the traps as another; and what meets the
-- hypotheses of the theorems.
use Rattle.std.specs.Prelude.{◌≡◌, refl, not, [], ◌∷◌, T, drop}
use Rattle.std.proofs.Math.Option.{some}
use Rattle.rules.specs.Sizes.{least_workspace}
use Rattle.rules.specs.Words.{among, keep, any, first_some, same, twice, total, up_to, first_that, first_or_none, one_if}
use Rattle.rules.specs.Board.{on_board, cell_at, cells, is_cell, column_of, row_of, there, around, neighbours, on_first_side, on_last_side, listed, smallest}
use Rattle.rules.specs.Joining.{touches, grow, reached_in, joined}
use Rattle.rules.specs.Text.{bind, give, guard, ◌or_else◌, any_byte, byte, word, tab, line_feed, is_digit, digits, after_digits, spelled, well_spelled, number, number_in}
use Rattle.rules.specs.Lines.{player, header_up_to, header_line, letter, place, is_side, side, set_up_line, move_line, dash_line, wait_line}
use Rattle.rules.specs.Tree.{as_waits, as_moves, stone, set_up_cells, cells_of, own_cells, at_start, every_move, every_wait, move_count, wait_count, moves_of_waits, moves_of_moves, waits_of_waits, waits_of_moves}
use Rattle.rules.specs.Reading.{go, give as give·Reading, within, cell_of, refuse_here, line_here, node_here, this_spot, is_nothing, node_line, in_turn, ended, set_down, read_set_up, read_tree, planted, read_body, headed, read_sheet_up_to, read_sheet, read_move, read_wait, got, refused}
use Rattle.rules.specs.Written.{how_many_waits, how_many_moves}
use Rattle.rules.specs.Fair.{in_move, holding, in_every, not_apart, not_elusive, on_set_up, lines_under_move, lines_under_wait, branch, branches, fault_at, first_fault, twice_at, first_on_set_up, first_not_apart, first_twice, first_not_elusive, in_waits, in_moves}
use Rattle.rules.specs.Live.{cells_of_waits, cells_of_moves, and_this, is_live, living, living_after, idle_under, idle_count}
use Rattle.rules.specs.Outcomes.{each_with_each, outcomes, outcome_count, outcomes_of_waits, outcomes_of_moves, count_of_waits, count_of_moves}
use Rattle.rules.specs.Passing.{lists_of_waits, lists_of_moves, lists, stones_of, beginnings, shortest, begins, begins_there, is_passed, passed_among, passed_over, looked_in_waits, looked_in_moves, looked_at}
use Rattle.rules.specs.Choice.{the_first, one_later}
use Rattle.rules.specs.Answering.{smallest_line, first_line, touched_answer, free_answer, answer, start, mine, is_over, is_taken, is_empty, next, answered_by, answered}
use Rattle.rules.specs.Entries.{◌>>=◌, refuse_if, refuse_fault, refuse_unjoined, read_text_up_to, read_up_to, fair, satisfying, accepted, counts, judged, judge, step, rounds, refused_play, played_out, play_on, play, outcome_cells, named, outcome, workspace_after, room_after, play_shown, outcome_shown}
use Rattle.rules.specs.Holder.{live_there, live_choice, allowed}
use Rattle.rules.specs.Spare.{accepted_over_all}
use Rattle.rules.specs.declared.Counts.{Counts}
use Rattle.rules.specs.declared.Verdict.TheVariants.{NoSuchCell}
use Rattle.rules.specs.Samples.{byte_of, sheet, told_of, counts_of, looked_of, reply, P1, P3, P8, p1, p3, p8, p8_first, p8_second, large, stones, on_stones, spare, on_spare, table, traps, replies, expected}

-- in P1 the opponent may begin with 3, and the holder may answer 4
abbrev Opens : Type 0
Opens = T (not (is_over p1 (start p1))) × T (is_empty p1 (start p1) 3) × T (allowed 3 p1.root.waits (the_first (one_later (the_first tt))))

-- from set-up stones the opponent may begin with 3
abbrev StonesOpen : Type 0
StonesOpen = T (not (is_over on_stones (start on_stones))) × T (is_empty on_stones (start on_stones) 3)

-- a sheet with a spare branch is accepted, and was before; the opponent may begin with 4, and the rule answers 5
abbrev SpareTaken : Type 0
SpareTaken = (accepted least_workspace (sheet spare) ≡ got on_spare) × (accepted_over_all least_workspace (sheet spare) ≡ got on_spare)

abbrev SpareAnswer : Type 0
SpareAnswer = answer 4 on_spare.root.waits ≡ some (the_first (one_later (the_first tt)))

-- P8 is accepted with these counts, and its second outcome is passed over
abbrev pub p8_counts : Counts
p8_counts = record { moves = 7; waits = 3; outcomes = 8; passed = 3; idle = 0 }

abbrev PassedOne : Type 0
PassedOne = (accepted least_workspace (sheet P8) ≡ got p8) × (counts p8 ≡ p8_counts) × (lists p8 ≡ p8_first ∷ p8_second ∷ drop 2 (lists p8))
    × T (is_passed p8.board p8.player (own_cells p8.set_up) (p8_first ∷ []) p8_second)

-- on 19 by 19 the opponent may move to 361, the answer is 1, and 362 is no cell
abbrev LastCell : Type 0
LastCell = (step large (start large) 361 ≡ got (answered (start large) 361)) × ((answered (start large) 361).answers ≡ 1 ∷ []) × (step large (start large) 362 ≡ refused NoSuchCell)

computed : (replies table ≡ expected table) × (replies traps ≡ expected traps) × (accepted least_workspace (sheet P1) ≡ got p1) × Opens × (read_sheet (sheet P3) ≡ got p3)
    × (header_line (sheet P1) ≡ some (record { board = p1.board; player = p1.player }, sheet "m b1 1/w 2/m a2 0/m b2 0/"))
    × LastCell × (accepted least_workspace (sheet stones) ≡ got on_stones) × StonesOpen
    × SpareTaken × SpareAnswer × PassedOne
unfolding among keep any first_that first_some same twice total up_to first_or_none one_if on_board cell_at cells is_cell column_of row_of there around neighbours on_first_side on_last_side listed smallest touches grow reached_in joined bind give guard ◌or_else◌ any_byte byte word tab line_feed is_digit digits after_digits spelled well_spelled number number_in player header_up_to letter place is_side side set_up_line move_line dash_line wait_line as_waits as_moves stone set_up_cells cells_of at_start every_move every_wait move_count wait_count moves_of_waits moves_of_moves waits_of_waits waits_of_moves go give·Reading within cell_of refuse_here line_here node_here this_spot is_nothing node_line in_turn ended set_down read_set_up read_tree planted read_body headed read_sheet_up_to read_move read_wait in_move holding in_every not_apart not_elusive on_set_up how_many_waits how_many_moves lines_under_move lines_under_wait branch branches fault_at first_fault twice_at first_on_set_up first_not_apart first_twice first_not_elusive in_waits in_moves cells_of_waits cells_of_moves and_this is_live living living_after idle_under idle_count each_with_each outcomes outcome_count outcomes_of_waits outcomes_of_moves count_of_waits count_of_moves lists_of_waits lists_of_moves lists stones_of beginnings shortest begins begins_there is_passed passed_among passed_over looked_in_waits looked_in_moves looked_at live_there live_choice allowed smallest_line first_line touched_answer free_answer answer start mine is_over is_taken is_empty next answered_by answered ◌>>=◌ refuse_if refuse_fault refuse_unjoined read_up_to read_text_up_to fair satisfying accepted counts judged judge step rounds refused_play played_out play_on play outcome_cells named outcome accepted_over_all workspace_after room_after play_shown outcome_shown byte_of sheet told_of counts_of looked_of reply table traps replies expected
computed = (refl, refl, refl, (tt, tt, tt), refl, refl, (refl, refl, refl), refl, (tt, tt), (refl, refl), refl, (refl, refl, refl, tt))

pub samples : replies table ≡ expected table
samples = computed.0

pub traps_told : replies traps ≡ expected traps
traps_told = computed.1

-- what meets the hypotheses of the theorems: P1 is accepted, a game on it may begin, and P3 is read
pub p1_accepted : accepted least_workspace (sheet P1) ≡ got p1
p1_accepted = computed.2

pub p1_opens : Opens
p1_opens = computed.3

pub p3_read : read_sheet (sheet P3) ≡ got p3
p3_read = computed.4

-- P1's header has no size from 14 to 19
pub p1_header : header_line (sheet P1) ≡ some (record { board = p1.board; player = p1.player }, sheet "m b1 1/w 2/m a2 0/m b2 0/")
p1_header = computed.5

pub last_cell : LastCell
last_cell = computed.6

-- a sheet with set-up stones of both sides is accepted, and a game on it may begin
pub stones_accepted : accepted least_workspace (sheet stones) ≡ got on_stones
stones_accepted = computed.7

pub stones_open : StonesOpen
stones_open = computed.8

pub spare_taken : SpareTaken
spare_taken = computed.9

pub spare_answers : SpareAnswer
spare_answers = computed.10

pub p8_passed : PassedOne
p8_passed = computed.11
