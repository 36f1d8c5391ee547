-- C-14 "Patterns by name": a table of typed texts and replies, and the theorem that the definitions give these replies.
use Rattle.std.specs.Prelude.{◌≡◌, refl, ℕ, List, [], ◌∷◌, map}
use Prim.Native.String as S
use Rattle.rules.specs.Words.{among, keep, any, first_some, same, twice, total, up_to, first_that, first_or_none, one_if}
use Rattle.rules.specs.Board.{on_board, cell_at, cells, is_cell, column_of, row_of, there, around, neighbours, on_first_side, on_last_side, listed, smallest}
use Rattle.rules.specs.Joining.{touches, grow, reached_in, joined}
use Rattle.rules.specs.Text.{bind, give, guard, ◌or_else◌, any_byte, byte, word, tab, line_feed, is_digit, digits, after_digits, spelled, well_spelled, number, number_in}
use Rattle.rules.specs.Lines.{player, header_up_to, letter, place, is_side, side, set_up_line, move_line, dash_line, wait_line}
use Rattle.rules.specs.Tree.{as_waits, as_moves, stone, set_up_cells, cells_of, at_start, every_move, every_wait, move_count, wait_count, moves_of_waits, moves_of_moves, waits_of_waits, waits_of_moves}
use Rattle.rules.specs.Reading.{go, give as give·Reading, within, cell_of, refuse_here, line_here, node_here, this_spot, is_nothing, node_line, in_turn, ended, set_down, read_set_up, read_tree, planted, read_body, headed, read_sheet_up_to, read_move, read_wait}
use Rattle.rules.specs.Written.{how_many_waits, how_many_moves, printed, tabbed, a_line, written_player, written_header, written_place, written_side, written_set_up, written_move, written_wait}
use Rattle.rules.specs.Fair.{in_move, holding, in_every, not_apart, not_elusive, on_set_up, lines_under_move, lines_under_wait, branch, branches, fault_at, first_fault, twice_at, first_on_set_up, first_not_apart, first_twice, first_not_elusive, in_waits, in_moves}
use Rattle.rules.specs.Live.{cells_of_waits, cells_of_moves, and_this, is_live, living, living_after, idle_under, idle_count}
use Rattle.rules.specs.Outcomes.{each_with_each, outcomes, outcome_count, outcomes_of_waits, outcomes_of_moves, count_of_waits, count_of_moves}
use Rattle.rules.specs.Passing.{lists_of_waits, lists_of_moves, lists, stones_of, beginnings, shortest, begins, begins_there, is_passed, passed_among, passed_over}
use Rattle.rules.specs.Decimal.{leading, decimal}
use Rattle.rules.specs.Checks.{◌>>=◌, refuse_if}
use Rattle.rules.specs.Verdict.{told}
use Rattle.rules.specs.Entries.{refuse_fault, refuse_unjoined, fair, satisfying, counts, judged}
use Rattle.rules.specs.Samples.{byte_of, sheet, told_of}
use Rattle.rules.specs.Typed.{in_front, lines_in, run, after_run, in_field, first_field, is_pat_or_use, in_name, name, cell_among, dash, move_typed, wait_typed, times, repeated, use_typed, typed_line, first_typed, pat_typed}
use Rattle.rules.specs.Patterns.{find, right_cells, right_use, read_line, read_lines, kind_of, under_of, is_kind, just_these, is_one_wait, said, not_one_wait, read_pattern, source_tree, source_patterns, source, first_reading, meant, line_text, lines_text, use_text, set_up_text, source_text, has_patterns, expanded_up_to, read_typed_up_to, read_typed}

-- what judge tells of a typed text
unfoldable pub judged_typed : S.String → List ℕ
judged_typed s = told_of (told (judged do
  s ← read_typed (sheet s)
  s ← fair s
  satisfying s))

-- number, line, cell, index, moves, waits, outcomes. (`/` parts lines here, a blank stands for a tab.)
unfoldable pub pattern_table : List (S.String × List ℕ)
pattern_table =
    -- P1 with a bridge for its wait; P8 with three, one of them through a pattern that hands its parameters on and has two that are not used
    ("hex 2 2 D/pat br 2 3/w 2/m $1 0/m $2 0/m b1 1/use br a2 b2/", 0 ∷ 0 ∷ 0 ∷ 0 ∷ 3 ∷ 1 ∷ 2 ∷ [])
    ∷ ("hex 3 2 D/pat br 2 3/w 2/m $1 0/m $2 0/pat two 4 1/use br $3 $4/m - 3/use br b1 c1/use two z9 z9 a2 b2/use br a1 c2/", 0 ∷ 0 ∷ 0 ∷ 0 ∷ 7 ∷ 3 ∷ 8 ∷ [])
    -- one `pat` or `use` line anywhere is enough for the first reading, malformed or not; without one a line after the tree stays 9; 3 is first
    ∷ ("hex 1 1 D/m a1 0/use/", 4 ∷ 3 ∷ 0 ∷ 0 ∷ 0 ∷ 0 ∷ 0 ∷ [])
    ∷ ("hex 1 1 D/m b1 1/use no/", 21 ∷ 3 ∷ 0 ∷ 0 ∷ 0 ∷ 0 ∷ 0 ∷ [])
    ∷ ("hex 2 2 D/m b1 1/w 2/m a2 0/m b2 0/zz/", 9 ∷ 6 ∷ 0 ∷ 0 ∷ 0 ∷ 0 ∷ 0 ∷ [])
    ∷ ("hex 1 20 D/use/", 3 ∷ 1 ∷ 0 ∷ 0 ∷ 0 ∷ 0 ∷ 0 ∷ [])
    -- after the tree: rubbish is 4 at its typed line, a well-formed line 9 at its expanded line; `pat` is out of order
    ∷ ("hex 2 2 D/pat br 2 3/w 2/m $1 0/m $2 0/m b1 1/use br a2 b2/zz/", 4 ∷ 8 ∷ 0 ∷ 0 ∷ 0 ∷ 0 ∷ 0 ∷ [])
    ∷ ("hex 2 2 D/pat br 2 3/w 2/m $1 0/m $2 0/m b1 1/use br a2 b2/m a1 0/", 9 ∷ 6 ∷ 0 ∷ 0 ∷ 0 ∷ 0 ∷ 0 ∷ [])
    ∷ ("hex 1 1 D/m a1 0/pat p 0 2/w 1/m a1 0/", 4 ∷ 3 ∷ 0 ∷ 0 ∷ 0 ∷ 0 ∷ 0 ∷ [])
    -- line order
    ∷ ("hex 1 1 D/m a1 1/use no/x/", 21 ∷ 3 ∷ 0 ∷ 0 ∷ 0 ∷ 0 ∷ 0 ∷ [])
    -- at the `pat` line: cut short, not exactly one wait, 23, all before 21 in the body; a malformed line of the body is 4 at that line
    ∷ ("hex 1 1 D/pat p 0 9/x/", 4 ∷ 2 ∷ 0 ∷ 0 ∷ 0 ∷ 0 ∷ 0 ∷ [])
    ∷ ("hex 1 1 D/pat p 0 2/use no/use no/m a1 0/", 4 ∷ 2 ∷ 0 ∷ 0 ∷ 0 ∷ 0 ∷ 0 ∷ [])
    ∷ ("hex 1 1 D/pat p 0 3/w 1/m a1 1/w 1/m a1 0/", 4 ∷ 2 ∷ 0 ∷ 0 ∷ 0 ∷ 0 ∷ 0 ∷ [])
    ∷ ("hex 2 2 D/pat br 2 3/w 2/m $1 0/m $2 0/pat br 0 1/use no/m b1 0/", 23 ∷ 6 ∷ 0 ∷ 0 ∷ 0 ∷ 0 ∷ 0 ∷ [])
    ∷ ("hex 2 2 D/pat br 2 3/w 2/m $1 0/m $2 0/pat br 0 2/use no/use no/m b1 0/", 4 ∷ 6 ∷ 0 ∷ 0 ∷ 0 ∷ 0 ∷ 0 ∷ [])
    ∷ ("hex 1 1 D/pat p 0 2/x/use no/m a1 0/", 4 ∷ 3 ∷ 0 ∷ 0 ∷ 0 ∷ 0 ∷ 0 ∷ [])
    -- in a body: a `$` above the parameters, `-`, another `pat`, a line without its line feed
    ∷ ("hex 1 1 D/pat p 1 2/w 1/m $2 0/m a1 0/", 4 ∷ 4 ∷ 0 ∷ 0 ∷ 0 ∷ 0 ∷ 0 ∷ [])
    ∷ ("hex 1 1 D/pat p 0 2/w 1/m - 0/m a1 0/", 4 ∷ 4 ∷ 0 ∷ 0 ∷ 0 ∷ 0 ∷ 0 ∷ [])
    ∷ ("hex 1 1 D/pat p 0 2/w 1/pat q 0 1/m a1 0/", 4 ∷ 4 ∷ 0 ∷ 0 ∷ 0 ∷ 0 ∷ 0 ∷ [])
    ∷ ("hex 1 1 D/pat p 0 2/w 1/m a1 0", 4 ∷ 4 ∷ 0 ∷ 0 ∷ 0 ∷ 0 ∷ 0 ∷ [])
    -- in the tree: a `$`, a `-` past the first line
    ∷ ("hex 1 1 D/pat p 0 2/w 1/m a1 0/m $1 0/", 4 ∷ 5 ∷ 0 ∷ 0 ∷ 0 ∷ 0 ∷ 0 ∷ [])
    ∷ ("hex 1 1 D/pat p 0 2/w 1/m a1 0/m - 1/w 1/m - 0/", 4 ∷ 7 ∷ 0 ∷ 0 ∷ 0 ∷ 0 ∷ 0 ∷ [])
    -- 22 with too few and with ten cells, 4 with `-`; 21 in a pattern's own body
    ∷ ("hex 2 2 D/pat br 2 3/w 2/m $1 0/m $2 0/m b1 1/use br a2/", 22 ∷ 7 ∷ 0 ∷ 0 ∷ 0 ∷ 0 ∷ 0 ∷ [])
    ∷ ("hex 2 2 D/pat br 2 3/w 2/m $1 0/m $2 0/m b1 1/use br a2 b2 a1 a1 a1 a1 a1 a1 a1 a1/", 22 ∷ 7 ∷ 0 ∷ 0 ∷ 0 ∷ 0 ∷ 0 ∷ [])
    ∷ ("hex 1 1 D/pat p 1 2/w 1/m $1 0/m a1 1/use p -/", 4 ∷ 6 ∷ 0 ∷ 0 ∷ 0 ∷ 0 ∷ 0 ∷ [])
    ∷ ("hex 1 1 D/pat p 0 1/use p/m a1 0/", 21 ∷ 3 ∷ 0 ∷ 0 ∷ 0 ∷ 0 ∷ 0 ∷ [])
    -- off the board is 5 where the cell stands in the expanded sheet; a `use` as the first line of the tree is 4 at its expanded line; no tree; 24, 11 and 10 of the expanded sheet
    ∷ ("hex 1 1 D/pat p 0 2/w 1/m z9 0/m a1 0/", 0 ∷ 0 ∷ 0 ∷ 0 ∷ 1 ∷ 0 ∷ 1 ∷ [])
    ∷ ("hex 1 1 D/pat p 0 2/w 1/m z9 0/m a1 1/use p/", 5 ∷ 4 ∷ 0 ∷ 0 ∷ 0 ∷ 0 ∷ 0 ∷ [])
    ∷ ("hex 2 2 D/pat br 2 3/w 2/m $1 0/m $2 0/use br a2 b2/", 4 ∷ 2 ∷ 0 ∷ 0 ∷ 0 ∷ 0 ∷ 0 ∷ [])
    ∷ ("hex 2 2 D/pat br 2 3/w 2/m $1 0/m $2 0/", 8 ∷ 2 ∷ 0 ∷ 0 ∷ 0 ∷ 0 ∷ 0 ∷ [])
    ∷ ("hex 2 2 D/pat br 2 3/w 2/m $1 0/m $2 0/m b1 1/use br a2 a2/", 24 ∷ 3 ∷ 0 ∷ 0 ∷ 0 ∷ 0 ∷ 0 ∷ [])
    ∷ ("hex 2 2 D/pat on 1 2/w 1/m $1 0/m b1 1/use on a2/", 11 ∷ 3 ∷ 3 ∷ 0 ∷ 0 ∷ 0 ∷ 0 ∷ [])
    ∷ ("hex 2 2 D/pat on 1 2/w 1/m $1 0/m - 1/w 1/m b1 2/use on a2/use on a2/", 10 ∷ 4 ∷ 3 ∷ 0 ∷ 0 ∷ 0 ∷ 0 ∷ [])
    -- set-up lines come first and count; their 5 and 19 come after the whole first reading
    ∷ ("hex 2 2 D/own b1/pat br 2 3/w 2/m $1 0/m $2 0/m - 1/use br a2 b2/", 0 ∷ 0 ∷ 0 ∷ 0 ∷ 3 ∷ 1 ∷ 2 ∷ [])
    ∷ ("hex 2 2 D/pat br 2 3/w 2/m $1 0/m $2 0/own b1/m - 1/use br a2 b2/", 4 ∷ 6 ∷ 0 ∷ 0 ∷ 0 ∷ 0 ∷ 0 ∷ [])
    ∷ ("hex 2 2 D/own c1/own a1/own a1/m b1 1/use no/", 21 ∷ 6 ∷ 0 ∷ 0 ∷ 0 ∷ 0 ∷ 0 ∷ [])
    ∷ ("hex 2 2 D/own a1/own a1/pat on 1 2/w 1/m $1 0/m b1 1/use on z9/", 19 ∷ 3 ∷ 1 ∷ 0 ∷ 0 ∷ 0 ∷ 0 ∷ [])
    ∷ ("hex 2 2 D/own a1/pat on 1 2/w 1/m $1 0/m b1 1/use on z9/", 5 ∷ 5 ∷ 0 ∷ 0 ∷ 0 ∷ 0 ∷ 0 ∷ [])
    -- names of 1 to 16, 0 to 9 parameters, 1 line at least
    ∷ ("hex 1 1 D/pat abcdefghijklmnopq 0 1/use p/m a1 0/", 4 ∷ 2 ∷ 0 ∷ 0 ∷ 0 ∷ 0 ∷ 0 ∷ [])
    ∷ ("hex 1 1 D/pat p 10 1/use p/m a1 0/", 4 ∷ 2 ∷ 0 ∷ 0 ∷ 0 ∷ 0 ∷ 0 ∷ [])
    ∷ ("hex 1 1 D/pat p 0 0/m a1 0/", 4 ∷ 2 ∷ 0 ∷ 0 ∷ 0 ∷ 0 ∷ 0 ∷ [])
    -- 2 of the expanded text: ten patterns, each using the one before twice
    ∷ ("hex 1 1 D/pat d0 0 2/w 1/m a1 0/pat d1 0 5/w 2/m a1 1/use d0/m a1 1/use d0/pat d2 0 5/w 2/m a1 1/use d1/m a1 1/use d1/pat d3 0 5/w 2/m a1 1/use d2/m a1 1/use d2/pat d4 0 5/w 2/m a1 1/use d3/m a1 1/use d3/pat d5 0 5/w 2/m a1 1/use d4/m a1 1/use d4/pat d6 0 5/w 2/m a1 1/use d5/m a1 1/use d5/pat d7 0 5/w 2/m a1 1/use d6/m a1 1/use d6/pat d8 0 5/w 2/m a1 1/use d7/m a1 1/use d7/pat d9 0 5/w 2/m a1 1/use d8/m a1 1/use d8/pat d10 0 5/w 2/m a1 1/use d9/m a1 1/use d9/m a1 2/use d10/use d7/", 2 ∷ 0 ∷ 0 ∷ 0 ∷ 0 ∷ 0 ∷ 0 ∷ [])
    ∷ []

unfoldable pub typed_replies : List (S.String × List ℕ) → List (List ℕ)
typed_replies rows = map (λ (row : S.String × List ℕ). judged_typed row.0) rows

unfoldable pub typed_expected : List (S.String × List ℕ) → List (List ℕ)
typed_expected rows = map (λ (row : S.String × List ℕ). row.1) rows

pub pattern_samples : typed_replies pattern_table ≡ typed_expected pattern_table
unfolding among keep any first_that first_some same twice total up_to first_or_none one_if on_board cell_at cells is_cell column_of row_of there around neighbours on_first_side on_last_side listed smallest touches grow reached_in joined bind give guard ◌or_else◌ any_byte byte word tab line_feed is_digit digits after_digits spelled well_spelled number number_in player header_up_to letter place is_side side set_up_line move_line dash_line wait_line as_waits as_moves stone set_up_cells cells_of at_start every_move every_wait move_count wait_count moves_of_waits moves_of_moves waits_of_waits waits_of_moves go give·Reading within cell_of refuse_here line_here node_here this_spot is_nothing node_line in_turn ended set_down read_set_up read_tree planted read_body headed read_sheet_up_to read_move read_wait in_move holding in_every not_apart not_elusive on_set_up how_many_waits how_many_moves lines_under_move lines_under_wait branch branches fault_at first_fault twice_at first_on_set_up first_not_apart first_twice first_not_elusive in_waits in_moves cells_of_waits cells_of_moves and_this is_live living living_after idle_under idle_count each_with_each outcomes outcome_count outcomes_of_waits outcomes_of_moves count_of_waits count_of_moves lists_of_waits lists_of_moves lists stones_of beginnings shortest begins begins_there is_passed passed_among passed_over ◌>>=◌ refuse_if refuse_fault refuse_unjoined fair satisfying judged byte_of sheet told_of counts in_front lines_in run after_run in_field first_field is_pat_or_use in_name name cell_among dash move_typed wait_typed times repeated use_typed typed_line first_typed pat_typed find right_cells right_use read_line read_lines kind_of under_of is_kind just_these is_one_wait said not_one_wait read_pattern source_tree source_patterns source first_reading meant line_text lines_text use_text set_up_text source_text has_patterns expanded_up_to read_typed_up_to leading decimal printed tabbed a_line written_player written_header written_place written_side written_set_up written_move written_wait judged_typed pattern_table typed_replies typed_expected
pattern_samples = refl
