-- "Sample sheets" and "Traps for the setter's tool": two tables of requests and replies, P1 to P12 the first.
use Rattle.std.specs.Prelude.{ℕ, ◌+◌, List, [], ◌∷◌, map, eqb, if◌then◌else◌}
use Prim.Native.Char.{code}
use Prim.Native.String as S
use Rattle.rules.specs.Sizes.{least_workspace}
use Rattle.rules.specs.Words.{one_if}
use Rattle.rules.specs.Text.{Bytes}
use Rattle.rules.specs.Lines.{own, opp}
use Rattle.rules.specs.Tree.{Waits, no_waits, wait, Moves, no_moves, move, Move, Sheet}
use Rattle.rules.specs.Verdict.{told}
use Rattle.rules.specs.Reading.{Result, refused, got, read_sheet}
use Rattle.rules.specs.Outcomes.{outcome_count}
use Rattle.rules.specs.Passing.{passed_over, looked_at}
use Rattle.rules.specs.Entries.{judge, play, outcome}
use Rattle.rules.specs.declared.Told.{Told}
use Rattle.rules.specs.declared.Player.TheVariants.{D}

-- `/` parts lines here, a blank stands for a tab. (The last line ends in `/` too.)
unfoldable pub byte_of : ℕ → ℕ
byte_of b = if eqb b 47 then 10 else if eqb b 32 then 9 else b

unfoldable pub sheet : S.String → Bytes
sheet S.[] = []
sheet (S.◌∷◌ c s) = byte_of (code c) ∷ sheet s

pub data Request : Type 0 where
  judging : S.String → Request
  counting : S.String → Request
  looking : S.String → Request
  playing : S.String → List ℕ → Request
  naming : S.String → ℕ → Request

-- of judge: number, line, cell, index, moves, waits, outcomes; or number, moves, waits, outcomes, how many outcomes are passed over and
-- how many moves aren't live; of a sheet that reads: outcomes, how many are looked at and how many are passed over; of play: number,
-- place, 1 where play is over, the answers; of outcome: number, the cells
unfoldable pub told_of : Told → List ℕ
told_of v = v.number ∷ v.line ∷ v.cell ∷ v.index ∷ v.counts.moves ∷ v.counts.waits ∷ v.counts.outcomes ∷ []

unfoldable pub counts_of : Told → List ℕ
counts_of v = v.number ∷ v.counts.moves ∷ v.counts.waits ∷ v.counts.outcomes ∷ v.counts.passed ∷ v.counts.idle ∷ []

unfoldable pub looked_of : Result Sheet → List ℕ
looked_of (refused v) = []
looked_of (got s) = outcome_count s ∷ looked_at s ∷ passed_over s ∷ []

unfoldable pub reply : Request → List ℕ
reply (judging s) = told_of (told (judge least_workspace (sheet s)))
reply (counting s) = counts_of (told (judge least_workspace (sheet s)))
reply (looking s) = looked_of (read_sheet (sheet s))
reply (playing s xs) =
    let r = play least_workspace (sheet s) xs 100 in
    (told r.verdict).number ∷ r.place ∷ one_if r.over ∷ r.answers
reply (naming s i) =
    let r = outcome least_workspace (sheet s) i 100 in
    (told r.verdict).number ∷ r.cells

abbrev pub P1 : S.String
P1 = "hex 2 2 D/m b1 1/w 2/m a2 0/m b2 0/"

-- the same on 19 columns
abbrev P1_19 : S.String
P1_19 = "hex 19 2 D/m b1 1/w 2/m a2 0/m b2 0/"

abbrev pub P3 : S.String
P3 = "hex 2 2 D/m b1 1/w 1/m a2 0/"

abbrev pub P8 : S.String
P8 = "hex 3 2 D/m - 3/w 2/m b1 0/m c1 0/w 2/m a2 0/m b2 0/w 2/m a1 0/m c2 0/"

-- the trees that P1 and P3 write
abbrev pub on_b1 : Moves → Sheet
on_b1 ms = record { board = record { columns = 2; rows = 2 }; player = D; set_up = []; root = record { line = 2; cell = 2; waits = wait 3 ms no_waits } }

abbrev pub p1 : Sheet
p1 = on_b1 (move 4 3 no_waits (move 5 4 no_waits no_moves))

abbrev pub p3 : Sheet
p3 = on_b1 (move 4 3 no_waits no_moves)

-- the tree that P8 writes, a wait for one of two cells at a time, and the moves of its first two outcomes: b1 and a2 join
abbrev pub either : (line c d : ℕ) → Waits → Waits
either line c d ws = wait line (move (line + 1) c no_waits (move (line + 2) d no_waits no_moves)) ws

abbrev pub p8 : Sheet
p8 =
    record {
      board = record { columns = 3; rows = 2 };
      player = D;
      set_up = [];
      root = record { line = 2; cell = 0; waits = either 3 2 3 (either 6 4 5 (either 9 1 6 no_waits)) };
    }

abbrev leaf : (line cell : ℕ) → Move
leaf line cell = record { line = line; cell = cell; waits = no_waits }

abbrev pub p8_first : List Move
p8_first = p8.root ∷ leaf 4 2 ∷ leaf 7 4 ∷ leaf 10 1 ∷ []

abbrev pub p8_second : List Move
p8_second = p8.root ∷ leaf 4 2 ∷ leaf 7 4 ∷ leaf 11 6 ∷ []

-- on 19 by 19 a root without a stone, and a wait for a1 or b1
abbrev pub large : Sheet
large = record { board = record { columns = 19; rows = 19 }; player = D; set_up = []; root = record { line = 2; cell = 0; waits = wait 3 (move 4 1 no_waits (move 5 2 no_waits no_moves)) no_waits } }

-- a row: its name in the paper, what is asked, and the reply
pub record Row : Type 0 where
  pub name : S.String
  pub asks : Request
  pub expects : List ℕ

abbrev row : S.String → Request → List ℕ → Row
row n q r = record { name = n; asks = q; expects = r }

unfoldable pub table : List Row
table =
    row "P1" (judging P1) (0 ∷ 0 ∷ 0 ∷ 0 ∷ 3 ∷ 1 ∷ 2 ∷ [])
    ∷ row "P2" (judging "hex 2 2 D/m a1 1/w 2/m a2 0/m b2 0/") (13 ∷ 0 ∷ 0 ∷ 1 ∷ 0 ∷ 0 ∷ 0 ∷ [])
    ∷ row "P3" (judging P3) (11 ∷ 3 ∷ 3 ∷ 0 ∷ 0 ∷ 0 ∷ 0 ∷ [])
    ∷ row "P4" (judging "hex 2 2 D/m b1 1/w 2/m a2 0/m b1 0/") (10 ∷ 2 ∷ 2 ∷ 0 ∷ 0 ∷ 0 ∷ 0 ∷ [])
    ∷ row "P5" (judging "hex 2 2 D/m b1 2/w 2/m a2 0/m b2 0/w 2/m a1 0/m a2 0/") (10 ∷ 2 ∷ 3 ∷ 0 ∷ 0 ∷ 0 ∷ 0 ∷ [])
    ∷ row "P6" (judging "hex 1 1 D/m a1 0/") (0 ∷ 0 ∷ 0 ∷ 0 ∷ 1 ∷ 0 ∷ 1 ∷ [])
    ∷ row "P7" (judging "hex 1 1 D/m - 0/") (13 ∷ 0 ∷ 0 ∷ 0 ∷ 0 ∷ 0 ∷ 0 ∷ [])
    ∷ row "P8" (judging P8) (0 ∷ 0 ∷ 0 ∷ 0 ∷ 7 ∷ 3 ∷ 8 ∷ [])
    ∷ row "P9" (judging "hex 3 2 D/m - 2/w 2/m b1 0/m c1 0/w 2/m a2 0/m b2 0/") (13 ∷ 0 ∷ 0 ∷ 2 ∷ 0 ∷ 0 ∷ 0 ∷ [])
    ∷ row "P10" (playing P1 (3 ∷ [])) (0 ∷ 0 ∷ 1 ∷ 4 ∷ [])
    ∷ row "P11" (playing P1 (3 ∷ 1 ∷ [])) (15 ∷ 2 ∷ 0 ∷ [])
    ∷ row "P12" (playing P8 (2 ∷ 5 ∷ 1 ∷ [])) (0 ∷ 0 ∷ 1 ∷ 3 ∷ 4 ∷ 6 ∷ [])
    ∷ []

abbrev two_waits : S.String
two_waits = "hex 3 2 D/m b1 2/w 2/m a1 0/m c1 0/w 2/m a2 0/m b2 0/"

-- set-up stones of both sides before a tree, the sheet that they write, and own set-up stones that join already
abbrev pub stones : S.String
stones = "hex 2 2 D/opp a1/own b1/m - 1/w 2/m a2 0/m b2 0/"

abbrev pub on_stones : Sheet
on_stones =
    record {
      board = record { columns = 2; rows = 2 };
      player = D;
      set_up = record { side = opp; cell = 1 } ∷ record { side = own; cell = 2 } ∷ [];
      root = record { line = 4; cell = 0; waits = wait 5 (move 6 3 no_waits (move 7 4 no_waits no_moves)) no_waits };
    }

abbrev pub joined_stones : S.String
joined_stones = "hex 2 2 D/own b1/own b2/m - 0/"

-- P1 with a typing slip: its wait has a branch twice
abbrev twins : S.String
twins = "hex 2 2 D/m b1 1/w 2/m a2 0/m a2 0/"

-- a spare branch: b1 and a2 or b2 join, so c1 is never answered; and the sheet that it writes
abbrev pub spare : S.String
spare = "hex 3 2 D/m b1 1/w 3/m a2 0/m b2 0/m c1 1/w 2/m a2 0/m b2 0/"

abbrev pub on_spare : Sheet
on_spare =
    record {
      board = record { columns = 3; rows = 2 };
      player = D;
      set_up = [];
      root =
          record {
            line = 2;
            cell = 2;
            waits = wait 3 (move 4 4 no_waits (move 5 5 no_waits (move 6 3 (wait 7 (move 8 4 no_waits (move 9 5 no_waits no_moves)) no_waits) no_moves))) no_waits;
          };
    }

-- the second move has all cells of the first, the third has not: the second isn't live and the third is
abbrev live_again : S.String
live_again = "hex 3 2 D/m b1 1/w 3/m a2 1/w 2/m a1 0/m c1 0/m c1 1/w 2/m a2 0/m a1 0/m b2 0/"

-- under a move that isn't live a wait has two live moves and one that isn't
abbrev spare_under_spare : S.String
spare_under_spare = "hex 3 2 D/m b1 1/w 3/m a2 0/m b2 0/m a1 1/w 3/m c1 0/m c2 0/m b2 0/"

-- b1 and a2 join, b1, c2 and a1 do not
abbrev unjoined : S.String
unjoined = "hex 3 2 D/m b1 2/w 2/m a2 0/m c2 0/w 2/m a1 0/m c1 0/"

-- two moves with one cell: a1 joins, and so do b1, c1 and d1
abbrev one_cell : S.String
one_cell = "hex 5 1 D/m - 1/w 3/m a1 1/w 2/m b1 0/m c1 0/m a1 1/w 2/m b1 0/m d1 0/m e1 0/"

-- "Traps for the setter's tool", the sentences of the paper that P1 to P12 do not pin, and those of follow-ups C-11, C-20, C-16 and C-15
unfoldable pub traps : List Row
traps =
    row "the first and the third wait share a cell" (judging "hex 3 3 D/m b2 3/w 2/m a1 0/m b1 0/w 2/m a2 0/m c2 0/w 2/m a1 0/m c3 0/") (10 ∷ 2 ∷ 1 ∷ 0 ∷ 0 ∷ 0 ∷ 0 ∷ [])
    ∷ row "a cell deep in every branch" (judging "hex 3 3 D/m b2 1/w 2/m b1 1/w 2/m a1 0/m a2 0/m c1 1/w 2/m a1 0/m a3 0/") (11 ∷ 3 ∷ 1 ∷ 0 ∷ 0 ∷ 0 ∷ 0 ∷ [])
    ∷ row "b1 touches a2, a1 does not touch b2" (judging "hex 2 2 D/m b1 1/w 2/m a2 0/m a1 0/") (13 ∷ 0 ∷ 0 ∷ 1 ∷ 0 ∷ 0 ∷ 0 ∷ [])
    ∷ row "a move outside all open waits is answered" (playing P1 (1 ∷ [])) (0 ∷ 0 ∷ 1 ∷ 3 ∷ [])
    ∷ row "under the open wait with the smallest line, then under the touched one" (playing two_waits (6 ∷ 4 ∷ [])) (0 ∷ 0 ∷ 1 ∷ 1 ∷ 5 ∷ [])
    ∷ row "an answered wait is closed: its other cells are free moves" (playing two_waits (6 ∷ 3 ∷ [])) (0 ∷ 0 ∷ 1 ∷ 1 ∷ 4 ∷ [])
    ∷ row "the touched wait is answered" (playing P8 (4 ∷ 6 ∷ [])) (0 ∷ 0 ∷ 0 ∷ 5 ∷ 1 ∷ [])
    ∷ row "3: the empty text" (judging "") (3 ∷ 1 ∷ 0 ∷ 0 ∷ 0 ∷ 0 ∷ 0 ∷ [])
    ∷ row "4: a wait where the first node is due" (judging "hex 2 2 D/w 1/") (4 ∷ 2 ∷ 0 ∷ 0 ∷ 0 ∷ 0 ∷ 0 ∷ [])
    ∷ row "5: a cell off the board" (judging "hex 2 2 D/m c1 0/") (5 ∷ 2 ∷ 0 ∷ 0 ∷ 0 ∷ 0 ∷ 0 ∷ [])
    ∷ row "8: a line is missing" (judging "hex 2 2 D/m b1 1/") (8 ∷ 3 ∷ 0 ∷ 0 ∷ 0 ∷ 0 ∷ 0 ∷ [])
    ∷ row "9: an empty line after the tree" (judging "hex 1 1 D/m a1 0//") (9 ∷ 3 ∷ 0 ∷ 0 ∷ 0 ∷ 0 ∷ 0 ∷ [])
    ∷ row "on a board of one row a single cell joins for D" (judging "hex 3 1 D/m b1 0/") (0 ∷ 0 ∷ 0 ∷ 0 ∷ 1 ∷ 0 ∷ 1 ∷ [])
    ∷ row "columns go to s" (judging "hex 19 1 D/m s1 0/") (0 ∷ 0 ∷ 0 ∷ 0 ∷ 1 ∷ 0 ∷ 1 ∷ [])
    ∷ row "5: no column t" (judging "hex 19 1 D/m t1 0/") (5 ∷ 2 ∷ 0 ∷ 0 ∷ 0 ∷ 0 ∷ 0 ∷ [])
    ∷ row "rows go to 19" (judging "hex 1 19 A/m a19 0/") (0 ∷ 0 ∷ 0 ∷ 0 ∷ 1 ∷ 0 ∷ 1 ∷ [])
    ∷ row "5: no row 20" (judging "hex 1 19 A/m a20 0/") (5 ∷ 2 ∷ 0 ∷ 0 ∷ 0 ∷ 0 ∷ 0 ∷ [])
    ∷ row "3: 20 columns" (judging "hex 20 1 D/m a1 0/") (3 ∷ 1 ∷ 0 ∷ 0 ∷ 0 ∷ 0 ∷ 0 ∷ [])
    ∷ row "3: 20 rows" (judging "hex 1 20 A/m a1 0/") (3 ∷ 1 ∷ 0 ∷ 0 ∷ 0 ∷ 0 ∷ 0 ∷ [])
    ∷ row "the last cell of 19 by 2 is a free move" (playing P1_19 (38 ∷ [])) (0 ∷ 0 ∷ 1 ∷ 20 ∷ [])
    ∷ row "16: one more is no cell" (playing P1_19 (39 ∷ [])) (16 ∷ 1 ∷ 0 ∷ [])
    ∷ row "19: a set-up cell named twice, at its line" (judging "hex 2 2 D/own a1/own a1/zz/") (19 ∷ 3 ∷ 1 ∷ 0 ∷ 0 ∷ 0 ∷ 0 ∷ [])
    ∷ row "19: by both sides" (judging "hex 2 2 D/own a1/opp a1/m - 0/") (19 ∷ 3 ∷ 1 ∷ 0 ∷ 0 ∷ 0 ∷ 0 ∷ [])
    ∷ row "5: a set-up cell off the board" (judging "hex 2 2 D/own c1/own a1/m - 0/") (5 ∷ 2 ∷ 0 ∷ 0 ∷ 0 ∷ 0 ∷ 0 ∷ [])
    ∷ row "4: a set-up line without a cell" (judging "hex 2 2 D/own b1/opp -/m - 0/") (4 ∷ 3 ∷ 0 ∷ 0 ∷ 0 ∷ 0 ∷ 0 ∷ [])
    ∷ row "4: a set-up line after the first node" (judging "hex 2 2 D/m b1 1/own a1/") (4 ∷ 3 ∷ 0 ∷ 0 ∷ 0 ∷ 0 ∷ 0 ∷ [])
    ∷ row "9: a set-up line after the tree" (judging "hex 2 2 D/own b1/m b2 0/opp a1/") (9 ∷ 4 ∷ 0 ∷ 0 ∷ 0 ∷ 0 ∷ 0 ∷ [])
    ∷ row "8: the line after the set-up lines is missing" (judging "hex 2 2 D/own b1/") (8 ∷ 3 ∷ 0 ∷ 0 ∷ 0 ∷ 0 ∷ 0 ∷ [])
    ∷ row "own set-up stones that join already" (judging joined_stones) (0 ∷ 0 ∷ 0 ∷ 0 ∷ 1 ∷ 0 ∷ 1 ∷ [])
    ∷ row "set-up stones of both sides" (judging stones) (0 ∷ 0 ∷ 0 ∷ 0 ∷ 3 ∷ 1 ∷ 2 ∷ [])
    ∷ row "20: a move on an opponent stone" (judging "hex 2 2 D/opp b2/own a1/m b1 1/w 2/m a2 0/m b2 0/") (20 ∷ 7 ∷ 4 ∷ 0 ∷ 0 ∷ 0 ∷ 0 ∷ [])
    ∷ row "20 before 10: a move on an own stone" (judging "hex 2 2 D/own a1/m a1 1/w 1/m a1 0/") (20 ∷ 3 ∷ 1 ∷ 0 ∷ 0 ∷ 0 ∷ 0 ∷ [])
    ∷ row "lines count from the set-up lines on" (judging "hex 2 2 D/opp a1/own b1/m - 1/w 1/m a2 0/") (11 ∷ 5 ∷ 3 ∷ 0 ∷ 0 ∷ 0 ∷ 0 ∷ [])
    ∷ row "13: own stones are in every outcome" (judging "hex 3 2 D/own b1/opp a1/opp c1/m - 1/w 2/m a2 0/m c2 0/") (13 ∷ 0 ∷ 0 ∷ 1 ∷ 0 ∷ 0 ∷ 0 ∷ [])
    ∷ row "play from set-up stones" (playing stones (3 ∷ [])) (0 ∷ 0 ∷ 1 ∷ 4 ∷ [])
    ∷ row "the first move where it is free" (playing stones (4 ∷ [])) (0 ∷ 0 ∷ 1 ∷ 3 ∷ [])
    ∷ row "17: on an opponent stone" (playing stones (1 ∷ [])) (17 ∷ 1 ∷ 0 ∷ [])
    ∷ row "17: on an own stone" (playing stones (2 ∷ [])) (17 ∷ 1 ∷ 0 ∷ [])
    ∷ row "play over at the start" (playing joined_stones []) (0 ∷ 0 ∷ 1 ∷ [])
    ∷ row "15: over at the start" (playing joined_stones (1 ∷ [])) (15 ∷ 1 ∷ 0 ∷ [])
    ∷ row "an outcome lists own stones" (naming stones 0) (0 ∷ 2 ∷ 3 ∷ [])
    ∷ row "an outcome lists own stones, the next" (naming stones 1) (0 ∷ 2 ∷ 4 ∷ [])
    ∷ row "18: no more outcomes" (naming stones 2) (18 ∷ [])
    ∷ row "24: a wait of two like moves, which was 11" (judging twins) (24 ∷ 3 ∷ 0 ∷ 0 ∷ 0 ∷ 0 ∷ 0 ∷ [])
    ∷ row "24: in play" (playing twins (1 ∷ [])) (24 ∷ 0 ∷ 0 ∷ [])
    ∷ row "24: of an outcome" (naming twins 0) (24 ∷ [])
    ∷ row "24: the first and the third move" (judging "hex 3 3 D/m b2 1/w 3/m b1 0/m c1 0/m b1 0/") (24 ∷ 3 ∷ 0 ∷ 0 ∷ 0 ∷ 0 ∷ 0 ∷ [])
    ∷ row "24: a wait deep down" (judging "hex 3 3 D/m b2 1/w 2/m b1 1/w 3/m a1 0/m a2 0/m a1 0/m c1 0/") (24 ∷ 5 ∷ 0 ∷ 0 ∷ 0 ∷ 0 ∷ 0 ∷ [])
    ∷ row "24: the first such wait, whose like branches hold like ones" (judging "hex 3 3 D/m b2 1/w 3/m b1 1/w 3/m a1 0/m a2 0/m a1 0/m c1 0/m b1 1/w 3/m a1 0/m a2 0/m a1 0/") (24 ∷ 3 ∷ 0 ∷ 0 ∷ 0 ∷ 0 ∷ 0 ∷ [])
    ∷ row "10 before 24" (judging "hex 3 3 D/m b2 2/w 3/m b1 0/m c1 0/m b1 0/w 2/m b1 0/m a3 0/") (10 ∷ 2 ∷ 2 ∷ 0 ∷ 0 ∷ 0 ∷ 0 ∷ [])
    ∷ row "20 before 24" (judging "hex 2 2 D/own a1/m b1 1/w 3/m a2 0/m a2 0/m a1 0/") (20 ∷ 7 ∷ 1 ∷ 0 ∷ 0 ∷ 0 ∷ 0 ∷ [])
    ∷ row "24 before 11, which an earlier wait has" (judging "hex 3 3 D/m b2 2/w 1/m b1 0/w 3/m a3 0/m b3 0/m a3 0/") (24 ∷ 5 ∷ 0 ∷ 0 ∷ 0 ∷ 0 ∷ 0 ∷ [])
    ∷ row "24 after set-up lines" (judging "hex 2 2 D/opp a1/own b1/m - 1/w 2/m a2 0/m a2 0/") (24 ∷ 5 ∷ 0 ∷ 0 ∷ 0 ∷ 0 ∷ 0 ∷ [])
    ∷ row "no 24: another cell on the last line" (judging "hex 3 3 D/m b2 1/w 3/m b1 1/w 2/m a1 0/m a2 0/m b1 1/w 2/m a1 0/m a3 0/m c1 0/") (13 ∷ 0 ∷ 0 ∷ 0 ∷ 0 ∷ 0 ∷ 0 ∷ [])
    ∷ row "no 24: another count" (judging "hex 3 3 D/m b2 1/w 3/m b1 1/w 2/m a1 0/m a2 0/m b1 0/m c1 0/") (13 ∷ 0 ∷ 0 ∷ 0 ∷ 0 ∷ 0 ∷ 0 ∷ [])
    ∷ row "no 24: another order" (judging "hex 3 3 D/m b2 1/w 3/m b1 1/w 2/m a1 0/m a2 0/m b1 1/w 2/m a2 0/m a1 0/m c1 0/") (13 ∷ 0 ∷ 0 ∷ 0 ∷ 0 ∷ 0 ∷ 0 ∷ [])
    ∷ row "every move live" (counting P8) (0 ∷ 7 ∷ 3 ∷ 8 ∷ 3 ∷ 0 ∷ [])
    ∷ row "a spare branch has no outcome; its moves and waits count" (counting spare) (0 ∷ 6 ∷ 2 ∷ 2 ∷ 0 ∷ 1 ∷ [])
    ∷ row "a spare branch that does not join, which was 13" (counting "hex 2 2 D/m b1 1/w 3/m a2 0/m b2 0/m a1 0/") (0 ∷ 4 ∷ 1 ∷ 2 ∷ 0 ∷ 1 ∷ [])
    ∷ row "not live under not live counts too, live under it does not" (counting spare_under_spare) (0 ∷ 7 ∷ 2 ∷ 2 ∷ 0 ∷ 2 ∷ [])
    ∷ row "not live by cells deep in the branch, and live after it" (counting live_again) (0 ∷ 8 ∷ 3 ∷ 3 ∷ 1 ∷ 1 ∷ [])
    ∷ row "the next live move has the next number" (naming live_again 2) (0 ∷ 2 ∷ 5 ∷ [])
    ∷ row "18: no more outcomes of live moves" (naming live_again 3) (18 ∷ [])
    ∷ row "13: the index counts live moves only" (judging "hex 3 2 D/m b1 1/w 3/m a2 1/w 2/m a1 0/m c1 0/m c1 1/w 2/m a2 0/m a1 0/m c2 0/") (13 ∷ 0 ∷ 0 ∷ 2 ∷ 0 ∷ 0 ∷ 0 ∷ [])
    ∷ row "0 on a refusal" (counting "hex 2 2 D/m a1 1/w 3/m a2 0/m b2 0/m b1 0/") (13 ∷ 0 ∷ 0 ∷ 0 ∷ 0 ∷ 0 ∷ [])
    ∷ row "10: a spare branch's cells are its node's" (judging "hex 3 2 D/m b1 2/w 2/m a1 0/m c2 0/w 3/m a2 0/m b2 0/m a1 0/") (10 ∷ 2 ∷ 1 ∷ 0 ∷ 0 ∷ 0 ∷ 0 ∷ [])
    ∷ row "a cell of a spare branch touches its wait" (playing "hex 3 2 D/m b1 2/w 2/m c1 0/m c2 0/w 3/m a2 0/m b2 0/m a1 0/" (1 ∷ [])) (0 ∷ 0 ∷ 1 ∷ 4 ∷ [])
    ∷ row "of P8's outcomes five are looked at" (looking P8) (8 ∷ 5 ∷ 3 ∷ [])
    ∷ row "none is passed over" (looking P1) (2 ∷ 2 ∷ 0 ∷ [])
    ∷ row "one outcome, which is looked at" (looking "hex 1 1 D/m a1 0/") (1 ∷ 1 ∷ 0 ∷ [])
    ∷ row "a sheet that is refused has outcomes to be passed over" (looking unjoined) (4 ∷ 3 ∷ 1 ∷ [])
    ∷ row "and 0 is returned" (counting unjoined) (13 ∷ 0 ∷ 0 ∷ 0 ∷ 0 ∷ 0 ∷ [])
    ∷ row "the first wait's stone joins: the second is not looked at" (counting "hex 3 2 D/m b1 2/w 2/m a2 0/m b2 0/w 2/m a1 0/m c2 0/") (0 ∷ 5 ∷ 2 ∷ 4 ∷ 2 ∷ 0 ∷ [])
    ∷ row "the root's stone joins: one is looked at" (counting "hex 5 1 D/m c1 2/w 2/m a1 0/m b1 0/w 2/m d1 0/m e1 0/") (0 ∷ 5 ∷ 2 ∷ 4 ∷ 3 ∷ 0 ∷ [])
    ∷ row "two moves with one cell are unlike" (counting one_cell) (0 ∷ 8 ∷ 3 ∷ 5 ∷ 2 ∷ 0 ∷ [])
    ∷ row "and are looked at apart" (looking one_cell) (5 ∷ 3 ∷ 2 ∷ [])
    ∷ row "own stones join with the first wait's" (counting "hex 3 2 D/own b1/m - 2/w 2/m a2 0/m b2 0/w 2/m a1 0/m c2 0/") (0 ∷ 5 ∷ 2 ∷ 4 ∷ 2 ∷ 0 ∷ [])
    ∷ row "own stones join alone: all but the first outcome" (counting "hex 2 2 D/own b1/own b2/m - 1/w 2/m a1 0/m a2 0/") (0 ∷ 3 ∷ 1 ∷ 2 ∷ 1 ∷ 0 ∷ [])
    ∷ row "a spare branch has no outcome to be passed over" (counting "hex 5 1 D/m - 1/w 3/m a1 1/w 2/m b1 0/m c1 0/m d1 0/m e1 1/w 2/m b1 0/m c1 0/") (0 ∷ 8 ∷ 3 ∷ 3 ∷ 1 ∷ 1 ∷ [])
    ∷ []

unfoldable pub replies : List Row → List (List ℕ)
replies rows = map (λ (r : Row). reply r.asks) rows

unfoldable pub expected : List Row → List (List ℕ)
expected rows = map (λ (r : Row). r.expects) rows
