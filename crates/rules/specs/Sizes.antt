-- Every size that document 01 names, each in its one place.
use Rattle.std.specs.Prelude.{ℕ}

-- a board has 1 to 19 columns and 1 to 19 rows (document 02, C-17; before it 13)
abbrev pub largest : ℕ
largest = 19

-- a cell is a lower-case letter and a number 1 to 99
abbrev pub highest_row : ℕ
highest_row = 99

-- number of waits under a move (0 to 2047), number of moves under a wait (1 to 2047)
abbrev pub most_under : ℕ
most_under = 2047

-- at most 2,048 nodes
abbrev pub most_nodes : ℕ
most_nodes = 2048

-- at most depth 128
abbrev pub most_depth : ℕ
most_depth = 128

-- text of at most 32,768 bytes
abbrev pub most_bytes : ℕ
most_bytes = 32768

-- workspace of 8,192 numbers
abbrev pub least_workspace : ℕ
least_workspace = 8192

-- at most 65,536 outcomes
abbrev pub most_outcomes : ℕ
most_outcomes = 65536

-- names are 1 to 16 lower-case letters or digits
abbrev pub longest_name : ℕ
longest_name = 16

-- a pattern has 0 to 9 parameters and 1 to 2,047 lines
abbrev pub most_parameters : ℕ
most_parameters = 9

abbrev pub most_lines : ℕ
most_lines = 2047
