-- "Three entries", the table: what each case of the verdict stands for, its number, line, cell and index; and judge's counts.
use Rattle.std.specs.Prelude.{ℕ}
use Rattle.rules.specs.declared.Verdict.{Verdict}
use Rattle.rules.specs.declared.Told.{Told}
use Rattle.rules.specs.declared.Counts.{Counts}
use Rattle.rules.specs.declared.Verdict.TheVariants.{Accepted, Done, SmallWorkspace, LongText, BadHeader, BadLine, OffBoard, TooManyNodes, TooDeep, Unfinished, TextAfter, NotApart, NotElusive, TooManyOutcomes, NotJoined, ShortRoom, AfterOver, NoSuchCell, CellTaken, NoSuchOutcome, SetUpTwice, OnSetUp, UnknownName, WrongCells, NameTwice, SameBranch}

-- the counts are 0 on a refusal
abbrev pub no_counts : Counts
no_counts = record { moves = 0; waits = 0; outcomes = 0; passed = 0; idle = 0 }

abbrev pub told_as : (number line cell index : ℕ) → Told
told_as n l c i = record { number = n; line = l; cell = c; index = i; counts = no_counts }

abbrev pub told_accepted : Counts → Told
told_accepted n = record { number = 0; line = 0; cell = 0; index = 0; counts = n }

abbrev pub told : Verdict → Told
told (Accepted n) = told_accepted n
told Done = told_as 0 0 0 0
told SmallWorkspace = told_as 1 0 0 0
told LongText = told_as 2 0 0 0
told BadHeader = told_as 3 1 0 0
told (BadLine l) = told_as 4 l 0 0
told (OffBoard l) = told_as 5 l 0 0
told (TooManyNodes l) = told_as 6 l 0 0
told (TooDeep l) = told_as 7 l 0 0
told (Unfinished l) = told_as 8 l 0 0
told (TextAfter l) = told_as 9 l 0 0
told (NotApart l c) = told_as 10 l c 0
told (NotElusive l c) = told_as 11 l c 0
told TooManyOutcomes = told_as 12 0 0 0
told (NotJoined i) = told_as 13 0 0 i
told ShortRoom = told_as 14 0 0 0
told AfterOver = told_as 15 0 0 0
told NoSuchCell = told_as 16 0 0 0
told CellTaken = told_as 17 0 0 0
told NoSuchOutcome = told_as 18 0 0 0
told (SetUpTwice l c) = told_as 19 l c 0
told (OnSetUp l c) = told_as 20 l c 0
told (UnknownName l) = told_as 21 l 0 0
told (WrongCells l) = told_as 22 l 0 0
told (NameTwice l) = told_as 23 l 0 0
told (SameBranch l) = told_as 24 l 0 0
