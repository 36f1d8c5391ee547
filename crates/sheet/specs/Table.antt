-- What running on a table that is lent as the first numbers of a workspace promises.
use Rattle.std.specs.Prelude.{◌≡◌, ℕ, ◌<◌, ◌≤◌, List, length, take, Option, None, Some}
use Rattle.rules.specs.Sizes.{least_workspace}
use Rattle.rules.specs.Entries.{workspace_after}

-- a run on these first numbers gave the answer, and came from one state to another
pub record Ran {F R : Type 0} (run : List ℕ → R → F → List ℕ → Type 0) (workspace : List ℕ) (answer : R) (after : F) : Type 0 where
  pub enough : least_workspace ≤ length workspace
  pub table_later : List ℕ
  pub ran : run (take least_workspace workspace) answer after table_later

-- the workspace is too short, and nothing is run; or that
abbrev pub RanReply : {F R : Type 0} → (List ℕ → R → F → List ℕ → Type 0) → List ℕ → Option R → (before after : F) → Type 0
RanReply run workspace None before after = (length workspace < least_workspace) × (after ≡ before)
RanReply run workspace (Some answer) before after = Ran run workspace answer after

-- that, and the workspace is as an entry leaves it
pub record RanOn {F R : Type 0} (run : List ℕ → R → F → List ℕ → Type 0) (workspace : List ℕ) (r : Option R) (before after : F) (workspace_later : List ℕ) : Type 0 where
  pub reply_is : RanReply run workspace r before after
  pub memory : workspace_later ≡ workspace_after workspace
