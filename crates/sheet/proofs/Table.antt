-- A run on the table that is lent as the first numbers of a workspace, or none.
use mathlib.Core.Path.{◌≡◌, refl, sym}
use mathlib.Core.List.{List, ◌++◌}
use Prim.Native.Nat.{ℕ, ◌≤◌, ◌<◌}
use lib.ListN.{length, drop, replicate, take}
use borrow.Author.Tests.{lt-ltb, le-ltb}
use Rattle.std.specs.Prelude.{Some, None}
use Rattle.rules.specs.Sizes.{least_workspace}
use Rattle.rules.specs.Entries.{workspace_after}
use Rattle.sheet.specs.Table.{RanOn}

module _ {F R : Type 0} (run : List ℕ → R → F → List ℕ → Type 0) (workspace : List ℕ) where
  pub ran_none : (f : F) → length workspace < least_workspace → RanOn run workspace None f f workspace
  unfolding workspace_after
  ran_none f h = record { reply_is = (h, refl); memory = sym (rw (lt-ltb (length workspace) least_workspace h)) }

  pub ran_some : (answer : R) (before after : F) (table table_later cleared : List ℕ) → least_workspace ≤ length workspace → table ≡ take least_workspace workspace
      → run table answer after table_later → cleared ≡ replicate least_workspace 0 → RanOn run workspace (Some answer) before after (cleared ++ drop least_workspace workspace)
  unfolding workspace_after
  ran_some answer before after table table_later cleared h same k e =
      record {
        reply_is = record { enough = h; table_later = table_later; ran = rw same at k };
        memory = rw e (sym (rw (le-ltb (length workspace) least_workspace h)));
      }
