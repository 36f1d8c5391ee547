-- What a text that was read leaves: the sheet is held in the table, its set-up stones in two sets, or it is refused; and the table,
-- number by number.
use Rattle.std.specs.Prelude.{◌≡◌, ℕ, List, [], ltb, length, if◌then◌else◌}
use Rattle.std.specs.Prelude as code
use Rattle.std.proofs.Math.Option.{Option, none, some}
use Rattle.rules.specs.Sizes.{most_bytes}
use Rattle.rules.specs.Lines.{Header, header_line}
use Rattle.rules.specs.Text.{Bytes}
use Rattle.rules.specs.Tree.{Sheet}
use Rattle.rules.specs.Reading.{Result, refused, got, read_set_up, read_body}
use Rattle.rules.specs.Entries.{read_text}
use Rattle.rules.specs.declared.Verdict.{Verdict}
use Rattle.nodes.specs.Nodes.{alone, a_move, nodes_of_waits}
use Rattle.nodes.specs.Weighing.{weighed}
use Rattle.nodes.specs.Sheets.{HoldsWhole}
use Rattle.nodes.specs.declared.head.Head.{Head}
use Rattle.reading.specs.Kept.{stored_after}

-- the text reads as a sheet, which the table holds with what is set up before its tree
pub record SheetHeld (text : Bytes) (t : List ℕ) (h : Head) : Type 0 where
  pub sheet : Sheet
  pub reads : read_text text ≡ got sheet
  pub for : sheet.player ≡ h.player
  pub whole : HoldsWhole t h.grid.board h.set_up sheet

-- 2 to 9 and 19, or that
abbrev pub SheetReply : Bytes → code.Result Head Verdict → List ℕ → Type 0
SheetReply text (code.Ok h) t = SheetHeld text t h
SheetReply text (code.Err v) t = read_text text ≡ refused v

-- the table in which a body's nodes were stored, after the reading came to r: weighed where that is a sheet
abbrev pub settled : Result Sheet → List ℕ → List ℕ
settled (refused v) t = t
settled (got s) t = weighed a_move (alone s.root.cell (nodes_of_waits s.root.waits)) 0 t

-- the table t after a text whose first line reads so
abbrev pub loaded_from : Option (Header × Bytes) → List ℕ → List ℕ
loaded_from none t = t
loaded_from (some x) t =
    settled (read_body x.0 x.1) (stored_after x.0.board t (read_set_up (length x.1) x.0.board [] x.1))

-- the table t after a text is read into it
unfoldable pub loaded : Bytes → List ℕ → List ℕ
loaded text t = if ltb most_bytes (length text) then t else loaded_from (header_line text) t

pub record SheetKept (text : Bytes) (t : List ℕ) (r : code.Result Head Verdict) (t' : List ℕ) : Type 0 where
  pub reply_is : SheetReply text r t'
  pub table_is : t' ≡ loaded text t
