-- Document 02, C-17: which sheets get the reply that they got before boards went to 19. (What was read of them: `Entries.read_up_to`)
use Rattle.std.specs.Prelude.{◌≡◌, ℕ, ◌<◌}
use Rattle.std.proofs.Math.Option.{some}
use Rattle.rules.specs.Text.{Bytes}
use Rattle.rules.specs.Lines.{Header, header_line}

-- where line 1 is a header, with sizes of up to 19, it has no size from the least on
pub record NoSizeFrom (least : ℕ) (t : Bytes) : Type 0 where
  pub columns : (x : Header × Bytes) → header_line t ≡ some x → x.0.board.columns < least
  pub rows : (x : Header × Bytes) → header_line t ≡ some x → x.0.board.rows < least
