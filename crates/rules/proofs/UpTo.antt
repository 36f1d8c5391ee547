-- Sheets whose header has no size from 14 to 19 get the reply they got.
use mathlib.Core.Path.{◌≡◌, refl, sym, ap, ◌∙◌}
use Prim.Native.Nat.{ℕ, suc, ◌≤◌}
use mathlib.Core.Option.{Option, none, some}
use native.Mathlib.Omega.{arith}
use Rattle.rules.specs.Sizes.{largest}
use Rattle.rules.specs.Text.{Bytes}
use Rattle.rules.specs.Lines.{Header, header_up_to, header_line}
use Rattle.rules.specs.Reading.{headed, read_sheet_up_to, read_sheet}
use Rattle.rules.specs.Entries.{read_text_up_to, read_up_to, fair}
use Rattle.rules.specs.Unread.{BoardUpTo, BoardSize}
use Rattle.rules.specs.SameReplies.{SameReplies}
use Rattle.rules.specs.UpTo.{NoSizeFrom}
use Rattle.rules.proofs.Steps.{none≢some}
use Rattle.rules.proofs.Lines.{header_is, header_back}
use Rattle.rules.proofs.SameReplies.{same_replies}

module _ (most : ℕ) (few : most ≤ largest) (t : Bytes) (small : NoSizeFrom (suc most) t) where
  same_header : header_line t ≡ header_up_to most t
  same_header = go (header_line t) refl (header_up_to most t) refl
    where
      go : (o : Option (Header × Bytes)) → header_line t ≡ o → (p : Option (Header × Bytes)) → header_up_to most t ≡ p → header_line t ≡ header_up_to most t
      go (some x) e p f =
          let k = header_is t x e in
          let size : BoardUpTo most x.0.board = record { columns = (k.1.columns.0, omega (arith, small.columns x e)); rows = (k.1.rows.0, omega (arith, small.rows x e)) } in
          e ∙ sym (ap (header_up_to most) k.0 ∙ header_back x.0.board x.0.player x.1 size)
      go none e none f = e ∙ sym f
      go none e (some x) f =
          let k = header_is t x f in
          let size : BoardSize x.0.board = record { columns = (k.1.columns.0, omega (arith, few, k.1.columns.1)); rows = (k.1.rows.0, omega (arith, few, k.1.rows.1)) } in
          absurd (none≢some (sym e ∙ ap header_line k.0 ∙ header_back x.0.board x.0.player x.1 size))

  same_sheet : read_sheet t ≡ read_sheet_up_to most t
  unfolding read_sheet_up_to
  same_sheet = ap headed same_header

  pub small_same : SameReplies t (λ w. read_up_to most w t) fair
  unfolding read_up_to read_text_up_to
  small_same = same_replies t (read_sheet_up_to most t) same_sheet
