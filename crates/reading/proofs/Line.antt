-- What a node's line comes to: refused, or got with its cell's number and the spot after it.
use mathlib.Core.Path.{◌≡◌, sym, ap, ◌∙◌, subst⁻¹}
use Prim.Native.Nat.{ℕ, ◌+◌}
use native.Mathlib.Omega.{arith}
use mathlib.Core.Logic.{◌≢◌}
use lib.Dec.{T}
use Rattle.std.specs.Prelude as code
use Rattle.rules.specs.Lines.{reader_of}
use Rattle.rules.specs.Reading.{refused, got, node_here}
use Rattle.rules.specs.declared.Board.{Board}
use Rattle.rules.specs.declared.LineKind.{LineKind}
use Rattle.rules.specs.declared.Verdict.{Verdict}
use Rattle.rules.proofs.NodeLine.{LineBegins, LineSeen, sees_line, seen_is}
use Rattle.lines.specs.Seen.{Reads, line_seen, said}
use Rattle.lines.specs.declared.nodes.Line.{Line}
use Rattle.std.specs.Borrow.{Bor}
use Rattle.rules.specs.Text.{Bytes}
use Rattle.reading.specs.Numbered.{numbered}
use Rattle.reading.specs.Spots.{spot_of}
use Rattle.reading.specs.Kept.{SaidKept}
use Rattle.reading.specs.declared.spot.Spot.{Spot}
use Rattle.reading.proofs.OnBoard.{numbered_on}

module _ (b : Board) (k : LineKind) (levels : ℕ) (s : Spot) where
  pub line_refused : (v : Verdict) → LineSeen b (reader_of k) levels (spot_of s) (refused v) → SaidKept b k levels s (code.Err v)
  line_refused v h = record { reply_is = sym (seen_is b (reader_of k) levels (spot_of s) _ h); taken = tt }

  -- the line's cell has its number, and text, a level and a node were left for it
  pub line_got : LineBegins (spot_of s) → (l : Line) (text : Bor Bytes) (cell : ℕ) → Reads s.text.now (reader_of k) (line_seen (code.Some (l, text))) → levels ≢ 0
      → code.Some cell ≡ numbered b (said l).place → SaidKept b k levels s (code.Ok (record { cell = cell; under = l.under; text = text }))
  unfolding node_here
  line_got begins l text cell q z n =
      let w = numbered_on b (said l).place cell n in
      record {
        reply_is =
            sym (seen_is b (reader_of k) levels (spot_of s) _ (sees_line begins (said l, text.now) (sym q.same) z (subst⁻¹ T w.inside tt))
            ∙ ap (λ (c : ℕ). got (record { line = s.line; cell = c; under = l.under }, record { text = text.now; line = s.line + 1; nodes = s.nodes + 1 })) w.number);
        taken = record { shorter = q.shorter; level_left = omega (arith, z); node_left = omega (arith, begins.not_full, s.few) };
      }
