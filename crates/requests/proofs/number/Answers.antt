-- A turn reads a digit more, and what is refused is no number.
use Rattle.std.proofs.Common.{arith}
use Rattle.std.proofs.lemmas.Bool.{false≢true}
use Rattle.requests.proofs.Numbers.{scanned_more, refused_spelling, refused_byte, refused_size}
use Rattle.requests.proofs.number.Goals as goal

pub returns-then-not-well_spelled : goal.returns-then-not-well_spelled
returns-then-not-well_spelled c = refused_spelling (λ p. false≢true (c.if-not-well_spelled.ensures.1 p))

pub returns-then-not-is_ascii_digit : goal.returns-then-not-is_ascii_digit
returns-then-not-is_ascii_digit c = refused_byte c.loop-digit.digit-index c.loop-digit-test.true (λ d. omega (arith, d.least, d.most, c.if-not-is_ascii_digit.ensures.cases))

pub returns-then-value-gt-MOST_NUMBER : goal.returns-then-value-gt-MOST_NUMBER
returns-then-value-gt-MOST_NUMBER c =
    refused_size c.loop-digit.invariant.scanned c.loop-digit-test.true c.if-not-is_ascii_digit.ensures.cases
    (omega (arith, c.from.ensures, c.if-value-gt-MOST_NUMBER.true))

pub loop-digit-preserved : goal.loop-digit-preserved
loop-digit-preserved c =
    record {
      scanned = scanned_more c.loop-digit.invariant.scanned c.loop-digit-test.true c.if-not-is_ascii_digit.ensures.cases
          (omega (arith, c.from.ensures));
      small = omega (arith, c.if-value-gt-MOST_NUMBER.false);
    }
