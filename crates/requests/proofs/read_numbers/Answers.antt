-- A turn reads a number more, and what is refused is no such list.
use Rattle.std.proofs.Common.{arith}
use Rattle.requests.proofs.Listing.{listing_none, listing_more, refused_more, refused_field}
use Rattle.requests.proofs.read_numbers.Goals as goal

pub loop-fields-init : goal.loop-fields-init
loop-fields-init c = listing_none c.requires c.told-numbers

pub returns-then-count-eq-MOST_NUMBERS : goal.returns-then-count-eq-MOST_NUMBERS
returns-then-count-eq-MOST_NUMBERS c = refused_more c.loop-fields.invariant c.in-Some.ensures.cases.0 c.if-count-eq-MOST_NUMBERS.true

pub returns-in_err-numbers : goal.returns-in_err-numbers
returns-in_err-numbers c = rw c.from_residual.ensures (refused_field c.loop-fields.invariant c.in-Some.ensures.cases.0 c.first_field.ensures c.in_err-numbers.ensures)

pub loop-fields-preserved : goal.loop-fields-preserved
loop-fields-preserved c = listing_more _ c.loop-fields.invariant c.in-Some.ensures.cases.0 (omega (arith, c.loop-fields.invariant.few, c.if-count-eq-MOST_NUMBERS.false)) c.first_field.ensures c.in_ok-numbers.ensures
