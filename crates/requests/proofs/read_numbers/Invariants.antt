-- The text is the numbers read so far, and the rest.
use Rattle.std.proofs.Common.{length}
use Rattle.requests.proofs.Listing.{Listing}
use Rattle.requests.proofs.read_numbers.Given as goal

abbrev pub invariant-loop-fields : goal.invariant-loop-fields
invariant-loop-fields l = Listing l.text l.numbers l.rest l.count

abbrev pub decreases-loop-fields : goal.decreases-loop-fields
decreases-loop-fields l = length l.rest
