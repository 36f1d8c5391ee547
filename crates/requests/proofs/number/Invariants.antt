-- After i turns the value is what the first i digits spell.
use Rattle.std.proofs.Common.{◌≤◌}
use Rattle.requests.specs.Request.{most32}
use Rattle.requests.proofs.Numbers.{Scanned}
use Rattle.requests.proofs.number.Given as goal

abbrev pub invariant-loop-digit : goal.invariant-loop-digit
invariant-loop-digit l = record { scanned : Scanned l.field l.value l.digit-index; small : l.value ≤ most32 }
