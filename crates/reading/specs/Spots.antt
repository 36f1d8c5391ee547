-- Where the reading stands, as the code has it and as rules has it.
use Rattle.rules.specs.Reading as R
use Rattle.reading.specs.declared.spot.Spot.{Spot}

abbrev pub spot_of : Spot → R.Spot
spot_of s = record { text = s.text.now; line = s.line; nodes = s.nodes }
