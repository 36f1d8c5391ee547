-- What the code answers, as the definitions have it: what was got, or the refusal.
use Rattle.std.specs.Prelude as code
use Rattle.rules.specs.Reading.{Result, refused, got}
use Rattle.rules.specs.declared.Verdict.{Verdict}

-- what was got is seen as f sees it
abbrev pub as_result : {X Y : Type 0} → (X → Y) → code.Result X Verdict → Result Y
as_result f (code.Ok x) = got (f x)
as_result f (code.Err v) = refused v
