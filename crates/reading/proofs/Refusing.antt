-- What `ok_or(v)?` refuses with.
use mathlib.Core.Path.{◌≡◌}
use Rattle.std.specs.Prelude.{None, Err}
use Rattle.std.specs.Prelude as code
use Rattle.std.specs.Option.{ok_or}
use Rattle.rules.specs.declared.Verdict.{Verdict}

pub refused_with : {X : Type 0} {o : code.Option X} {v w : Verdict} → o ≡ None → Err w ≡ ok_or o v → w ≡ v
refused_with e f = let g = rw e at f in cc
