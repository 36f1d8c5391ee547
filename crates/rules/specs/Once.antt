-- Document 02, C-20: which sheets get the reply that they got before a branch that stands twice was refused.
use Rattle.std.proofs.Math.Option.{none}
use Rattle.rules.specs.Text.{Bytes}
use Rattle.rules.specs.Tree.{Sheet}
use Rattle.rules.specs.Reading.{Result}
use Rattle.rules.specs.Fair.{first_on_set_up}
use Rattle.rules.specs.Outcomes.{outcome_count}
use Rattle.rules.specs.Entries.{fair_by}
use Rattle.rules.specs.Plain.{Spells, NoneTwice}

-- no wait of the sheet that the text spells, if it spells one, has a branch twice
pub record WithoutTwice (t : Bytes) : Type 0 where
  pub none_twice : (s : Sheet) → Spells t s → NoneTwice s

-- the checks were 20, 10, 11, 12; there was no 24
unfoldable pub fair_without24 : Sheet → Result Sheet
fair_without24 s = fair_by (first_on_set_up s) none (outcome_count s) s
