use mathlib.Core.Path.{refl}
use native.Mathlib.Omega.{arith}
use Rattle.read_phrases.proofs.Reading.{number_got, number_past}
use Rattle.read_phrases.proofs.number_at.Goals as goal

pub returns-then-i-count : goal.returns-then-i-count
returns-then-i-count c = number_got _ _ _ _ (omega arith) c.get.ensures.is refl

pub returns : goal.returns
returns c = number_past _ _ (omega arith)
