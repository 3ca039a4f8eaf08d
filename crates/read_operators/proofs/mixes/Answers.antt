use Rattle.read_operators.specs.Binding.{mixes_same, mixes_other}
use Rattle.read_operators.proofs.mixes.Goals as goal

pub returns-then-kind-first : goal.returns-then-kind-first
returns-then-kind-first c = mixes_same _ _ c.if-kind-first.true

pub returns : goal.returns
returns c = mixes_other _ _ c.if-kind-first.false
