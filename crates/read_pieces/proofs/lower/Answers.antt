use mathlib.Core.Path.{refl}
use mathlib.Core.Logic.{inl, inr}
use native.Mathlib.Omega.{arith}
use Rattle.read_pieces.proofs.lower.Goals as goal

pub returns-then-a-b : goal.returns-then-a-b
returns-then-a-b c = inl (refl, omega arith)

pub returns : goal.returns
returns c = inr (refl, omega arith)
