-- The stack has one more. Assumes nothing.
use mathlib.Core.Path.{refl}
use native.Mathlib.Omega.{arith}
use Rattle.check_apart.proofs.open_bracket.Goals as goal

pub stack_put-requires : goal.stack_put-requires
stack_put-requires c = record { laid = c.requires.laid; inside = c.requires.place; small = omega (arith, c.requires.small) }

pub overflow_add-result : goal.overflow_add-result
overflow_add-result c = omega (arith, c.requires.place)

pub returns : goal.returns
returns c = record { put = c.stack_put.ensures; count = refl }
