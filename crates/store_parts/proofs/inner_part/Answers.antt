-- By the number. Assumes nothing.
use native.Mathlib.Omega.{arith}
use Rattle.store_parts.specs.Pieces.{inner_none, inner_part, inner_past}
use Rattle.store_parts.proofs.inner_part.Goals as goal

pub returns-then-v-lt2 : goal.returns-then-v-lt2
returns-then-v-lt2 c = (inner_none c.args.v (omega arith), omega arith)

pub returns-then-v-lt13 : goal.returns-then-v-lt13
returns-then-v-lt13 c = (inner_part c.args.v (omega arith) (omega arith), omega arith)

pub returns-else-v-lt13 : goal.returns-else-v-lt13
returns-else-v-lt13 c = (inner_past c.args.v (omega arith), omega arith)
