-- By the number. Assumes nothing.
use native.Mathlib.Omega.{arith}
use Rattle.store_parts.specs.Pieces.{place_member, place_part, place_past}
use Rattle.store_parts.proofs.place_part.Goals as goal

pub returns-then-v-eq3 : goal.returns-then-v-eq3
returns-then-v-eq3 c = (place_member c.args.v (omega arith), omega arith)

pub returns-then-v-lt7 : goal.returns-then-v-lt7
returns-then-v-lt7 c = (place_part c.args.v (λ e. omega arith) (omega arith), omega arith)

pub returns-else-v-lt7 : goal.returns-else-v-lt7
returns-else-v-lt7 c = (place_past c.args.v (omega arith), omega arith)
