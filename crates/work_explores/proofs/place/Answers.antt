-- Each table is written once. Assumes nothing.
use native.Mathlib.Omega.{arith}
use Rattle.work_tables.specs.Tables.{laid_after, length_mark, length_stack, length_done}
use Rattle.work_explores.specs.Places.{placed_in}
use Rattle.work_explores.proofs.place.Goals as goal

pub mark_put-requires : goal.mark_put-requires
mark_put-requires c = record { laid = c.requires.0; inside = omega (arith, c.requires.1.mark, length_mark c.requires.0); small = omega arith }

pub stack_put-requires : goal.stack_put-requires
stack_put-requires c = record { laid = laid_after c.requires.0 c.mark_put.ensures.rest; inside = omega (arith, c.requires.1.stack, length_stack c.requires.0); small = c.requires.1.small }

pub done_put-requires : goal.done_put-requires
done_put-requires c = record { laid = laid_after (laid_after c.requires.0 c.mark_put.ensures.rest) c.stack_put.ensures.rest; inside = omega (arith, c.requires.1.dones, length_done c.requires.0); small = omega arith }

pub returns : goal.returns
returns c = placed_in c.mark_put.ensures c.stack_put.ensures c.done_put.ensures
