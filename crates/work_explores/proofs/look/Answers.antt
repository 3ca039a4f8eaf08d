-- The log and the cells are parts of the slice. Assumes nothing.
use native.Mathlib.Omega.{arith}
use Rattle.work_tables.specs.Tables.{cells_of, log_of}
use Rattle.work_explores.proofs.look.Goals as goal

pub overflow_mul-e : goal.overflow_mul-e
overflow_mul-e c = omega (arith, c.requires.1.most)

pub overflow_add-e : goal.overflow_add-e
overflow_add-e c = omega (arith, c.requires.1.most)

pub look_in-requires : goal.look_in-requires
unfolding cells_of log_of
look_in-requires c = (omega arith, omega (arith, c.requires.0.long, c.requires.1.most), omega arith, omega (arith, c.requires.0.long), c.requires.2)

pub returns : goal.returns
unfolding cells_of log_of
returns c = c.look_in.ensures
