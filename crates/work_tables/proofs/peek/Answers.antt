-- The log is a part. Assumes nothing.
use native.Mathlib.Omega.{arith}
use Rattle.work_tables.specs.Tables.{log_of}
use Rattle.work_tables.proofs.peek.Goals as goal

pub overflow_mul-e : goal.overflow_mul-e
overflow_mul-e c = omega (arith, c.requires.1.most)

pub overflow_add-e : goal.overflow_add-e
overflow_add-e c = omega (arith, c.requires.1.most)

pub word_in-requires : goal.word_in-requires
word_in-requires c = (omega arith, omega (arith, c.requires.0.long, c.requires.1.most))

pub returns : goal.returns
unfolding log_of
returns c = record { is = c.word_in.ensures }
