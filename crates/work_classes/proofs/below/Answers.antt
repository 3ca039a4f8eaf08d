-- The cells are a part of the slice. Assumes nothing.
use Rattle.work_tables.specs.Tables.{cells_of}
use native.Mathlib.Omega.{arith}
use Rattle.work_classes.proofs.below.Goals as goal

pub below_in-requires : goal.below_in-requires
unfolding cells_of
below_in-requires c = (omega arith, omega (arith, c.requires.0.long), c.requires.1)

pub returns : goal.returns
unfolding cells_of
returns c = c.below_in.ensures
