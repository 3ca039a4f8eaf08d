-- The cells are a part of the slice. Assumes nothing.
use native.Mathlib.Omega.{arith}
use Rattle.work_tables.specs.Tables.{cells_of}
use Rattle.work_cells.proofs.find.Goals as goal

pub find_in-r-requires : goal.find_in-r-requires
unfolding cells_of
find_in-r-requires c = (omega arith, omega (arith, c.requires.0.long), c.requires.1)

pub returns : goal.returns
unfolding cells_of
returns c = c.find_in-r.ensures
