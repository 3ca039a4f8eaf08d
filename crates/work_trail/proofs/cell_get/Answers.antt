-- The table is the part. Assumes nothing.
use Rattle.work_tables.specs.Tables.{cells_of}
use Rattle.work_tables.specs.Writes.{get_cell}
use Rattle.work_trail.proofs.cell_get.Goals as goal

pub get-requires-clause-can : goal.get-requires-clause-can
get-requires-clause-can c = get_cell c.requires

pub returns : goal.returns
unfolding cells_of
returns c = c.get.ensures
