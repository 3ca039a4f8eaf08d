-- The table is the part, and the others lie outside of it. Assumes nothing.
use Rattle.work_tables.specs.Writes.{set_cell, put_cell}
use Rattle.work_trail.proofs.cell_put.Goals as goal

pub put-requires-clause-can : goal.put-requires-clause-can
put-requires-clause-can c = set_cell c.requires

pub returns : goal.returns
returns c = put_cell c.requires.laid c.put.ensures
