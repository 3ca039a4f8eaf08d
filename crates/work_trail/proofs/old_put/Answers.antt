-- The table is the part, and the others lie outside of it. Assumes nothing.
use Rattle.work_tables.specs.Writes.{set_old, put_old}
use Rattle.work_trail.proofs.old_put.Goals as goal

pub put-requires-clause-can : goal.put-requires-clause-can
put-requires-clause-can c = set_old c.requires

pub returns : goal.returns
returns c = put_old c.requires.laid c.put.ensures
