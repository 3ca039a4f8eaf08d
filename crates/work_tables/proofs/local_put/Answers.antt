-- The table is the part, and the others lie outside of it. Assumes nothing.
use Rattle.work_tables.specs.Writes.{set_local, put_local}
use Rattle.work_tables.proofs.local_put.Goals as goal

pub put1-requires : goal.put1-requires
put1-requires c = set_local c.requires

pub returns : goal.returns
returns c = put_local c.requires.laid c.put1.ensures
