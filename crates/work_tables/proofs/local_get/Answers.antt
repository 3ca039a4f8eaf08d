-- The table is the part. Assumes nothing.
use Rattle.work_tables.specs.Tables.{locals_of}
use Rattle.work_tables.specs.Writes.{get_local}
use Rattle.work_tables.proofs.local_get.Goals as goal

pub get1-requires : goal.get1-requires
get1-requires c = get_local c.requires

pub returns : goal.returns
unfolding locals_of
returns c = c.get1.ensures
