-- The table is the part. Assumes nothing.
use Rattle.work_tables.specs.Tables.{olds_of}
use Rattle.work_tables.specs.Writes.{get_old}
use Rattle.work_trail.proofs.old_get.Goals as goal

pub get-requires-clause-can : goal.get-requires-clause-can
get-requires-clause-can c = get_old c.requires

pub returns : goal.returns
unfolding olds_of
returns c = c.get.ensures
