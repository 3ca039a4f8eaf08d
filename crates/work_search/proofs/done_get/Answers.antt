-- The table is the part. Assumes nothing.
use Rattle.work_tables.specs.Tables.{dones_of}
use Rattle.work_tables.specs.Writes.{get_done}
use Rattle.work_search.proofs.done_get.Goals as goal

pub get-requires-clause-can : goal.get-requires-clause-can
get-requires-clause-can c = get_done c.requires

pub returns : goal.returns
unfolding dones_of
returns c = c.get.ensures
