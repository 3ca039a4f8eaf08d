-- The table is the part. Assumes nothing.
use Rattle.work_tables.specs.Tables.{pos_of}
use Rattle.work_tables.specs.Writes.{get_pos}
use Rattle.work_tables.proofs.pos_get.Goals as goal

pub get-requires-clause-can : goal.get-requires-clause-can
get-requires-clause-can c = get_pos c.requires

pub returns : goal.returns
unfolding pos_of
returns c = c.get.ensures
