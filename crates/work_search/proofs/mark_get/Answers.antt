-- The table is the part. Assumes nothing.
use Rattle.work_tables.specs.Tables.{marks_of}
use Rattle.work_tables.specs.Writes.{get_mark}
use Rattle.work_search.proofs.mark_get.Goals as goal

pub get-requires-clause-can : goal.get-requires-clause-can
get-requires-clause-can c = get_mark c.requires

pub returns : goal.returns
unfolding marks_of
returns c = c.get.ensures
