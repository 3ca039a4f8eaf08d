-- The table is the part, and the others lie outside of it. Assumes nothing.
use Rattle.work_tables.specs.Writes.{set_done, put_done}
use Rattle.work_search.proofs.done_put.Goals as goal

pub put-requires-clause-can : goal.put-requires-clause-can
put-requires-clause-can c = set_done c.requires

pub returns : goal.returns
returns c = put_done c.requires.laid c.put.ensures
