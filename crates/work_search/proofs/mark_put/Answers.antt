-- The table is the part, and the others lie outside of it. Assumes nothing.
use Rattle.work_tables.specs.Writes.{set_mark, put_mark}
use Rattle.work_search.proofs.mark_put.Goals as goal

pub put-requires-clause-can : goal.put-requires-clause-can
put-requires-clause-can c = set_mark c.requires

pub returns : goal.returns
returns c = put_mark c.requires.laid c.put.ensures
