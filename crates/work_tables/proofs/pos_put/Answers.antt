-- The table is the part, and the others lie outside of it. Assumes nothing.
use Rattle.work_tables.specs.Writes.{set_pos, put_pos}
use Rattle.work_tables.proofs.pos_put.Goals as goal

pub put-requires-clause-can : goal.put-requires-clause-can
put-requires-clause-can c = set_pos c.requires

pub returns : goal.returns
returns c = put_pos c.requires.laid c.put.ensures
