-- The table is the part, and the others lie outside of it. Assumes nothing.
use Rattle.work_tables.specs.Writes.{set_var, put_var}
use Rattle.work_trail.proofs.var_put.Goals as goal

pub put-requires-clause-can : goal.put-requires-clause-can
put-requires-clause-can c = set_var c.requires

pub returns : goal.returns
returns c = put_var c.requires.laid c.put.ensures
