-- The table is the part, and the others lie outside of it. Assumes nothing.
use Rattle.check_vartables.specs.Tables.{set_stack, put_stack}
use Rattle.check_vartables.proofs.stack_put.Goals as goal

pub put-requires-clause-can : goal.put-requires-clause-can
put-requires-clause-can c = set_stack c.requires

pub returns : goal.returns
returns c = put_stack c.requires.laid c.put.ensures
