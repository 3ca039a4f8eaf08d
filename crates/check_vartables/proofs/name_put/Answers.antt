-- The table is the part, and the others lie outside of it. Assumes nothing.
use Rattle.check_vartables.specs.Tables.{set_name, put_name}
use Rattle.check_vartables.proofs.name_put.Goals as goal

pub put-requires-clause-can : goal.put-requires-clause-can
put-requires-clause-can c = set_name c.requires

pub returns : goal.returns
returns c = put_name c.requires.laid c.put.ensures
