-- The table is the part, and the others lie outside of it. Assumes nothing.
use Rattle.check_vartables.specs.Tables.{set_link, put_link}
use Rattle.check_vartables.proofs.link_put.Goals as goal

pub put-requires-clause-can : goal.put-requires-clause-can
put-requires-clause-can c = set_link c.requires

pub returns : goal.returns
returns c = put_link c.requires.laid c.put.ensures
