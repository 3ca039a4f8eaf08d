-- The table is the part. Assumes nothing.
use Rattle.check_vartables.specs.Tables.{links_of, get_link}
use Rattle.check_vartables.proofs.link_get.Goals as goal

pub get-requires-clause-can : goal.get-requires-clause-can
get-requires-clause-can c = get_link c.requires

pub returns : goal.returns
unfolding links_of
returns c = c.get.ensures
