-- The table is the part. Assumes nothing.
use Rattle.check_vartables.specs.Tables.{names_of, get_name}
use Rattle.check_vartables.proofs.name_get.Goals as goal

pub get-requires-clause-can : goal.get-requires-clause-can
get-requires-clause-can c = get_name c.requires

pub returns : goal.returns
unfolding names_of
returns c = c.get.ensures
