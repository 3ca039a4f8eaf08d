-- The table is the part. Assumes nothing.
use Rattle.check_vartables.specs.Tables.{stack_of, get_stack}
use Rattle.check_vartables.proofs.stack_get.Goals as goal

pub get-requires-clause-can : goal.get-requires-clause-can
get-requires-clause-can c = get_stack c.requires

pub returns : goal.returns
unfolding stack_of
returns c = c.get.ensures
