-- The table is the part. Assumes nothing.
use Rattle.work_tables.specs.Tables.{vars_of}
use Rattle.work_tables.specs.Writes.{get_var}
use Rattle.work_trail.proofs.var_get.Goals as goal

pub get-requires-clause-can : goal.get-requires-clause-can
get-requires-clause-can c = get_var c.requires

pub returns : goal.returns
unfolding vars_of
returns c = c.get.ensures
