-- The table is the part. Assumes nothing.
use Rattle.check_vartables.specs.Tables.{can_zero, names_zero}
use Rattle.check_vartables.proofs.names_zero.Goals as goal

pub zero-requires : goal.zero-requires
zero-requires c = can_zero c.requires

pub returns : goal.returns
returns c = names_zero c.zero.ensures
