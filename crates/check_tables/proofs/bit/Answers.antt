-- The lowest bit of the number shifted. Assumes nothing.
use Rattle.check_tables.specs.Tables.{bit_shifted}
use Rattle.check_tables.proofs.bit.Goals as goal

pub returns : goal.returns
returns c = bit_shifted c.args.k c.args.a
