-- `read_scopes::level_of` meets its contract. Assumes nothing.
use mathlib.Core.Path.{sym}
use native.Mathlib.Omega.{arith}
use lib.ListN.{get_or-eq_default}
use Rattle.mem_numbers.specs.Numbers.{shorts}
use Rattle.read_lookups.proofs.level_of.Goals as goal

pub returns : goal.returns
returns c = sym (get_or-eq_default (shorts c.args.binds.now) 0 (omega (arith, c.count.ensures.is)))
