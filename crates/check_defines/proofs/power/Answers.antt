-- One shifted by the place of the bit. Assumes nothing.
use mathlib.Core.Path.{◌∙◌}
use native.Mathlib.Omega.{arith}
use Rattle.std.proofs.lemmas.Nat.{one_shl}
use Rattle.check_defines.specs.Bits.{power_is}
use Rattle.check_defines.proofs.power.Goals as goal

pub returns : goal.returns
returns c = one_shl c.args.k 64 (omega (arith, c.requires)) ∙ power_is c.args.k
