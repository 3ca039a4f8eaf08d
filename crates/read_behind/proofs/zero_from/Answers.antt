-- The part up to the end is zero. Assumes nothing.
use mathlib.Core.Path.{refl}
use native.Mathlib.Omega.{arith}
use Rattle.read_behind.proofs.Zeros.{zero_behind}
use Rattle.read_behind.proofs.zero_from.Goals as goal

pub zero-requires : goal.zero-requires
zero-requires c = record { le = omega arith; fits = omega arith }

pub returns : goal.returns
returns c = zero_behind c.args.n _ c.args.b.now _ refl c.zero.ensures
