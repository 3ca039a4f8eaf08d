-- The marks lie at the beginning of the slice. Assumes nothing.
use native.Mathlib.Omega.{arith}
use Rattle.work_search.specs.Clears.{marks_zero}
use Rattle.work_search.proofs.clear.Goals as goal

pub zero-requires : goal.zero-requires
zero-requires c = record { le = omega arith; fits = omega (arith, c.requires.0.long, c.requires.1) }

pub returns : goal.returns
returns c = marks_zero c.args.a c.requires.0 c.requires.1 c.zero.ensures
