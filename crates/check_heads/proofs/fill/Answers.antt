-- The table is zero first. Assumes nothing.
use native.Mathlib.Omega.{arith}
use Rattle.check_heads.specs.Filling.{can_mark, filled}
use Rattle.check_heads.proofs.fill.Goals as goal

pub zero-requires : goal.zero-requires
zero-requires c = record { le = omega arith; fits = omega (arith, c.requires.tables.long) }

pub each-requires : goal.each-requires
each-requires c = can_mark c.requires c.zero.ensures

pub returns : goal.returns
returns c = filled c.requires c.zero.ensures c.each.ensures
