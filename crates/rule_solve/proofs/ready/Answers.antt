-- Cells and marks are zero. Assumes nothing.
use native.Mathlib.Omega.{arith}
use Rattle.rule_solve.proofs.Idling.{idle_zeroed}
use Rattle.rule_solve.proofs.ready.Goals as goal

pub zero-requires : goal.zero-requires
zero-requires c = record { le = omega arith; fits = omega (arith, c.requires.long) }

pub zero-requires-2 : goal.zero-requires-2
zero-requires-2 c = record { le = omega arith; fits = omega (arith, c.requires.long, c.zero.ensures.rest.long) }

pub returns : goal.returns
returns c = idle_zeroed c.requires c.zero.ensures c.zero-2.ensures
