-- The locals are marked, and unmarked. Assumes nothing.
use native.Mathlib.Omega.{arith}
use Rattle.rule_solve.proofs.Quieting.{can_marked, quiet_idle}
use Rattle.rule_solve.proofs.quiet_at.Goals as goal

pub give_inside-requires : goal.give_inside-requires
give_inside-requires c = (c.requires.0.walk.laid, c.requires.1.vars, omega arith)

pub quiet_marked-r-requires : goal.quiet_marked-r-requires
quiet_marked-r-requires c = can_marked c.requires.0 c.give_inside.ensures c.requires.1 (c.requires.2, c.requires.3) c.requires.4

pub give_inside-requires-2 : goal.give_inside-requires-2
give_inside-requires-2 c = (c.quiet_marked-r.ensures.1.laid, c.requires.1.vars, omega arith)

pub returns : goal.returns
returns c = quiet_idle c.requires.0 c.give_inside.ensures c.quiet_marked-r.ensures c.give_inside-2.ensures
