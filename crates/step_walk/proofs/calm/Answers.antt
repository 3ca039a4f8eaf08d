-- The locals are marked, and unmarked. Assumes nothing.
use mathlib.Core.List.{[]}
use native.Mathlib.Omega.{arith}
use Rattle.work_marks.proofs.Walking.{walk_beside}
use Rattle.rule_locals.proofs.Givings.{marked_now, unmarked_now}
use Rattle.step_walk.proofs.calm.Goals as goal

pub give_inside-requires : goal.give_inside-requires
give_inside-requires c = (c.requires.0.walk.laid, c.requires.1.roomy.vars, omega arith)

pub calm_marked-r-requires : goal.calm_marked-r-requires
calm_marked-r-requires c = (walk_beside [] _ _ 401408 c.requires.0.walk c.give_inside.ensures.rest, marked_now c.give_inside.ensures c.requires.0.unmarked, c.requires.1)

pub give_inside-requires-2 : goal.give_inside-requires-2
give_inside-requires-2 c = (c.calm_marked-r.ensures.1.laid, c.requires.1.roomy.vars, omega arith)

pub returns : goal.returns
returns c = (c.calm_marked-r.ensures.0, record { walk = walk_beside [] _ _ 401408 c.calm_marked-r.ensures.1 c.give_inside-2.ensures.rest; unmarked = unmarked_now c.give_inside-2.ensures c.calm_marked-r.ensures.2 })
