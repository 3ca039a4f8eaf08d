-- By whether it ends behind its first word. Assumes nothing.
use mathlib.Core.Path.{refl}
use native.Mathlib.Omega.{arith}
use Rattle.rule_applies.specs.Asking.{holds, fails, asks_10}
use Rattle.rule_applies.proofs.goal_failure.Goals as goal

pub overflow_add-i : goal.overflow_add-i
overflow_add-i c = omega (arith, c.count-c.ensures.small, c.count-c.ensures.is, c.requires)

pub returns-then-ends : goal.returns-then-ends
unfolding asks_10
returns-then-ends c = holds _ _ _ _ c.ends.ensures c.if-ends.true refl

pub returns : goal.returns
unfolding asks_10
returns c = fails _ _ _ c.ends.ensures c.if-ends.false
