-- By the guard. Assumes nothing.
use mathlib.Core.Path.{refl}
use native.Mathlib.Omega.{arith}
use Rattle.rule_applies.specs.Asking.{holds, fails, asks_11}
use Rattle.rule_applies.proofs.guard_failure.Goals as goal

pub overflow_add-i : goal.overflow_add-i
overflow_add-i c = omega (arith, c.count-c.ensures.small, c.count-c.ensures.is, c.requires)

pub failure-requires : goal.failure-requires
failure-requires c = omega (arith, c.requires)

pub returns-then-failure : goal.returns-then-failure
unfolding asks_11
returns-then-failure c = holds _ _ _ _ c.failure.ensures c.if-failure.true refl

pub returns : goal.returns
unfolding asks_11
returns c = fails _ _ _ c.failure.ensures c.if-failure.false
