-- By the guard. Assumes nothing.
use mathlib.Core.Path.{refl}
use native.Mathlib.Omega.{arith}
use Rattle.rule_applies.specs.Asking.{holds, fails, asks_13}
use Rattle.rule_applies.proofs.distribution.Goals as goal

pub overflow_add-i : goal.overflow_add-i
overflow_add-i c = omega (arith, c.count-c.ensures.small, c.count-c.ensures.is, c.requires)

pub has_parts-requires : goal.has_parts-requires
has_parts-requires c = omega (arith, c.requires)

pub returns-then-has_parts : goal.returns-then-has_parts
unfolding asks_13
returns-then-has_parts c = holds _ _ _ _ c.has_parts.ensures c.if-has_parts.true refl

pub returns : goal.returns
unfolding asks_13
returns c = fails _ _ _ c.has_parts.ensures c.if-has_parts.false
