-- By its guarded goals, the first's guard and the operator. Assumes nothing.
use mathlib.Core.Path.{refl}
use native.Mathlib.Omega.{arith}
use Rattle.rule_applies.specs.Asking.{holds, fails, one_way, other_way, asks_6}
use Rattle.rule_applies.proofs.promotion.Goals as goal

pub has_one-requires : goal.has_one-requires
has_one-requires c = c.requires

pub overflow_add-i : goal.overflow_add-i
overflow_add-i c = omega (arith, c.count-c.ensures.small, c.count-c.ensures.is, c.requires)

pub solved-requires : goal.solved-requires
solved-requires c = omega (arith, c.requires)

pub returns-then-is_kind : goal.returns-then-is_kind
unfolding asks_6
returns-then-is_kind c = holds _ _ _ _ c.has_one.ensures c.if-has_one.true (holds _ _ _ _ c.solved.ensures c.if-solved.true (one_way _ _ _ _ _ c.is_kind.ensures c.if-is_kind.true refl))

pub overflow_add-result : goal.overflow_add-result
overflow_add-result c = omega (arith, c.count-c.ensures.small, c.count-c.ensures.is, c.requires)

pub returns-then-solved : goal.returns-then-solved
unfolding asks_6
returns-then-solved c = holds _ _ _ _ c.has_one.ensures c.if-has_one.true (holds _ _ _ _ c.solved.ensures c.if-solved.true (other_way _ _ _ _ _ c.is_kind.ensures c.if-is_kind.false refl))

pub returns-then-has_one : goal.returns-then-has_one
unfolding asks_6
returns-then-has_one c = holds _ _ _ _ c.has_one.ensures c.if-has_one.true (fails _ _ _ c.solved.ensures c.if-solved.false)

pub returns : goal.returns
unfolding asks_6
returns c = fails _ _ _ c.has_one.ensures c.if-has_one.false
