-- By the operator, its guarded goals and the first's guard. Assumes nothing.
use mathlib.Core.Path.{refl}
use native.Mathlib.Omega.{arith}
use Rattle.rule_applies.specs.Asking.{holds, fails, asks_12}
use Rattle.rule_applies.proofs.splitting.Goals as goal

pub has_more-requires : goal.has_more-requires
has_more-requires c = c.requires

pub overflow_add-i : goal.overflow_add-i
overflow_add-i c = omega (arith, c.count-c.ensures.small, c.count-c.ensures.is, c.requires)

pub solved-requires : goal.solved-requires
solved-requires c = omega (arith, c.requires)

pub returns-then-solved : goal.returns-then-solved
unfolding asks_12
returns-then-solved c = holds _ _ _ _ c.is_kind.ensures c.if-is_kind.true (holds _ _ _ _ c.has_more.ensures c.if-has_more.true (holds _ _ _ _ c.solved.ensures c.if-solved.true refl))

pub returns-then-has_more : goal.returns-then-has_more
unfolding asks_12
returns-then-has_more c = holds _ _ _ _ c.is_kind.ensures c.if-is_kind.true (holds _ _ _ _ c.has_more.ensures c.if-has_more.true (fails _ _ _ c.solved.ensures c.if-solved.false))

pub returns-then-is_kind : goal.returns-then-is_kind
unfolding asks_12
returns-then-is_kind c = holds _ _ _ _ c.is_kind.ensures c.if-is_kind.true (fails _ _ _ c.has_more.ensures c.if-has_more.false)

pub returns : goal.returns
unfolding asks_12
returns c = fails _ _ _ c.is_kind.ensures c.if-is_kind.false
