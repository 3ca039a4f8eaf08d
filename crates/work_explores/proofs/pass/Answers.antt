-- One more, unless the stack is empty. Assumes nothing.
use native.Mathlib.Omega.{arith}
use Rattle.work_explores.specs.Passing.{passed_none, passed_some}
use Rattle.work_explores.proofs.pass.Goals as goal

pub returns-then-h-eq0 : goal.returns-then-h-eq0
returns-then-h-eq0 c = passed_none c.if-h-eq0.true

pub overflow_sub-h : goal.overflow_sub-h
overflow_sub-h c = omega arith

pub done_get-i-requires : goal.done_get-i-requires
done_get-i-requires c = record { laid = c.requires.laid; inside = omega (arith, c.requires.inside) }

pub overflow_sub-h-2 : goal.overflow_sub-h-2
overflow_sub-h-2 c = omega arith

pub overflow_add-i : goal.overflow_add-i
overflow_add-i c = omega (arith, c.done_get-i.ensures.small)

pub done_put-requires : goal.done_put-requires
done_put-requires c = record { laid = c.requires.laid; inside = omega (arith, c.requires.inside); small = omega (arith, c.done_get-i.ensures.is, c.requires.small (omega arith)) }

pub returns : goal.returns
returns c = passed_some (λ z. omega arith) c.done_get-i.ensures c.done_put.ensures
