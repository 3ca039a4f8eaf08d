-- The last digit is cut off. Assumes nothing.
use native.Mathlib.Omega.{arith}
use Rattle.answer_emit.proofs.Widening.{widening_all, widening_more, widening_end}
use Rattle.answer_emit.proofs.width.Goals as goal

pub loop-k-init : goal.loop-k-init
loop-k-init c = widening_all _

pub overflow_add-c : goal.overflow_add-c
overflow_add-c c = omega (arith, c.loop-k.invariant.small)

pub loop-k-smaller : goal.loop-k-smaller
loop-k-smaller c = omega arith

pub loop-k-preserved : goal.loop-k-preserved
loop-k-preserved c = widening_more c.loop-k.invariant (omega arith)

pub returns : goal.returns
returns c = widening_end c.loop-k.invariant (omega arith)
