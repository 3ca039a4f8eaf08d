-- The bytes up to i are zero. Assumes nothing.
use mathlib.Core.Path.{refl}
use native.Mathlib.Omega.{arith}
use Rattle.check_zeros.proofs.Zeroing.{zero_more, zero_all}
use Rattle.check_zeros.proofs.zeros.Goals as goal

pub loop-i-init : goal.loop-i-init
loop-i-init c = c.front-start.ensures

pub returns-then-b-i-ne0 : goal.returns-then-b-i-ne0
returns-then-b-i-ne0 c = λ z. c.if-b-i-ne0.true (z c.loop-i.i c.loop-i.invariant.low (omega arith))

pub loop-i-preserved : goal.loop-i-preserved
loop-i-preserved c = zero_more c.loop-i.invariant (omega arith) refl c.if-b-i-ne0.false

pub returns : goal.returns
returns c = zero_all c.loop-i.invariant (omega arith)
