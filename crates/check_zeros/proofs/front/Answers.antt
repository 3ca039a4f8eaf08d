-- The bytes up to i are zero. Assumes nothing.
use native.Mathlib.Omega.{arith}
use Rattle.check_zeros.proofs.Zeroing.{zero_none, zero_piece}
use Rattle.check_zeros.proofs.front.Goals as goal

pub loop-i-init : goal.loop-i-init
loop-i-init c = zero_none c.args.b.now c.args.a c.args.e c.requires.1

pub returns-then-tally-ne0 : goal.returns-then-tally-ne0
returns-then-tally-ne0 c = c.loop-i.invariant

pub loop-i-smaller : goal.loop-i-smaller
loop-i-smaller c = omega arith

pub loop-i-preserved : goal.loop-i-preserved
loop-i-preserved c = zero_piece c.loop-i.invariant (omega arith) c.tally.ensures c.if-tally-ne0.false

pub returns : goal.returns
returns c = c.loop-i.invariant
