-- The rest is halved. Assumes nothing.
use Prim.Native.Nat.{◌+◌, ◌/◌}
use native.Mathlib.Omega.{arith}
use Rattle.check_vartables.specs.Tables.{stack_of}
use Rattle.check_apart.specs.Search.{at_first, go_up, go_down, at_last}
use Rattle.check_apart.proofs.earlier.Goals as goal

pub loop-lo-init : goal.loop-lo-init
loop-lo-init c = at_first (stack_of c.args.work.now) c.args.k c.args.v

pub overflow_add-m : goal.overflow_add-m
overflow_add-m c = omega (arith, c.loop-lo.invariant.order, c.loop-lo.invariant.most, c.requires.1)

pub stack_get-requires : goal.stack_get-requires
stack_get-requires c = record { laid = c.requires.0; inside = omega (arith, c.loop-lo.invariant.order, c.loop-lo.invariant.most, c.requires.1) }

pub overflow_add-lo : goal.overflow_add-lo
overflow_add-lo c = omega (arith, c.loop-lo.invariant.most, c.requires.1)

pub loop-lo-smaller-then-stack_get-v : goal.loop-lo-smaller-then-stack_get-v
loop-lo-smaller-then-stack_get-v c = omega arith

pub loop-lo-preserved-then-stack_get-v : goal.loop-lo-preserved-then-stack_get-v
loop-lo-preserved-then-stack_get-v c = go_up ((c.loop-lo.lo + c.loop-lo.hi) / 2) c.requires.2 c.loop-lo.invariant (omega arith) (omega arith) (omega (arith, c.stack_get.ensures.is))

pub loop-lo-smaller : goal.loop-lo-smaller
loop-lo-smaller c = omega arith

pub loop-lo-preserved : goal.loop-lo-preserved
loop-lo-preserved c = go_down ((c.loop-lo.lo + c.loop-lo.hi) / 2) c.requires.2 c.loop-lo.invariant (omega arith) (omega arith) (omega (arith, c.stack_get.ensures.is))

pub returns : goal.returns
returns c = at_last (omega arith) c.loop-lo.invariant
