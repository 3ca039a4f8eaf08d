-- The last digit first. Assumes nothing.
use mathlib.Core.Path.{refl}
use Prim.Native.Nat.{◌-◌}
use native.Mathlib.Omega.{arith}
use Rattle.answer_emit.proofs.Backwards.{backwards_room, printing_all, printing_more, printing_end}
use Rattle.answer_emit.proofs.digits_back.Goals as goal

pub loop-j-init : goal.loop-j-init
loop-j-init c = printing_all _ _ _ _ c.requires

pub overflow_add-out-in-loop-j : goal.overflow_add-out-in-loop-j
overflow_add-out-in-loop-j c = omega (arith, backwards_room c.loop-j.invariant.text)

pub bounds-out-at : goal.bounds-out-at
bounds-out-at c = omega (arith, backwards_room c.loop-j.invariant.text)

pub loop-j-preserved : goal.loop-j-preserved
loop-j-preserved c = printing_more (c.loop-j.j - 1) _ c.loop-j.invariant (omega arith) refl

pub returns : goal.returns
returns c = printing_end c.loop-j.invariant (omega arith)
