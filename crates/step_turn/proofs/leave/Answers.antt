-- The four numbers of the entry, and back. Assumes nothing.
use mathlib.Core.Path.{refl}
use native.Mathlib.Omega.{arith}
use Rattle.step_turn.proofs.Leaving.{leave_read, leave_first, back_can, left_of}
use Rattle.step_turn.proofs.leave.Goals as goal

pub overflow_sub-h : goal.overflow_sub-h
overflow_sub-h c = omega (arith, c.requires.some)

pub overflow_mul-i : goal.overflow_mul-i
overflow_mul-i c = omega (arith, c.requires.some, c.requires.few)

pub get-d-requires : goal.get-d-requires
get-d-requires c = leave_first c.requires

pub overflow_add-i : goal.overflow_add-i
overflow_add-i c = omega (arith, c.requires.some, c.requires.few)

pub get-u-requires : goal.get-u-requires
get-u-requires c = leave_read 1 c.requires (omega arith)

pub overflow_add-i-2 : goal.overflow_add-i-2
overflow_add-i-2 c = omega (arith, c.requires.some, c.requires.few)

pub get-m-requires : goal.get-m-requires
get-m-requires c = leave_read 2 c.requires (omega arith)

pub overflow_add-i-3 : goal.overflow_add-i-3
overflow_add-i-3 c = omega (arith, c.requires.some, c.requires.few)

pub get-a-requires : goal.get-a-requires
get-a-requires c = leave_read 3 c.requires (omega arith)

pub back-requires : goal.back-requires
back-requires c = back_can c.get-m.result c.requires c.get-m.ensures.is

pub returns : goal.returns
returns c = left_of _ c.get-d.ensures.is refl c.get-u.ensures.is c.get-m.ensures.is c.get-a.ensures.is c.back.ensures
