-- Its own locals marked, the question, and unmarked. Assumes nothing.
use native.Mathlib.Omega.{arith}
use Rattle.work_tables.specs.Tables.{laid_after}
use Rattle.step_guards.proofs.Owning.{own_height, own_read, own_ask, own_laid, own_asked}
use Rattle.step_guards.proofs.own_quiet.Goals as goal

pub overflow_sub-i : goal.overflow_sub-i
overflow_sub-i c = omega (arith, (own_height c.requires).0)

pub overflow_mul-i : goal.overflow_mul-i
overflow_mul-i c = omega (arith, (own_height c.requires).1)

pub overflow_add-i : goal.overflow_add-i
overflow_add-i c = omega (arith, (own_height c.requires).1)

pub get-from-requires : goal.get-from-requires
get-from-requires c = own_read c.requires

pub give_inside-requires : goal.give_inside-requires
give_inside-requires c = (c.requires.stood.at.walk.laid, c.requires.can.roomy.vars, omega arith)

pub silent-r-requires : goal.silent-r-requires
silent-r-requires c = own_ask c.requires c.get-from.result c.get-from.ensures.is c.give_inside.ensures

pub give_inside-requires-2 : goal.give_inside-requires-2
give_inside-requires-2 c = (laid_after (own_laid c.requires c.get-from.result c.get-from.ensures.is c.give_inside.ensures) c.silent-r.ensures.rest, c.requires.can.roomy.vars, omega arith)

pub returns : goal.returns
returns c = own_asked c.requires c.get-from.result c.get-from.ensures.is c.give_inside.ensures c.silent-r.result c.silent-r.ensures c.give_inside-2.ensures
