-- One local after another. Assumes nothing.
use native.Mathlib.Omega.{arith}
use Rattle.mem_numbers.specs.Numbers.{shorts}
use Rattle.work_tables.specs.Tables.{laid_after}
use Rattle.work_judge.proofs.Locals.{locals_none, locals_next, locals_all}
use Rattle.work_judge.proofs.mark_locals.Goals as goal

pub zero-requires : goal.zero-requires
zero-requires c = record { le = omega arith; fits = omega (arith, c.requires.long) }

pub loop-i-init : goal.loop-i-init
loop-i-init c = (omega arith, c.count-k.ensures.is, laid_after c.requires c.zero.ensures.rest, locals_none c.args.w.now (shorts c.args.locals.now) _ c.zero.ensures)

pub get-x-requires-clause-inside : goal.get-x-requires-clause-inside
get-x-requires-clause-inside c = omega (arith, c.loop-i.invariant.1)

pub local_put-requires : goal.local_put-requires
local_put-requires c = record { laid = laid_after c.loop-i.invariant.2 c.loop-i.invariant.3.rest; inside = c.get-x.ensures.small; small = omega arith }

pub loop-i-preserved : goal.loop-i-preserved
loop-i-preserved c = (omega arith, c.loop-i.invariant.1, c.loop-i.invariant.2, locals_next _ (shorts c.args.locals.now) _ _ c.loop-i.i c.get-x.result c.loop-i.invariant.2 (omega (arith, c.loop-i.invariant.1)) c.get-x.ensures.is c.get-x.ensures.small c.loop-i.invariant.3 c.local_put.ensures)

pub returns : goal.returns
returns c = locals_all c.args.w.now (shorts c.args.locals.now) _ _ c.loop-i.i (omega (arith, c.loop-i.invariant.0, c.loop-i.invariant.1)) c.zero.ensures c.loop-i.invariant.3
