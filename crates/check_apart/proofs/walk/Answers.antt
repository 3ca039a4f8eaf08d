-- The answer is that of the words that are left. Assumes nothing.
use native.Mathlib.Omega.{arith}
use Rattle.mem_parts.specs.Parts.{outside_then}
use Rattle.work_tables.specs.Tables.{laid_after}
use Rattle.check_apart.specs.Steps.{ends}
use Rattle.check_apart.specs.Next.{same, stopped, went_on}
use Rattle.check_apart.proofs.walk.Goals as goal

pub count-n-requires : goal.count-n-requires
count-n-requires c = tt

pub loop-i-init : goal.loop-i-init
loop-i-init c = (c.requires.0, same, omega arith, c.requires.2)

pub get-w-requires : goal.get-w-requires
get-w-requires c = omega (arith, c.count-n.ensures.is)

pub step-requires : goal.step-requires
step-requires c = (record { laid = c.loop-i.invariant.0; short = c.requires.1; inside = omega (arith, c.count-n.ensures.is); holding = c.loop-i.invariant.3 }, c.get-w.ensures)

pub returns-in_default : goal.returns-in_default
returns-in_default c = (stopped c.step.ensures c.in_default.is, outside_then c.loop-i.invariant.1 c.step.ensures.rest)

pub loop-i-preserved : goal.loop-i-preserved
loop-i-preserved c = (laid_after c.loop-i.invariant.0 c.step.ensures.rest, outside_then c.loop-i.invariant.1 c.step.ensures.rest, omega arith, went_on _ c.step.ensures c.in-Some.is)

pub returns : goal.returns
returns c = (ends (omega (arith, c.count-n.ensures.is)) c.loop-i.invariant.3, c.loop-i.invariant.1)
