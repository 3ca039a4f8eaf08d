-- Each move keeps the invariant: what is left of the words comes to what all of them come to. Assumes nothing.
use native.Mathlib.Omega.{arith}
use Rattle.check_run.specs.Running.{running_none, tables_now, going_stop, going_stay, can_push, going_push, going_none, can_top, going_pop, going_end, going_open, running_as}
use Rattle.check_run.proofs.run.Goals.{in-Stay, in-Push, in-Pop+else-h-eq0}
use Rattle.check_run.proofs.run.Goals as goal

pub loop-i-init : goal.loop-i-init
loop-i-init c = running_none _ _ _ _ _ c.requires

pub returns-in-Stop : goal.returns-in-Stop
returns-in-Stop c = going_stop _ _ _ _ _ _ _ _ _ c.loop-i.invariant _ _ (omega (arith, c.count-n.ensures.is)) c.get-t.ensures.is c.step-r.ensures c.in-Stop.is

pub returns-then-h-eq0 : goal.returns-then-h-eq0
returns-then-h-eq0 c = going_none _ _ _ _ _ _ _ _ _ c.loop-i.invariant _ _ (omega (arith, c.count-n.ensures.is)) c.get-t.ensures.is c.step-r.ensures c.in-Pop.is c.if-h-eq0.true

pub returns-then-h-eq0-2 : goal.returns-then-h-eq0-2
returns-then-h-eq0-2 c = going_end _ _ _ _ _ _ _ _ _ c.loop-i.invariant _ (omega (arith, c.count-n.ensures.is)) c.if-h-eq0-2.true c.last.ensures

pub returns : goal.returns
returns c = going_open _ _ _ _ _ _ _ _ _ c.loop-i.invariant (omega (arith, c.count-n.ensures.is)) c.if-h-eq0-2.false

pub step-r-requires : goal.step-r-requires
step-r-requires c = (tables_now _ _ _ _ _ _ _ _ _ c.loop-i.invariant, c.loop-i.invariant.low, c.get-t.ensures.small)

pub push-requires : goal.push-requires
push-requires c = can_push _ _ _ _ _ _ _ _ _ c.loop-i.invariant _ _ (omega (arith, c.count-n.ensures.is)) c.get-t.ensures.is c.step-r.ensures _ _ c.in-Push.is

pub top-x-requires : goal.top-x-requires
top-x-requires c = can_top _ _ _ _ _ _ _ _ _ c.loop-i.invariant _ _ (omega (arith, c.count-n.ensures.is)) c.get-t.ensures.is c.step-r.ensures c.if-h-eq0.false

pub loop-i-preserved : goal.loop-i-preserved
loop-i-preserved c =
    elim c.match-r.branch [
      | in-Stay w ↦ running_as w.w-is w.h-is w.x-is (going_stay _ _ _ _ _ _ _ _ _ c.loop-i.invariant _ _ (omega (arith, c.count-n.ensures.is)) c.get-t.ensures.is c.step-r.ensures _ w.in-Stay.is)
      | in-Push w ↦ running_as w.w-is w.h-is w.x-is (going_push _ _ _ _ _ _ _ _ _ c.loop-i.invariant _ _ (omega (arith, c.count-n.ensures.is)) c.get-t.ensures.is c.step-r.ensures _ _ _ w.in-Push.is w.push.ensures)
      | in-Pop+else-h-eq0 w ↦ running_as w.w-is w.h-is w.x-is (going_pop _ _ _ _ _ _ _ _ _ c.loop-i.invariant _ _ (omega (arith, c.count-n.ensures.is)) c.get-t.ensures.is c.step-r.ensures _ w.in-Pop.is w.if-h-eq0.false w.top-x.ensures)
    ]
