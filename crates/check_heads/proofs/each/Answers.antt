-- Each word keeps the invariant: the heads that are left pass beside those seen. Assumes nothing.
use mathlib.Core.Path.{refl, ap}
use native.Mathlib.Omega.{arith}
use Rattle.check_heads.specs.Filling.{filling_none, filling_named, filling_as, filling_other, filling_first, filling_stop, filling_head, filling_end, was_number}
use Rattle.check_heads.proofs.each.Goals.{in-Num+in-Some+else-not-define, in-Num+in_default-name, in_default}
use Rattle.check_heads.proofs.each.Goals as goal

pub loop-i-init : goal.loop-i-init
loop-i-init c = filling_none _ _ _ c.requires

pub returns-then-not-define : goal.returns-then-not-define
returns-then-not-define c = filling_stop _ _ _ _ _ _ _ _ (filling_named _ _ _ _ c.in-Some.p c.in-Some.is c.loop-i.invariant) _ _ (omega (arith, c.count-n.ensures.is)) c.get.ensures.is c.in-Num.is refl _ _ c.define.ensures c.if-not-define.true

pub loop-i-preserved : goal.loop-i-preserved
loop-i-preserved c =
    elim c.match-get.branch [
      | in-Num+in-Some+else-not-define w ↦ filling_as _ _ _ w.w-is w.c-is w.name-is (filling_head _ _ _ _ _ _ _ _ (filling_named _ _ _ _ w.in-Some.p w.in-Some.is c.loop-i.invariant) _ _ (omega (arith, c.count-n.ensures.is)) c.get.ensures.is w.in-Num.is refl _ _ w.define.ensures w.if-not-define.false)
      | in-Num+in_default-name w ↦ filling_as _ _ _ w.w-is w.c-is w.name-is (filling_first _ _ _ _ _ _ _ _ c.loop-i.invariant _ _ (omega (arith, c.count-n.ensures.is)) c.get.ensures.is w.in-Num.is (ap was_number w.in_default-name.is))
      | in_default w ↦ filling_as _ _ _ w.w-is w.c-is w.name-is (filling_other _ _ _ _ _ _ _ _ c.loop-i.invariant _ (omega (arith, c.count-n.ensures.is)) c.get.ensures.is w.in_default.not-Num)
    ]

pub returns : goal.returns
returns c = filling_end _ _ _ _ _ _ _ _ c.loop-i.invariant (omega (arith, c.count-n.ensures.is))
