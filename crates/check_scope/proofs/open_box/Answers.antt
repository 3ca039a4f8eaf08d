-- The locals are marked, and the guard's last and-box is this one. Assumes nothing.
use native.Mathlib.Omega.{arith}
use Rattle.work_tables.specs.Tables.{laid_after}
use Rattle.check_scope.specs.Next.{looks, is_taken, is_alone, is_guarding}
use Rattle.check_scope.proofs.open_box.Goals as goal

pub aim-t-requires : goal.aim-t-requires
aim-t-requires c = looks c.requires.0

pub overflow_add-i : goal.overflow_add-i
overflow_add-i c = omega (arith, c.requires.0.short, c.requires.0.inside)

pub mark-requires : goal.mark-requires
mark-requires c = (c.requires.0.laid, omega (arith, c.requires.0.short, c.requires.0.inside))

pub returns-then-not-mark : goal.returns-then-not-mark
returns-then-not-mark c = is_taken 0 c.mark.result c.requires.0 c.requires.1 c.mark.ensures (c.if-not-mark.true)

pub stack_put-requires : goal.stack_put-requires
stack_put-requires c = record { laid = laid_after c.requires.0.laid c.mark.ensures.named.rest; inside = omega (arith, c.requires.0.short, c.requires.0.inside, c.requires.0.holding.few); small = omega (arith, c.requires.0.short, c.requires.0.inside) }

pub overflow_add-result : goal.overflow_add-result
overflow_add-result c = omega (arith, c.requires.0.short, c.requires.0.inside, c.requires.0.holding.few)

pub returns-then-t-eq0 : goal.returns-then-t-eq0
returns-then-t-eq0 c = is_alone c.aim-t.result c.mark.result c.requires.0 c.requires.1 c.aim-t.ensures c.if-t-eq0.true c.mark.ensures (c.if-not-mark.false) c.stack_put.ensures

pub overflow_sub-t : goal.overflow_sub-t
overflow_sub-t c = omega arith

pub link_get-l-requires : goal.link_get-l-requires
link_get-l-requires c = record { laid = c.requires.0.laid; inside = omega (arith, (looks c.requires.0).aims, c.aim-t.ensures, c.if-t-eq0.false) }

pub overflow_add-i-2 : goal.overflow_add-i-2
overflow_add-i-2 c = omega (arith, c.requires.0.short, c.requires.0.inside)

pub mark-requires-2 : goal.mark-requires-2
mark-requires-2 c = (c.requires.0.laid, omega (arith, c.requires.0.short, c.requires.0.inside))

pub returns-then-not-mark-2 : goal.returns-then-not-mark-2
returns-then-not-mark-2 c = is_taken c.link_get-l.result c.mark-2.result c.requires.0 c.requires.1 c.mark-2.ensures (c.if-not-mark-2.true)

pub overflow_sub-t-2 : goal.overflow_sub-t-2
overflow_sub-t-2 c = omega arith

pub overflow_add-i-3 : goal.overflow_add-i-3
overflow_add-i-3 c = omega (arith, c.requires.0.short, c.requires.0.inside)

pub link_put-requires : goal.link_put-requires
link_put-requires c = record { laid = laid_after c.requires.0.laid c.mark-2.ensures.named.rest; inside = omega (arith, (looks c.requires.0).aims, c.aim-t.ensures, c.if-t-eq0.false); small = omega (arith, c.requires.0.short, c.requires.0.inside) }

pub stack_put-requires-2 : goal.stack_put-requires-2
stack_put-requires-2 c = record { laid = laid_after (laid_after c.requires.0.laid c.mark-2.ensures.named.rest) c.link_put.ensures.rest; inside = omega (arith, c.requires.0.short, c.requires.0.inside, c.requires.0.holding.few); small = omega (arith, c.requires.0.short, c.requires.0.inside) }

pub overflow_add-result-2 : goal.overflow_add-result-2
overflow_add-result-2 c = omega (arith, c.requires.0.short, c.requires.0.inside, c.requires.0.holding.few)

pub returns : goal.returns
returns c = is_guarding c.aim-t.result c.link_get-l.result c.mark-2.result c.requires.0 c.requires.1 c.aim-t.ensures c.if-t-eq0.false c.link_get-l.ensures.is c.mark-2.ensures (c.if-not-mark-2.false) c.link_put.ensures c.stack_put-2.ensures
