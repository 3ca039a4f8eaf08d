-- The refusals in their order; what is left is settled. Assumes nothing.
use native.Mathlib.Omega.{arith}
use Rattle.step_meant.specs.Deciding.{step_of}
use Rattle.step_store.specs.Regions.{config_part, program_part}
use Rattle.step_store.proofs.Regions.{counts, config_fits, parts_viewed, next_low, points_there, can_bound_it, can_settle, settled_carried, settled_left, goes_there, can_rewrite}
use Rattle.std.proofs.lemmas.Result.{err_from_is_err_and}
use Rattle.step_store.proofs.Done.{refused_done, over_done, settled_done}
use Rattle.step_store.proofs.step.Goals as goal

pub config_count-n-requires : goal.config_count-n-requires
config_count-n-requires c = omega (arith, c.requires.0)

pub program_count-m-requires : goal.program_count-m-requires
program_count-m-requires c = omega (arith, c.requires.0)

pub next_number-next-requires : goal.next_number-next-requires
next_number-next-requires c = omega (arith, c.requires.0)

pub decision-requires : goal.decision-requires
decision-requires c = (c.requires.1, (counts c.args.b.now c.config_count-n.result c.program_count-m.result c.requires.0 c.requires.2 c.config_count-n.ensures.0 c.program_count-m.ensures.0), points_there (counts c.args.b.now c.config_count-n.result c.program_count-m.result c.requires.0 c.requires.2 c.config_count-n.ensures.0 c.program_count-m.ensures.0) c.args.near c.requires.5)

pub fresh-f-requires : goal.fresh-f-requires
fresh-f-requires c = (config_fits (counts c.args.b.now c.config_count-n.result c.program_count-m.result c.requires.0 c.requires.2 c.config_count-n.ensures.0 c.program_count-m.ensures.0), c.requires.0, goes_there (counts c.args.b.now c.config_count-n.result c.program_count-m.result c.requires.0 c.requires.2 c.config_count-n.ensures.0 c.program_count-m.ensures.0) c.args.r c.args.p.0 c.args.a c.in_ok-i.i c.in_ok-i.ensures.0.0)

pub overflow_sub-next : goal.overflow_sub-next
overflow_sub-next c = omega (arith, next_low (counts c.args.b.now c.config_count-n.result c.program_count-m.result c.requires.0 c.requires.2 c.config_count-n.ensures.0 c.program_count-m.ensures.0) c.next_number-next.result c.next_number-next.ensures.0)

pub returns-then-next-f : goal.returns-then-next-f
returns-then-next-f c = (over_done c.args.b.now (config_part c.args.b.now c.config_count-n.result) (program_part c.args.b.now c.program_count-m.result) c.next_number-next.result (parts_viewed (counts c.args.b.now c.config_count-n.result c.program_count-m.result c.requires.0 c.requires.2 c.config_count-n.ensures.0 c.program_count-m.ensures.0) c.next_number-next.result c.next_number-next.ensures.0) (step_of c.args.r c.args.p.0 c.args.a) c.in_ok-i.i c.fresh-f.result c.in_ok-i.ensures.0.0 c.fresh-f.ensures (omega (arith, next_low (counts c.args.b.now c.config_count-n.result c.program_count-m.result c.requires.0 c.requires.2 c.config_count-n.ensures.0 c.program_count-m.ensures.0) c.next_number-next.result c.next_number-next.ensures.0)), c.in_ok-i.ensures.1, tt)

pub build-x-requires : goal.build-x-requires
build-x-requires c = (c.in_ok-i.ensures.1, (counts c.args.b.now c.config_count-n.result c.program_count-m.result c.requires.0 c.requires.2 c.config_count-n.ensures.0 c.program_count-m.ensures.0), can_rewrite (counts c.args.b.now c.config_count-n.result c.program_count-m.result c.requires.0 c.requires.2 c.config_count-n.ensures.0 c.program_count-m.ensures.0) c.args.r c.args.p.0 c.args.a c.in_ok-i.i c.in_ok-i.ensures.0.0 c.next_number-next.result c.fresh-f.result c.next_number-next.ensures.0 c.fresh-f.ensures (omega (arith, next_low (counts c.args.b.now c.config_count-n.result c.program_count-m.result c.requires.0 c.requires.2 c.config_count-n.ensures.0 c.program_count-m.ensures.0) c.next_number-next.result c.next_number-next.ensures.0)))

pub bound_from-q-requires : goal.bound_from-q-requires
bound_from-q-requires c =
    let q = can_bound_it (counts c.args.b.now c.config_count-n.result c.program_count-m.result c.requires.0 c.requires.2 c.config_count-n.ensures.0 c.program_count-m.ensures.0) c.args.r c.args.p.0 c.args.a c.in_ok-i.i c.in_ok-i.ensures.0.0 c.next_number-next.result c.fresh-f.result c.next_number-next.ensures.0 c.fresh-f.ensures (omega (arith, next_low (counts c.args.b.now c.config_count-n.result c.program_count-m.result c.requires.0 c.requires.2 c.config_count-n.ensures.0 c.program_count-m.ensures.0) c.next_number-next.result c.next_number-next.ensures.0)) c.build-x.result _ c.build-x.ensures.1.walk.laid.long c.build-x.ensures.0 c.args.u c.requires.4 in
    (record { room = q.room; few = omega (arith, c.requires.4); closed = q.closed }, omega arith, omega (arith, c.build-x.ensures.1.walk.laid.long))

pub finger_in-finger-requires : goal.finger_in-finger-requires
finger_in-finger-requires c =
    (config_fits (counts c.args.b.now c.config_count-n.result c.program_count-m.result c.requires.0 c.requires.2 c.config_count-n.ensures.0 c.program_count-m.ensures.0), c.requires.0, points_there (counts c.args.b.now c.config_count-n.result c.program_count-m.result c.requires.0 c.requires.2 c.config_count-n.ensures.0 c.program_count-m.ensures.0) c.args.near c.requires.5, c.in_ok-i.ensures.0.1, c.in_ok-i.ensures.0.2)

pub overflow_add-next : goal.overflow_add-next
overflow_add-next c = omega (arith, next_low (counts c.args.b.now c.config_count-n.result c.program_count-m.result c.requires.0 c.requires.2 c.config_count-n.ensures.0 c.program_count-m.ensures.0) c.next_number-next.result c.next_number-next.ensures.0)

pub settle_from-requires : goal.settle_from-requires
settle_from-requires c = (can_settle (counts c.args.b.now c.config_count-n.result c.program_count-m.result c.requires.0 c.requires.2 c.config_count-n.ensures.0 c.program_count-m.ensures.0) c.args.r c.args.p.0 c.args.a c.in_ok-i.i c.in_ok-i.ensures.0.0 c.next_number-next.result c.fresh-f.result c.next_number-next.ensures.0 c.fresh-f.ensures (omega (arith, next_low (counts c.args.b.now c.config_count-n.result c.program_count-m.result c.requires.0 c.requires.2 c.config_count-n.ensures.0 c.program_count-m.ensures.0) c.next_number-next.result c.next_number-next.ensures.0)) c.build-x.result _ c.build-x.ensures.1.walk.laid.long c.build-x.ensures.0 c.args.u c.requires.3 c.bound_from-q.result c.bound_from-q.ensures, omega arith, omega (arith, c.build-x.ensures.1.walk.laid.long))

pub returns-in_err-i : goal.returns-in_err-i
returns-in_err-i c =
    let p = err_from_is_err_and c.from_residual.result c.from_residual.ensures.1 in
    rw (p.1, p.2) (refused_done c.args.b.now (config_part c.args.b.now c.config_count-n.result) (program_part c.args.b.now c.program_count-m.result) c.next_number-next.result (parts_viewed (counts c.args.b.now c.config_count-n.result c.program_count-m.result c.requires.0 c.requires.2 c.config_count-n.ensures.0 c.program_count-m.ensures.0) c.next_number-next.result c.next_number-next.ensures.0) (step_of c.args.r c.args.p.0 c.args.a) _ c.in_err-i.ensures.0.0 c.in_err-i.ensures.0.1, c.in_err-i.ensures.1, tt)

pub returns-in_err-parts : goal.returns-in_err-parts
returns-in_err-parts c =
    let p = err_from_is_err_and c.from_residual-in_err-parts.result c.from_residual-in_err-parts.ensures.1 in
    rw (p.1, p.2) (settled_done c.args.b.now (config_part c.args.b.now c.config_count-n.result) (program_part c.args.b.now c.program_count-m.result) c.next_number-next.result (parts_viewed (counts c.args.b.now c.config_count-n.result c.program_count-m.result c.requires.0 c.requires.2 c.config_count-n.ensures.0 c.program_count-m.ensures.0) c.next_number-next.result c.next_number-next.ensures.0) (step_of c.args.r c.args.p.0 c.args.a) c.in_ok-i.i c.fresh-f.result c.in_ok-i.ensures.0.0 c.fresh-f.ensures (omega (arith, next_low (counts c.args.b.now c.config_count-n.result c.program_count-m.result c.requires.0 c.requires.2 c.config_count-n.ensures.0 c.program_count-m.ensures.0) c.next_number-next.result c.next_number-next.ensures.0)) c.build-x.result _ c.build-x.ensures.0.built _ _ c.in_err-parts.ensures.0, c.build-x.ensures.1, tt)

pub returns : goal.returns
returns c = (settled_done c.args.b.now (config_part c.args.b.now c.config_count-n.result) (program_part c.args.b.now c.program_count-m.result) c.next_number-next.result (parts_viewed (counts c.args.b.now c.config_count-n.result c.program_count-m.result c.requires.0 c.requires.2 c.config_count-n.ensures.0 c.program_count-m.ensures.0) c.next_number-next.result c.next_number-next.ensures.0) (step_of c.args.r c.args.p.0 c.args.a) c.in_ok-i.i c.fresh-f.result c.in_ok-i.ensures.0.0 c.fresh-f.ensures (omega (arith, next_low (counts c.args.b.now c.config_count-n.result c.program_count-m.result c.requires.0 c.requires.2 c.config_count-n.ensures.0 c.program_count-m.ensures.0) c.next_number-next.result c.next_number-next.ensures.0)) c.build-x.result _ c.build-x.ensures.0.built _ 0 c.in_ok-parts.ensures.0, c.build-x.ensures.1, (settled_carried (counts c.args.b.now c.config_count-n.result c.program_count-m.result c.requires.0 c.requires.2 c.config_count-n.ensures.0 c.program_count-m.ensures.0) c.args.r c.args.p.0 c.args.a c.in_ok-i.i c.in_ok-i.ensures.0.0 c.next_number-next.result c.fresh-f.result c.next_number-next.ensures.0 c.fresh-f.ensures (omega (arith, next_low (counts c.args.b.now c.config_count-n.result c.program_count-m.result c.requires.0 c.requires.2 c.config_count-n.ensures.0 c.program_count-m.ensures.0) c.next_number-next.result c.next_number-next.ensures.0)) c.build-x.result _ c.build-x.ensures.1.walk.laid.long c.build-x.ensures.0 c.args.u _ c.in_ok-parts.parts c.in_ok-parts.ensures.0 c.in_ok-parts.ensures.1, settled_left (counts c.args.b.now c.config_count-n.result c.program_count-m.result c.requires.0 c.requires.2 c.config_count-n.ensures.0 c.program_count-m.ensures.0) c.args.r c.args.p.0 c.args.a c.in_ok-i.i c.in_ok-i.ensures.0.0 c.next_number-next.result c.fresh-f.result c.next_number-next.ensures.0 c.fresh-f.ensures (omega (arith, next_low (counts c.args.b.now c.config_count-n.result c.program_count-m.result c.requires.0 c.requires.2 c.config_count-n.ensures.0 c.program_count-m.ensures.0) c.next_number-next.result c.next_number-next.ensures.0)) c.build-x.result _ c.build-x.ensures.1.walk.laid.long c.build-x.ensures.0 c.args.u _ c.finger_in-finger.result c.in_ok-parts.ensures.0 c.finger_in-finger.ensures))
