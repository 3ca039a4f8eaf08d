-- The laws are those of `solve_tells`, at the tables of the slice. Assumes nothing.
use mathlib.Core.Path.{subst}
use mathlib.Core.Bool.{Bool, true, false}
use Prim.Native.Nat.{◌+◌, ◌*◌, ◌/◌, ◌%◌}
use native.Mathlib.Omega.{arith}
use lib.ListN.{length}
use Rattle.work_tables.specs.Tables.{cells_of, vars_of, olds_of, pos_of, log_of, same_moved, length_var, length_pos}
use Rattle.solve_tells.specs.Steps.{Room}
use Rattle.solve_tells.proofs.Trails.{step_none}
use Rattle.solve_classes.proofs.Linking.{apps_at_lem}
use Rattle.solve_tells.proofs.Holding.{held_same, held_met, held_bind}
use Rattle.work_unify.proofs.hold.Goals as goal

pub find-r-requires : goal.find-r-requires
find-r-requires c = (c.requires.0, record { up = c.requires.2.sound.up; inside = c.requires.2.var })

pub cell_get-c-requires : goal.cell_get-c-requires
cell_get-c-requires c = record { laid = c.requires.0; inside = omega (arith, c.find-r.ensures.inside, c.requires.2.sound.up.size) }

pub returns-then-j-k : goal.returns-then-j-k
returns-then-j-k c = (held_same (log_of c.args.used c.args.w.now) (pos_of c.args.w.now) (cells_of c.args.w.now) c.requires.2.sound.up c.args.x.0 c.find-r.result.0 c.cell_get-c.result c.find-r.ensures c.cell_get-c.ensures.is (omega arith) (vars_of c.args.w.now) (olds_of c.args.w.now) c.args.n c.args.k c.requires.2.sound c.if-j-k.true, same_moved)

pub pos_get-p-requires : goal.pos_get-p-requires
pos_get-p-requires c = record { laid = c.requires.0; inside = omega (arith, c.requires.2.app, length_pos c.requires.0) }

pub pos_get-q-requires : goal.pos_get-q-requires
pos_get-q-requires c = record { laid = c.requires.0; inside = omega (arith, apps_at_lem (cells_of c.args.w.now) (length (pos_of c.args.w.now)) c.requires.2.apps c.find-r.result.0 (omega (arith, c.cell_get-c.ensures.is)), c.cell_get-c.ensures.is, length_pos c.requires.0) }

pub meet-requires : goal.meet-requires
meet-requires c = (c.requires.0, c.requires.1, record { sound = c.requires.2.sound; lowp = c.pos_get-p.ensures.small; lowq = c.pos_get-q.ensures.small })

pub returns-then-c-eq2 : goal.returns-then-c-eq2
returns-then-c-eq2 c = (held_met (log_of c.args.used c.args.w.now) (pos_of c.args.w.now) (cells_of c.args.w.now) c.requires.2.sound.up c.args.x.0 c.find-r.result.0 c.cell_get-c.result c.find-r.ensures c.cell_get-c.ensures.is (omega arith) (vars_of c.args.w.now) (olds_of c.args.w.now) c.args.n c.args.k c.pos_get-p.result c.pos_get-q.result _ _ _ c.meet.result c.pos_get-p.ensures.is c.pos_get-q.ensures.is c.meet.ensures.0, c.meet.ensures.1)

pub roomy-requires : goal.roomy-requires
roomy-requires c = (c.requires.0, c.requires.2.sound.fit_x)

pub returns-then-not-roomy : goal.returns-then-not-roomy
returns-then-not-roomy c = ((step_none (log_of c.args.used c.args.w.now) (cells_of c.args.w.now) (vars_of c.args.w.now) (olds_of c.args.w.now) c.args.n c.requires.2.sound, subst (λ (r : Bool). Room (vars_of c.args.w.now) (olds_of c.args.w.now) c.args.n r) (c.if-not-roomy.true) c.roomy.ensures), same_moved)

pub overflow_add-m : goal.overflow_add-m
overflow_add-m c = let h = (subst (λ (r : Bool). Room (vars_of c.args.w.now) (olds_of c.args.w.now) c.args.n r) (c.if-not-roomy.false) c.roomy.ensures) in omega (arith, h.0, length_var c.requires.0)

pub save-requires : goal.save-requires
save-requires c = let h = (subst (λ (r : Bool). Room (vars_of c.args.w.now) (olds_of c.args.w.now) c.args.n r) (c.if-not-roomy.false) c.roomy.ensures) in (c.requires.0, record { inside = c.find-r.ensures.inside; var = omega (arith, c.find-r.ensures.inside, c.requires.2.sound.up.size); cell = omega (arith, c.requires.2.app, c.requires.2.size); room_x = omega (arith, h.0); room_c = omega (arith, h.1) })

pub returns : goal.returns
returns c =
    let h = (subst (λ (r : Bool). Room (vars_of c.args.w.now) (olds_of c.args.w.now) c.args.n r) (c.if-not-roomy.false) c.roomy.ensures) in
    (held_bind (log_of c.args.used c.args.w.now) (pos_of c.args.w.now) (cells_of c.args.w.now) (vars_of c.args.w.now) (olds_of c.args.w.now) c.args.n c.args.x.0 c.args.k c.find-r.result.0 c.cell_get-c.result (2 + c.cell_get-c.result / 4 % 64 * 4 + c.args.k * 256) _ _ _ c.requires.2 c.find-r.ensures c.cell_get-c.ensures.is (omega arith) (record { inside = c.find-r.ensures.inside; var = omega (arith, c.find-r.ensures.inside, c.requires.2.sound.up.size); cell = omega (arith, c.requires.2.app, c.requires.2.size); room_x = omega (arith, h.0); room_c = omega (arith, h.1) }) c.save.ensures.saved (omega arith) (omega arith) (omega arith), c.save.ensures.rest)
