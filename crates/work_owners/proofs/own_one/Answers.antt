-- The laws are those of `solve_quiet`, at the tables of the slice. Assumes nothing.
use mathlib.Core.Path.{subst, sym, ◌∙◌}
use mathlib.Core.Bool.{Bool, true, false}
use Prim.Native.Nat.{◌+◌, ◌*◌, ◌/◌, ◌%◌}
use native.Mathlib.Omega.{arith}
use Rattle.work_tables.specs.Tables.{cells_of, vars_of, olds_of, locals_of, same_moved, length_var, length_old, length_locals}
use Rattle.solve_tells.specs.Steps.{Room}
use Rattle.solve_tells.proofs.Trails.{filled_then}
use Rattle.solve_quiet.proofs.Owning.{marks_of, passed_closed, passed_local, loud_bound, passed_self, loud_outer, passed_owned, loud_owned, made_owner}
use Rattle.work_owners.proofs.own_one.Goals as goal

pub var_get-x-requires : goal.var_get-x-requires
var_get-x-requires c = record { laid = c.requires.0; inside = omega (arith, c.requires.1.entry, c.requires.1.fit_x, length_var c.requires.0) }

pub old_get-c-requires : goal.old_get-c-requires
old_get-c-requires c = record { laid = c.requires.0; inside = omega (arith, c.requires.1.entry, c.requires.1.fit_c, length_old c.requires.0) }

pub returns-then-c-ne0 : goal.returns-then-c-ne0
returns-then-c-ne0 c = (λ T X C from n h. let L = locals_of c.args.w.now in passed_closed L T X C from n (cells_of c.args.w.now) (vars_of c.args.w.now) (olds_of c.args.w.now) c.args.i c.args.m c.var_get-x.result c.old_get-c.result h c.var_get-x.ensures.is c.old_get-c.ensures.is c.if-c-ne0.true, same_moved)

pub local_get-requires : goal.local_get-requires
local_get-requires c = record { laid = c.requires.0; inside = omega (arith, c.requires.1.var, c.var_get-x.ensures.is, c.requires.1.locals, length_locals c.requires.0) }

pub returns-then-local_get-ne0 : goal.returns-then-local_get-ne0
returns-then-local_get-ne0 c = (λ T X C from n h. let L = locals_of c.args.w.now in passed_local L T X C from n (cells_of c.args.w.now) (vars_of c.args.w.now) (olds_of c.args.w.now) c.args.i c.args.m c.var_get-x.result c.old_get-c.result h c.var_get-x.ensures.is c.old_get-c.ensures.is (λ z. c.if-local_get-ne0.true (c.local_get.ensures.is ∙ z)), same_moved)

pub find-r-requires : goal.find-r-requires
find-r-requires c = (c.requires.0, record { up = c.requires.1.up; inside = omega (arith, c.requires.1.var, c.var_get-x.ensures.is) })

pub cell_get-d-requires : goal.cell_get-d-requires
cell_get-d-requires c = record { laid = c.requires.0; inside = omega (arith, c.find-r.ensures.inside, c.requires.1.up.size) }

pub returns-then-d-eq2 : goal.returns-then-d-eq2
returns-then-d-eq2 c = (λ T X C from n h. let L = locals_of c.args.w.now in (marks_of h.owning, loud_bound L T X C from n (cells_of c.args.w.now) (vars_of c.args.w.now) (olds_of c.args.w.now) c.args.i c.args.m c.var_get-x.result c.old_get-c.result h c.var_get-x.ensures.is c.old_get-c.ensures.is c.if-c-ne0.false (sym c.local_get.ensures.is ∙ c.if-local_get-ne0.false) c.find-r.result.0 c.cell_get-d.result c.find-r.ensures c.cell_get-d.ensures.is c.if-d-eq2.true), same_moved)

pub returns-then-r-x : goal.returns-then-r-x
returns-then-r-x c = (λ T X C from n h. let L = locals_of c.args.w.now in passed_self L T X C from n (cells_of c.args.w.now) (vars_of c.args.w.now) (olds_of c.args.w.now) c.args.i c.args.m c.var_get-x.result c.old_get-c.result h c.var_get-x.ensures.is c.old_get-c.ensures.is c.if-c-ne0.false (sym c.local_get.ensures.is ∙ c.if-local_get-ne0.false) c.find-r.result.0 c.cell_get-d.result c.find-r.ensures c.cell_get-d.ensures.is c.if-d-eq2.false c.if-r-x.true, same_moved)

pub local_get-requires-2 : goal.local_get-requires-2
local_get-requires-2 c = record { laid = c.requires.0; inside = omega (arith, c.find-r.ensures.inside, c.requires.1.locals, length_locals c.requires.0) }

pub returns-then-local_get-eq0 : goal.returns-then-local_get-eq0
returns-then-local_get-eq0 c = (λ T X C from n h. let L = locals_of c.args.w.now in (marks_of h.owning, loud_outer L T X C from n (cells_of c.args.w.now) (vars_of c.args.w.now) (olds_of c.args.w.now) c.args.i c.args.m c.var_get-x.result c.old_get-c.result h c.var_get-x.ensures.is c.old_get-c.ensures.is c.if-c-ne0.false (sym c.local_get.ensures.is ∙ c.if-local_get-ne0.false) c.find-r.result.0 c.cell_get-d.result c.find-r.ensures c.cell_get-d.ensures.is c.if-d-eq2.false c.if-r-x.false (sym c.local_get-2.ensures.is ∙ c.if-local_get-eq0.true)), same_moved)

pub returns-then-d-x : goal.returns-then-d-x
returns-then-d-x c = (λ T X C from n h. let L = locals_of c.args.w.now in passed_owned L T X C from n (cells_of c.args.w.now) (vars_of c.args.w.now) (olds_of c.args.w.now) c.args.i c.args.m c.var_get-x.result c.old_get-c.result h c.var_get-x.ensures.is c.old_get-c.ensures.is c.if-c-ne0.false (sym c.local_get.ensures.is ∙ c.if-local_get-ne0.false) c.find-r.result.0 c.cell_get-d.result c.find-r.ensures c.cell_get-d.ensures.is c.if-d-eq2.false c.if-d-eq3.true c.if-d-x.true, same_moved)

pub returns-then-d-eq3 : goal.returns-then-d-eq3
returns-then-d-eq3 c = (λ T X C from n h. let L = locals_of c.args.w.now in (marks_of h.owning, loud_owned L T X C from n (cells_of c.args.w.now) (vars_of c.args.w.now) (olds_of c.args.w.now) c.args.i c.args.m c.var_get-x.result c.old_get-c.result h c.var_get-x.ensures.is c.old_get-c.ensures.is c.if-c-ne0.false (sym c.local_get.ensures.is ∙ c.if-local_get-ne0.false) c.find-r.result.0 c.cell_get-d.result c.find-r.ensures c.cell_get-d.ensures.is c.if-d-eq3.true c.if-d-x.false), same_moved)

pub roomy-requires : goal.roomy-requires
roomy-requires c = (c.requires.0, c.requires.1.fit_x)

pub returns-then-not-roomy : goal.returns-then-not-roomy
returns-then-not-roomy c = (λ T X C from n h. let L = locals_of c.args.w.now in (marks_of h.owning, filled_then X C (vars_of c.args.w.now) (olds_of c.args.w.now) c.args.m h.owning.grown.size_x h.owning.grown.size_c (subst (λ (r : Bool). Room (vars_of c.args.w.now) (olds_of c.args.w.now) c.args.m r) (c.if-not-roomy.true) c.roomy.ensures)), same_moved)

pub overflow_add-k : goal.overflow_add-k
overflow_add-k c = let w = (subst (λ (r : Bool). Room (vars_of c.args.w.now) (olds_of c.args.w.now) c.args.m r) (c.if-not-roomy.false) c.roomy.ensures) in omega (arith, w.0, length_var c.requires.0)

pub save-requires : goal.save-requires
save-requires c = let w = (subst (λ (r : Bool). Room (vars_of c.args.w.now) (olds_of c.args.w.now) c.args.m r) (c.if-not-roomy.false) c.roomy.ensures) in (c.requires.0, record { inside = c.find-r.ensures.inside; var = omega (arith, c.find-r.ensures.inside, c.requires.1.up.size); cell = omega (arith, c.var_get-x.ensures.small); room_x = omega (arith, w.0); room_c = omega (arith, w.1) })

pub returns : goal.returns
returns c = (λ T X C from n h. let L = locals_of c.args.w.now in let w = (subst (λ (r : Bool). Room (vars_of c.args.w.now) (olds_of c.args.w.now) c.args.m r) (c.if-not-roomy.false) c.roomy.ensures) in made_owner L T X C from n (cells_of c.args.w.now) (vars_of c.args.w.now) (olds_of c.args.w.now) c.args.i c.args.m c.var_get-x.result c.old_get-c.result h c.var_get-x.ensures.is c.old_get-c.ensures.is c.if-c-ne0.false (sym c.local_get.ensures.is ∙ c.if-local_get-ne0.false) c.find-r.result.0 c.cell_get-d.result c.find-r.ensures c.cell_get-d.ensures.is c.if-d-eq2.false c.if-d-eq3.false (λ z. c.if-local_get-eq0.false (c.local_get-2.ensures.is ∙ z)) _ _ _ (3 + c.cell_get-d.result / 4 % 64 * 4 + c.var_get-x.result * 256) (record { inside = c.find-r.ensures.inside; var = omega (arith, c.find-r.ensures.inside, c.requires.1.up.size); cell = omega (arith, c.var_get-x.ensures.small); room_x = omega (arith, w.0); room_c = omega (arith, w.1) }) c.save.ensures.saved (omega arith) (omega arith) (omega arith), c.save.ensures.rest)
