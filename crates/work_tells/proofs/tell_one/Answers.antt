-- The laws are those of `solve_tells`, at the tables of the slice. Assumes nothing.
use mathlib.Core.Path.{refl, sym, ap, ◌∙◌, subst}
use Prim.Native.Nat.{ℕ, ◌+◌}
use native.Mathlib.Omega.{arith}
use mathlib.Core.List.{List}
use Rattle.mem_words.specs.declared.Word.{Word}
use Rattle.mem_parts.specs.Parts.{outside_then}
use Rattle.work_tables.specs.Tables.{cells_of, vars_of, olds_of, pos_of, log_of, laid_after, same_noted, moved_noted, at_pos, length_pos}
use Rattle.constraint.specs.Tree.{Label}
use Rattle.constraint.specs.Constraint.{Asg}
use Rattle.constraint.proofs.FormSteps.{Holds}
use Rattle.solve_fields.specs.Read.{var_of, tab_of}
use Rattle.solve_tells.specs.Takes.{CanApply, Taking}
use Rattle.work_tables.specs.Writes.{peek_put, put_at, put_to}
use Rattle.work_tells.specs.Positions.{before_none, before_put, ahead_by}
use Rattle.solve_tells.proofs.Reach.{var_in}
use Rattle.solve_begins.specs.Begins.{begins_of}
use Rattle.solve_begins.specs.Number.{number}
use Rattle.solve_tells.specs.Tells.{one_at, apps_at, Telling, told_by}
use Rattle.mem_numbers.specs.Stored.{stored_same, stored_other}
use Rattle.solve_tells.proofs.Ranges.{one_eq, one_app}
use Rattle.solve_tells.proofs.Counts.{app_one}
use Rattle.solve_tells.proofs.Telling.{one_none, one_fail, one_told, no_apps, state_apps}
use Rattle.solve_classes.specs.Means.{Apps}
use Rattle.work_tells.proofs.tell_one.Goals as goal

pub overflow_add-j : goal.overflow_add-j
overflow_add-j c = omega (arith, c.requires.2.end, c.requires.2.state.sound.long)

pub peek-requires : goal.peek-requires
peek-requires c = (c.requires.0, c.requires.1)

pub returns-in-Nothing : goal.returns-in-Nothing
returns-in-Nothing c = (one_none (log_of c.args.used c.args.w.now) (pos_of c.args.w.now) (cells_of c.args.w.now) (vars_of c.args.w.now) (olds_of c.args.w.now) c.args.n c.args.a c.args.i 0 c.requires.2.state (sym (ap number c.in-Nothing.is) ∙ c.begins-b.ensures ∙ ap begins_of c.peek.ensures.is) (λ z. omega arith) (λ z. omega arith) (λ z. omega arith), same_noted, before_none c.args.a (c.args.i + 1) (pos_of c.args.w.now))

pub returns-in-Fail : goal.returns-in-Fail
returns-in-Fail c = (one_fail (log_of c.args.used c.args.w.now) (pos_of c.args.w.now) (cells_of c.args.w.now) (vars_of c.args.w.now) (olds_of c.args.w.now) c.args.n c.args.a c.args.i 1 c.requires.2.state (sym (ap number c.in-Fail.is) ∙ c.begins-b.ensures ∙ ap begins_of c.peek.ensures.is) refl, same_noted, before_none c.args.a (c.args.i + 1) (pos_of c.args.w.now))

pub peek-requires-in-Equation : goal.peek-requires-in-Equation
peek-requires-in-Equation c = (c.requires.0, c.requires.1)

pub overflow_add-j-in-Equation : goal.overflow_add-j-in-Equation
overflow_add-j-in-Equation c = omega (arith, c.requires.2.end, c.requires.2.state.sound.long)

pub peek-requires-in-Equation-2 : goal.peek-requires-in-Equation-2
peek-requires-in-Equation-2 c = (c.requires.0, c.requires.1)

pub equate-r-requires : goal.equate-r-requires
equate-r-requires c = (c.requires.0, c.requires.1, record { sound = c.requires.2.state.sound; apps = state_apps (log_of c.args.used c.args.w.now) (pos_of c.args.w.now) (cells_of c.args.w.now) (vars_of c.args.w.now) (olds_of c.args.w.now) c.args.n c.args.a c.requires.2.state; size = c.requires.2.state.size; inx = omega (arith, (c.var_of-x.ensures ∙ ap var_of c.peek-in-Equation.ensures.is), c.requires.2.state.sound.vars.low (c.args.i + 1)); iny = omega (arith, (c.var_of-y.ensures ∙ ap var_of c.peek-in-Equation-2.ensures.is), c.requires.2.state.sound.vars.low (c.args.i + 1 + 1)); usedx = var_in (log_of c.args.used c.args.w.now) (c.args.i + 1) c.var_of-x.result (c.var_of-x.ensures ∙ ap var_of c.peek-in-Equation.ensures.is); usedy = var_in (log_of c.args.used c.args.w.now) (c.args.i + 1 + 1) c.var_of-y.result (c.var_of-y.ensures ∙ ap var_of c.peek-in-Equation-2.ensures.is) })

pub returns-in-Equation : goal.returns-in-Equation
returns-in-Equation c = rw c.told_by.ensures (at_pos (λ (P : List ℕ). Telling (log_of c.args.used c.args.w.now) (pos_of c.args.w.now) (cells_of c.args.w.now) (vars_of c.args.w.now) (olds_of c.args.w.now) c.args.n c.args.a (apps_at (log_of c.args.used c.args.w.now) c.args.i) (one_at (log_of c.args.used c.args.w.now) c.args.i) P (cells_of c.equate-r.new.w) (vars_of c.equate-r.new.w) (olds_of c.equate-r.new.w) (told_by c.equate-r.result c.args.a)) c.equate-r.ensures.1 (one_told (log_of c.args.used c.args.w.now) (pos_of c.args.w.now) (cells_of c.args.w.now) (vars_of c.args.w.now) (olds_of c.args.w.now) c.args.n c.args.a c.requires.2.state (pos_of c.args.w.now) refl (λ i l. refl) (one_at (log_of c.args.used c.args.w.now) c.args.i) _ (one_eq (log_of c.args.used c.args.w.now) c.args.i c.var_of-x.result c.var_of-y.result 2 (sym (ap number c.in-Equation.is) ∙ c.begins-b.ensures ∙ ap begins_of c.peek.ensures.is) refl (c.var_of-x.ensures ∙ ap var_of c.peek-in-Equation.ensures.is) (c.var_of-y.ensures ∙ ap var_of c.peek-in-Equation-2.ensures.is)) 0 c.args.a (omega arith) (omega arith) c.requires.2.state.fit_p (apps_at (log_of c.args.used c.args.w.now) c.args.i) (omega arith) _ _ _ c.equate-r.result c.equate-r.ensures.0), moved_noted c.equate-r.ensures.1, ahead_by c.args.a (c.args.i + 1) c.args.a (pos_of c.equate-r.new.w) c.equate-r.result (before_none c.args.a (c.args.i + 1) (pos_of c.equate-r.new.w)))

pub returns-then-a-ge2048 : goal.returns-then-a-ge2048
returns-then-a-ge2048 c = (no_apps (log_of c.args.used c.args.w.now) (pos_of c.args.w.now) (cells_of c.args.w.now) (vars_of c.args.w.now) (olds_of c.args.w.now) c.args.n c.args.a c.args.i 3 c.requires.2.state (sym (ap number c.in-Application.is) ∙ c.begins-b.ensures ∙ ap begins_of c.peek.ensures.is) refl (omega (arith, length_pos c.requires.0)), same_noted, before_none c.args.a (c.args.i + 1) (pos_of c.args.w.now))

pub pos_put-requires : goal.pos_put-requires
pos_put-requires c = record { laid = c.requires.0; inside = omega (arith, length_pos c.requires.0); small = omega (arith, c.requires.2.end, c.requires.2.state.sound.long) }

pub peek-requires-in-Application : goal.peek-requires-in-Application
peek-requires-in-Application c = (laid_after c.requires.0 c.pos_put.ensures.rest, c.requires.1)

pub apply-v-requires : goal.apply-v-requires
apply-v-requires c = (laid_after c.requires.0 c.pos_put.ensures.rest, c.requires.1, put_to c.args.used (λ (W : List Word) (T X C : List ℕ). CanApply W (pos_of c.pos_put.new.w) T X C c.args.n c.var_of-z.result c.args.a) c.pos_put.ensures (record { sound = c.requires.2.state.sound; apps = subst (Apps (cells_of c.args.w.now)) (sym c.pos_put.ensures.pos.long) (state_apps (log_of c.args.used c.args.w.now) (pos_of c.args.w.now) (cells_of c.args.w.now) (vars_of c.args.w.now) (olds_of c.args.w.now) c.args.n c.args.a c.requires.2.state); size = omega (arith, c.pos_put.ensures.pos.long, c.requires.2.state.size); inx = omega (arith, (c.var_of-z.ensures ∙ ap var_of (peek_put c.args.used c.pos_put.ensures c.peek-in-Application.ensures)), c.requires.2.state.sound.vars.low (c.args.i + 1)); usedx = var_in (log_of c.args.used c.args.w.now) (c.args.i + 1) c.var_of-z.result (c.var_of-z.ensures ∙ ap var_of (peek_put c.args.used c.pos_put.ensures c.peek-in-Application.ensures)); app = omega (arith, length_pos c.requires.0, c.pos_put.ensures.pos.long) }))

pub overflow_add-a : goal.overflow_add-a
overflow_add-a c = omega (arith, length_pos c.requires.0, c.requires.2.state.size)

pub returns-else-a-ge2048 : goal.returns-else-a-ge2048
returns-else-a-ge2048 c = rw c.told_by-in-Application.ensures (at_pos (λ (P : List ℕ). Telling (log_of c.args.used c.args.w.now) (pos_of c.args.w.now) (cells_of c.args.w.now) (vars_of c.args.w.now) (olds_of c.args.w.now) c.args.n c.args.a (apps_at (log_of c.args.used c.args.w.now) c.args.i) (one_at (log_of c.args.used c.args.w.now) c.args.i) P (cells_of c.apply-v.new.w) (vars_of c.apply-v.new.w) (olds_of c.apply-v.new.w) (told_by c.apply-v.result (c.args.a + 1))) c.apply-v.ensures.1 (one_told (log_of c.args.used c.args.w.now) (pos_of c.args.w.now) (cells_of c.args.w.now) (vars_of c.args.w.now) (olds_of c.args.w.now) c.args.n c.args.a c.requires.2.state (pos_of c.pos_put.new.w) c.pos_put.ensures.pos.long (λ i l. stored_other i 0 c.pos_put.ensures.pos (λ e. omega arith)) (one_at (log_of c.args.used c.args.w.now) c.args.i) _ (one_app (log_of c.args.used c.args.w.now) (pos_of c.pos_put.new.w) c.args.i c.args.a c.var_of-z.result 3 (sym (ap number c.in-Application.is) ∙ c.begins-b.ensures ∙ ap begins_of c.peek.ensures.is) refl (c.var_of-z.ensures ∙ ap var_of (peek_put c.args.used c.pos_put.ensures c.peek-in-Application.ensures)) (stored_same 0 c.pos_put.ensures.pos (omega (arith, length_pos c.requires.0)))) (c.args.a + 1) (c.args.a + 1) (omega arith) (omega arith) (omega (arith, length_pos c.requires.0, c.pos_put.ensures.pos.long)) (apps_at (log_of c.args.used c.args.w.now) c.args.i) (omega (arith, app_one (log_of c.args.used c.args.w.now) c.args.i 3 (sym (ap number c.in-Application.is) ∙ c.begins-b.ensures ∙ ap begins_of c.peek.ensures.is) refl)) _ _ _ c.apply-v.result (put_at c.args.used (λ (W : List Word) (T X C : List ℕ). Taking W (pos_of c.pos_put.new.w) T X C c.args.n (c.args.a + 1) (λ (lab : ℕ → Label) (ρ : Asg). Holds ρ c.var_of-z.result (tab_of lab W (pos_of c.pos_put.new.w) c.args.a)) (cells_of c.apply-v.new.w) (vars_of c.apply-v.new.w) (olds_of c.apply-v.new.w) c.apply-v.result) c.pos_put.ensures c.apply-v.ensures.0)), outside_then c.pos_put.ensures.rest (moved_noted c.apply-v.ensures.1), ahead_by c.args.a (c.args.i + 1) (c.args.a + 1) (pos_of c.apply-v.new.w) c.apply-v.result (before_put c.pos_put.ensures c.apply-v.ensures.1 (omega (arith, length_pos c.requires.0))))
