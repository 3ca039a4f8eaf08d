-- The laws are those of `solve_tells`, at the tables of the slice. Assumes nothing.
use mathlib.Core.Path.{sym, ap, ◌∙◌, subst}
use mathlib.Core.Bool.{Bool, true, false}
use Prim.Native.Nat.{◌+◌}
use native.Mathlib.Omega.{arith}
use Rattle.mem_numbers.specs.Decides.{decided_yes, decided_no}
use Rattle.mem_parts.specs.Parts.{outside_then}
use Rattle.work_tables.specs.Tables.{cells_of, vars_of, olds_of, log_of, laid_after, same_moved, peek_moved}
use Rattle.solve_fields.specs.Read.{var_of, is_var}
use Rattle.solve_tells.specs.Steps.{Room}
use Rattle.solve_tells.proofs.Trails.{step_none, filled_then}
use Rattle.solve_tells.proofs.Meeting.{meets_first, meets_next, meets_done, clash_label, clash_left, clash_right, can_join, var_inside, label_is}
use Rattle.work_meets.proofs.meet.Goals as goal

pub overflow_add-p : goal.overflow_add-p
overflow_add-p c = omega (arith, c.requires.2.lowp)

pub peek-requires : goal.peek-requires
peek-requires c = (c.requires.0, c.requires.1)

pub overflow_add-q : goal.overflow_add-q
overflow_add-q c = omega (arith, c.requires.2.lowq)

pub peek-requires-2 : goal.peek-requires-2
peek-requires-2 c = (c.requires.0, c.requires.1)

pub returns-then-not-same_label : goal.returns-then-not-same_label
returns-then-not-same_label c = ((step_none (log_of c.args.used c.args.w.now) (cells_of c.args.w.now) (vars_of c.args.w.now) (olds_of c.args.w.now) c.args.n c.requires.2.sound, clash_label (log_of c.args.used c.args.w.now) (cells_of c.args.w.now) c.args.p c.args.q c.num_of-f.result c.num_of-g.result (label_is (log_of c.args.used c.args.w.now) c.args.p c.num_of-f.result c.peek.result c.num_of-f.ensures c.peek.ensures.is) (label_is (log_of c.args.used c.args.w.now) c.args.q c.num_of-g.result c.peek-2.result c.num_of-g.ensures c.peek-2.ensures.is) (decided_no c.same_label.result (c.if-not-same_label.true) c.same_label.ensures)), same_moved)

pub overflow_add-pa : goal.overflow_add-pa
overflow_add-pa c = omega (arith, c.requires.2.lowp)

pub overflow_add-qa : goal.overflow_add-qa
overflow_add-qa c = omega (arith, c.requires.2.lowq)

pub loop-v-init : goal.loop-v-init
loop-v-init c = (c.requires.0, same_moved, meets_first (log_of c.args.used c.args.w.now) (cells_of c.args.w.now) (vars_of c.args.w.now) (olds_of c.args.w.now) c.args.n c.args.p c.args.q c.requires.2 (sym (label_is (log_of c.args.used c.args.w.now) c.args.p c.num_of-f.result c.peek.result c.num_of-f.ensures c.peek.ensures.is) ∙ decided_yes c.same_label.result (c.if-not-same_label.false) c.same_label.ensures ∙ (label_is (log_of c.args.used c.args.w.now) c.args.q c.num_of-g.result c.peek-2.result c.num_of-g.ensures c.peek-2.ensures.is)))

pub overflow_add-pa-in-loop-v : goal.overflow_add-pa-in-loop-v
overflow_add-pa-in-loop-v c = omega (arith, c.requires.2.lowp, c.loop-v.invariant.2.low, c.requires.2.sound.long)

pub peek-v-requires : goal.peek-v-requires
peek-v-requires c = (c.loop-v.invariant.0, c.requires.1)

pub overflow_add-qa-in-loop-v : goal.overflow_add-qa-in-loop-v
overflow_add-qa-in-loop-v c = omega (arith, c.requires.2.lowq, c.loop-v.invariant.2.low, c.requires.2.sound.long)

pub peek-u-requires : goal.peek-u-requires
peek-u-requires c = (c.loop-v.invariant.0, c.requires.1)

pub returns-then-is_var : goal.returns-then-is_var
returns-then-is_var c = ((c.loop-v.invariant.2.step, clash_right (log_of c.args.used c.args.w.now) (cells_of c.args.w.now) (vars_of c.args.w.now) (olds_of c.args.w.now) c.args.n c.args.p c.args.q (cells_of c.loop-v.w) (vars_of c.loop-v.w) (olds_of c.loop-v.w) c.loop-v.k c.loop-v.i c.loop-v.invariant.2 (sym (ap is_var (peek_moved c.args.used c.loop-v.invariant.1 c.peek-v.ensures)) ∙ sym c.is_var.ensures ∙ c.if-not-is_var.true) (sym (ap is_var (peek_moved c.args.used c.loop-v.invariant.1 c.peek-u.ensures)) ∙ sym c.is_var-then-not-is_var.ensures ∙ c.if-is_var.true)), c.loop-v.invariant.1)

pub returns-then-not-is_var : goal.returns-then-not-is_var
returns-then-not-is_var c = (meets_done (log_of c.args.used c.args.w.now) (cells_of c.args.w.now) (vars_of c.args.w.now) (olds_of c.args.w.now) c.args.n c.args.p c.args.q (cells_of c.loop-v.w) (vars_of c.loop-v.w) (olds_of c.loop-v.w) c.loop-v.k c.loop-v.i c.loop-v.invariant.2 (sym (ap is_var (peek_moved c.args.used c.loop-v.invariant.1 c.peek-v.ensures)) ∙ sym c.is_var.ensures ∙ c.if-not-is_var.true) (sym (ap is_var (peek_moved c.args.used c.loop-v.invariant.1 c.peek-u.ensures)) ∙ sym c.is_var-then-not-is_var.ensures ∙ c.if-is_var.false), c.loop-v.invariant.1)

pub returns-then-not-is_var-2 : goal.returns-then-not-is_var-2
returns-then-not-is_var-2 c = ((c.loop-v.invariant.2.step, clash_left (log_of c.args.used c.args.w.now) (cells_of c.args.w.now) (vars_of c.args.w.now) (olds_of c.args.w.now) c.args.n c.args.p c.args.q (cells_of c.loop-v.w) (vars_of c.loop-v.w) (olds_of c.loop-v.w) c.loop-v.k c.loop-v.i c.loop-v.invariant.2 (sym (ap is_var (peek_moved c.args.used c.loop-v.invariant.1 c.peek-v.ensures)) ∙ sym c.is_var.ensures ∙ c.if-not-is_var.false) (sym (ap is_var (peek_moved c.args.used c.loop-v.invariant.1 c.peek-u.ensures)) ∙ sym c.is_var-in-loop-v.ensures ∙ c.if-not-is_var-2.true)), c.loop-v.invariant.1)

pub roomy-requires : goal.roomy-requires
roomy-requires c = (c.loop-v.invariant.0, omega (arith, c.loop-v.invariant.2.step.fit_x, c.loop-v.invariant.2.step.grown.size_x))

pub returns-then-not-roomy : goal.returns-then-not-roomy
returns-then-not-roomy c = ((c.loop-v.invariant.2.step, filled_then (vars_of c.args.w.now) (olds_of c.args.w.now) (vars_of c.loop-v.w) (olds_of c.loop-v.w) c.loop-v.k c.loop-v.invariant.2.step.grown.size_x c.loop-v.invariant.2.step.grown.size_c (subst (λ (r : Bool). Room (vars_of c.loop-v.w) (olds_of c.loop-v.w) c.loop-v.k r) (c.if-not-roomy.true) c.roomy.ensures)), c.loop-v.invariant.1)

pub join-k-requires : goal.join-k-requires
join-k-requires c = let h = (subst (λ (r : Bool). Room (vars_of c.loop-v.w) (olds_of c.loop-v.w) c.loop-v.k r) (c.if-not-roomy.false) c.roomy.ensures) in (c.loop-v.invariant.0, can_join (log_of c.args.used c.args.w.now) (cells_of c.args.w.now) (vars_of c.args.w.now) (olds_of c.args.w.now) c.args.n c.args.p c.args.q (cells_of c.loop-v.w) (vars_of c.loop-v.w) (olds_of c.loop-v.w) c.loop-v.k c.loop-v.i _ _ (c.args.p + 3 + c.loop-v.i) (c.args.q + 3 + c.loop-v.i) c.requires.2 c.loop-v.invariant.2 (c.var_of-x.ensures ∙ ap var_of (peek_moved c.args.used c.loop-v.invariant.1 c.peek-v.ensures)) (c.var_of-y.ensures ∙ ap var_of (peek_moved c.args.used c.loop-v.invariant.1 c.peek-u.ensures)) h.0 h.1)

pub overflow_add-i : goal.overflow_add-i
overflow_add-i c = omega (arith, c.loop-v.invariant.2.low, c.requires.2.sound.long)

pub loop-v-smaller : goal.loop-v-smaller
loop-v-smaller c = let v = var_inside (log_of c.args.used c.args.w.now) (c.args.p + 3 + c.loop-v.i) (sym (ap is_var (peek_moved c.args.used c.loop-v.invariant.1 c.peek-v.ensures)) ∙ sym c.is_var.ensures ∙ c.if-not-is_var.false) in omega (arith, c.loop-v.invariant.2.low)

pub loop-v-preserved : goal.loop-v-preserved
loop-v-preserved c = let h = (subst (λ (r : Bool). Room (vars_of c.loop-v.w) (olds_of c.loop-v.w) c.loop-v.k r) (c.if-not-roomy.false) c.roomy.ensures) in (laid_after c.loop-v.invariant.0 c.join-k.ensures.rest, outside_then c.loop-v.invariant.1 c.join-k.ensures.rest, meets_next (log_of c.args.used c.args.w.now) (cells_of c.args.w.now) (vars_of c.args.w.now) (olds_of c.args.w.now) c.args.n c.args.p c.args.q (cells_of c.loop-v.w) (vars_of c.loop-v.w) (olds_of c.loop-v.w) c.loop-v.k c.loop-v.i _ _ _ _ _ _ c.loop-v.invariant.2 (sym (ap is_var (peek_moved c.args.used c.loop-v.invariant.1 c.peek-v.ensures)) ∙ sym c.is_var.ensures ∙ c.if-not-is_var.false) (sym (ap is_var (peek_moved c.args.used c.loop-v.invariant.1 c.peek-u.ensures)) ∙ sym c.is_var-in-loop-v.ensures ∙ c.if-not-is_var-2.false) (c.var_of-x.ensures ∙ ap var_of (peek_moved c.args.used c.loop-v.invariant.1 c.peek-v.ensures)) (c.var_of-y.ensures ∙ ap var_of (peek_moved c.args.used c.loop-v.invariant.1 c.peek-u.ensures)) h.0 h.1 c.join-k.ensures.joined)
