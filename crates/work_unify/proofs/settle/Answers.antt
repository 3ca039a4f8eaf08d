-- The laws are those of `solve_tells`, at the tables of the slice. Assumes nothing.
use Rattle.std.proofs.lemmas.Result.{err_from_is_err_and}
use Rattle.solve_tells.specs.Steps.{CanHold, Holding}
use Prim.Native.Nat.{ℕ, ◌/◌}
use native.Mathlib.Omega.{arith}
use mathlib.Core.List.{List}
use Rattle.mem_words.specs.declared.Word.{Word}
use Rattle.mem_parts.specs.Parts.{outside_then}
use Rattle.work_tables.specs.Tables.{cells_of, vars_of, olds_of, pos_of, log_of, laid_after, same_moved, moved_at, moved_to, length_var, length_old}
use Rattle.solve_tells.proofs.Settling.{settles_first, settles_skip, can_hold, settles_done, went_on, went_stop}
use Rattle.work_unify.proofs.settle.Goals as goal

pub loop-i-init : goal.loop-i-init
loop-i-init c = (c.requires.0, same_moved, settles_first (log_of c.args.used c.args.w.now) (pos_of c.args.w.now) (cells_of c.args.w.now) (vars_of c.args.w.now) (olds_of c.args.w.now) c.args.from c.args.n c.requires.2)

pub var_get-x-requires : goal.var_get-x-requires
var_get-x-requires c = record { laid = c.loop-i.invariant.0; inside = omega (arith, c.loop-i.invariant.2.step.fit_x, c.loop-i.invariant.2.step.grown.size_x, length_var c.requires.0) }

pub old_get-c-requires : goal.old_get-c-requires
old_get-c-requires c = record { laid = c.loop-i.invariant.0; inside = omega (arith, c.loop-i.invariant.2.step.fit_c, c.loop-i.invariant.2.step.grown.size_c, length_old c.requires.0) }

pub overflow_add-i : goal.overflow_add-i
overflow_add-i c = omega (arith, c.loop-i.invariant.2.step.fit_x, length_var c.requires.0)

pub hold-requires : goal.hold-requires
hold-requires c = (c.loop-i.invariant.0, c.requires.1, moved_to c.args.used (λ (W : List Word) (P : List ℕ). CanHold W P (cells_of c.loop-i.w) (vars_of c.loop-i.w) (olds_of c.loop-i.w) c.loop-i.m c.var_get-x.result (c.old_get-c.result / 256)) c.loop-i.invariant.1 (can_hold (log_of c.args.used c.args.w.now) (pos_of c.args.w.now) (cells_of c.args.w.now) (vars_of c.args.w.now) (olds_of c.args.w.now) c.args.from c.args.n (cells_of c.loop-i.w) (vars_of c.loop-i.w) (olds_of c.loop-i.w) c.loop-i.i c.loop-i.m c.var_get-x.result c.old_get-c.result c.loop-i.invariant.2 (omega arith) c.var_get-x.ensures.is c.old_get-c.ensures.is c.requires.2 (omega arith)))

pub loop-i-smaller-then-c-eq2 : goal.loop-i-smaller-then-c-eq2
loop-i-smaller-then-c-eq2 c = omega (arith, c.loop-i.invariant.2.step.fit_x, c.loop-i.invariant.2.step.grown.size_x)

pub loop-i-preserved-then-c-eq2 : goal.loop-i-preserved-then-c-eq2
loop-i-preserved-then-c-eq2 c = (laid_after c.loop-i.invariant.0 c.hold.ensures.1, outside_then c.loop-i.invariant.1 c.hold.ensures.1, went_on (log_of c.args.used c.args.w.now) (pos_of c.args.w.now) (cells_of c.args.w.now) (vars_of c.args.w.now) (olds_of c.args.w.now) c.args.from c.args.n (cells_of c.loop-i.w) (vars_of c.loop-i.w) (olds_of c.loop-i.w) c.loop-i.i c.loop-i.m c.var_get-x.result c.old_get-c.result c.loop-i.invariant.2 (omega arith) c.var_get-x.ensures.is c.old_get-c.ensures.is (omega arith) _ _ _ _ c.hold.result (moved_at c.args.used (λ (W : List Word) (P : List ℕ). Holding W P (cells_of c.loop-i.w) (vars_of c.loop-i.w) (olds_of c.loop-i.w) c.loop-i.m c.var_get-x.result (c.old_get-c.result / 256) (cells_of c.hold.new.w) (vars_of c.hold.new.w) (olds_of c.hold.new.w) c.hold.result) c.loop-i.invariant.1 c.hold.ensures.0) c.in_ok-m.was)

pub returns-in_err-m : goal.returns-in_err-m
returns-in_err-m c = let p = err_from_is_err_and c.from_residual.result c.from_residual.ensures.1 in rw (p.1, p.2) (went_stop (log_of c.args.used c.args.w.now) (pos_of c.args.w.now) (cells_of c.args.w.now) (vars_of c.args.w.now) (olds_of c.args.w.now) c.args.from c.args.n (cells_of c.loop-i.w) (vars_of c.loop-i.w) (olds_of c.loop-i.w) c.loop-i.i c.loop-i.m c.var_get-x.result c.old_get-c.result c.loop-i.invariant.2 (omega arith) c.var_get-x.ensures.is c.old_get-c.ensures.is (omega arith) _ _ _ c.hold.result (moved_at c.args.used (λ (W : List Word) (P : List ℕ). Holding W P (cells_of c.loop-i.w) (vars_of c.loop-i.w) (olds_of c.loop-i.w) c.loop-i.m c.var_get-x.result (c.old_get-c.result / 256) (cells_of c.hold.new.w) (vars_of c.hold.new.w) (olds_of c.hold.new.w) c.hold.result) c.loop-i.invariant.1 c.hold.ensures.0) c.in_err-m.field-0.0 c.in_err-m.was, outside_then c.loop-i.invariant.1 c.hold.ensures.1)

pub loop-i-smaller : goal.loop-i-smaller
loop-i-smaller c = omega (arith, c.loop-i.invariant.2.step.fit_x, c.loop-i.invariant.2.step.grown.size_x)

pub loop-i-preserved : goal.loop-i-preserved
loop-i-preserved c = (c.loop-i.invariant.0, c.loop-i.invariant.1, settles_skip (log_of c.args.used c.args.w.now) (pos_of c.args.w.now) (cells_of c.args.w.now) (vars_of c.args.w.now) (olds_of c.args.w.now) c.args.from c.args.n (cells_of c.loop-i.w) (vars_of c.loop-i.w) (olds_of c.loop-i.w) c.loop-i.i c.loop-i.m c.var_get-x.result c.old_get-c.result c.loop-i.invariant.2 (omega arith) c.var_get-x.ensures.is c.old_get-c.ensures.is (omega arith))

pub returns : goal.returns
returns c = (settles_done (log_of c.args.used c.args.w.now) (pos_of c.args.w.now) (cells_of c.args.w.now) (vars_of c.args.w.now) (olds_of c.args.w.now) c.args.from c.args.n (cells_of c.loop-i.w) (vars_of c.loop-i.w) (olds_of c.loop-i.w) c.loop-i.i c.loop-i.m c.loop-i.invariant.2 (omega arith), c.loop-i.invariant.1)
