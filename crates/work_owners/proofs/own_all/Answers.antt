-- The laws are those of `solve_quiet`, at the tables of the slice. Assumes nothing.
use mathlib.Core.Path.{◌≡◌, sym, subst}
use Rattle.std.proofs.lemmas.Result.{err_from_is_err_and}
use Prim.Native.Nat.{ℕ, ◌+◌}
use native.Mathlib.Omega.{arith}
use mathlib.Core.List.{List}
use Rattle.mem_parts.specs.Parts.{outside_then}
use Rattle.work_tables.specs.Tables.{cells_of, vars_of, olds_of, locals_of, laid_after, same_moved, moved_locals, length_var}
use Rattle.solve_quiet.specs.Owners.{Owning, CanLookOne, CanOwn, Looking}
use Rattle.solve_quiet.proofs.Owning.{owning_first, can_look, can_own, went_apart, went_less}
use Rattle.work_owners.proofs.own_all.Goals as goal

pub loop-i-init : goal.loop-i-init
loop-i-init c = (c.requires.0, same_moved, (omega arith, c.requires.1.le), owning_first (locals_of c.args.w.now) (cells_of c.args.w.now) (vars_of c.args.w.now) (olds_of c.args.w.now) c.args.from c.args.n c.requires.1)

pub own_one-requires : goal.own_one-requires
own_one-requires c = (c.loop-i.invariant.0, subst (λ (L : List ℕ). CanLookOne L (cells_of c.loop-i.w) (vars_of c.loop-i.w) (olds_of c.loop-i.w) c.loop-i.i c.loop-i.m) (sym (moved_locals c.loop-i.invariant.1)) (can_look (locals_of c.args.w.now) (cells_of c.args.w.now) (vars_of c.args.w.now) (olds_of c.args.w.now) c.args.from c.args.n (cells_of c.loop-i.w) (vars_of c.loop-i.w) (olds_of c.loop-i.w) c.loop-i.i c.loop-i.m (can_own (locals_of c.args.w.now) (cells_of c.args.w.now) (vars_of c.args.w.now) (olds_of c.args.w.now) c.args.from c.args.n (cells_of c.loop-i.w) (vars_of c.loop-i.w) (olds_of c.loop-i.w) c.loop-i.i c.loop-i.m c.requires.1 c.loop-i.invariant.3 c.loop-i.invariant.2.0 (omega arith))))

pub loop-i-preserved : goal.loop-i-preserved
loop-i-preserved c = (laid_after c.loop-i.invariant.0 c.own_one.ensures.1, outside_then c.loop-i.invariant.1 c.own_one.ensures.1, (omega (arith, c.loop-i.invariant.2.0), omega arith), went_apart (locals_of c.args.w.now) (cells_of c.args.w.now) (vars_of c.args.w.now) (olds_of c.args.w.now) c.args.from c.args.n _ _ _ (c.loop-i.i + 1) _ c.own_one.result ((subst (λ (L : List ℕ). ((T X C : List ℕ) (from n : ℕ) → CanOwn L T X C from n (cells_of c.loop-i.w) (vars_of c.loop-i.w) (olds_of c.loop-i.w) c.loop-i.i c.loop-i.m → Looking L T X C from n (cells_of c.own_one.new.w) (vars_of c.own_one.new.w) (olds_of c.own_one.new.w) (c.loop-i.i + 1) c.own_one.result)) (moved_locals c.loop-i.invariant.1) c.own_one.ensures.0) (cells_of c.args.w.now) (vars_of c.args.w.now) (olds_of c.args.w.now) c.args.from c.args.n (can_own (locals_of c.args.w.now) (cells_of c.args.w.now) (vars_of c.args.w.now) (olds_of c.args.w.now) c.args.from c.args.n (cells_of c.loop-i.w) (vars_of c.loop-i.w) (olds_of c.loop-i.w) c.loop-i.i c.loop-i.m c.requires.1 c.loop-i.invariant.3 c.loop-i.invariant.2.0 (omega arith))) c.in_ok-m.was)

pub returns-in_err-m : goal.returns-in_err-m
returns-in_err-m c = let p = err_from_is_err_and c.from_residual.result c.from_residual.ensures.1 in rw (p.1, p.2) (went_less (locals_of c.args.w.now) (cells_of c.args.w.now) (vars_of c.args.w.now) (olds_of c.args.w.now) c.args.from c.args.n _ _ _ (c.loop-i.i + 1) c.loop-i.m c.own_one.result ((subst (λ (L : List ℕ). ((T X C : List ℕ) (from n : ℕ) → CanOwn L T X C from n (cells_of c.loop-i.w) (vars_of c.loop-i.w) (olds_of c.loop-i.w) c.loop-i.i c.loop-i.m → Looking L T X C from n (cells_of c.own_one.new.w) (vars_of c.own_one.new.w) (olds_of c.own_one.new.w) (c.loop-i.i + 1) c.own_one.result)) (moved_locals c.loop-i.invariant.1) c.own_one.ensures.0) (cells_of c.args.w.now) (vars_of c.args.w.now) (olds_of c.args.w.now) c.args.from c.args.n (can_own (locals_of c.args.w.now) (cells_of c.args.w.now) (vars_of c.args.w.now) (olds_of c.args.w.now) c.args.from c.args.n (cells_of c.loop-i.w) (vars_of c.loop-i.w) (olds_of c.loop-i.w) c.loop-i.i c.loop-i.m c.requires.1 c.loop-i.invariant.3 c.loop-i.invariant.2.0 (omega arith))) c.args.n c.in_err-m.field-0.0 c.in_err-m.was, outside_then c.loop-i.invariant.1 c.own_one.ensures.1)

pub returns : goal.returns
returns c = let e : c.loop-i.i ≡ c.args.n = omega (arith, c.loop-i.invariant.2.1) in (subst (λ (j : ℕ). Owning (locals_of c.args.w.now) (cells_of c.args.w.now) (vars_of c.args.w.now) (olds_of c.args.w.now) c.args.from c.args.n (cells_of c.loop-i.w) (vars_of c.loop-i.w) (olds_of c.loop-i.w) j c.loop-i.m) e c.loop-i.invariant.3, c.loop-i.invariant.1)
