-- The laws are those of `solve_tells`, at the tables of the slice. Assumes nothing.
use mathlib.Core.Path.{◌≡◌, subst}
use Prim.Native.Nat.{ℕ, ◌+◌}
use native.Mathlib.Omega.{arith}
use Rattle.solve_tells.specs.declared.Told.{Told}
use Rattle.work_tells.specs.Positions.{Ahead, before_none, before_then}
use mathlib.Core.List.{List}
use Rattle.mem_words.specs.declared.Word.{Word}
use Rattle.mem_parts.specs.Parts.{outside_then}
use Rattle.work_tables.specs.Tables.{cells_of, vars_of, olds_of, pos_of, log_of, laid_after, same_noted, noted_at, noted_to}
use Rattle.solve_tells.specs.Tells.{range_of, apps_in, apps_at, one_at, Done, CanOne, Telling}
use Rattle.solve_tells.proofs.Telling.{tell_first, tell_all, tell_clash, tell_full}
use Rattle.work_ranges.proofs.tell.Goals as goal

pub loop-i-init : goal.loop-i-init
loop-i-init c = (c.requires.0, same_noted, (omega arith, c.requires.2.le), tell_first (log_of c.args.used c.args.w.now) (pos_of c.args.w.now) (cells_of c.args.w.now) (vars_of c.args.w.now) (olds_of c.args.w.now) c.args.n c.args.a c.args.from c.requires.2.state, before_none c.args.a c.args.from (pos_of c.args.w.now))

pub tell_one-r-requires : goal.tell_one-r-requires
tell_one-r-requires c = (c.loop-i.invariant.0, c.requires.1, noted_to c.args.used (λ (W : List Word). CanOne W (pos_of c.loop-i.w) (cells_of c.loop-i.w) (vars_of c.loop-i.w) (olds_of c.loop-i.w) c.loop-i.m c.loop-i.k c.loop-i.i) c.loop-i.invariant.1 (record { state = c.loop-i.invariant.3.state; end = omega (arith, c.requires.2.end) }))

pub loop-i-preserved : goal.loop-i-preserved
loop-i-preserved c = (laid_after c.loop-i.invariant.0 c.tell_one-r.ensures.1, outside_then c.loop-i.invariant.1 c.tell_one-r.ensures.1, (omega (arith, c.loop-i.invariant.2.0), omega arith), tell_all (log_of c.args.used c.args.w.now) (pos_of c.args.w.now) (cells_of c.args.w.now) (vars_of c.args.w.now) (olds_of c.args.w.now) c.args.n c.args.a c.args.from c.args.to c.loop-i.i (pos_of c.loop-i.w) (cells_of c.loop-i.w) (vars_of c.loop-i.w) (olds_of c.loop-i.w) c.loop-i.m c.loop-i.k c.loop-i.invariant.3 c.loop-i.invariant.2.0 (omega arith) c.requires.2.end _ _ _ _ _ _ c.tell_one-r.result (noted_at c.args.used (λ (W : List Word). Telling W (pos_of c.loop-i.w) (cells_of c.loop-i.w) (vars_of c.loop-i.w) (olds_of c.loop-i.w) c.loop-i.m c.loop-i.k (apps_at W c.loop-i.i) (one_at W c.loop-i.i) (pos_of c.tell_one-r.new.w) (cells_of c.tell_one-r.new.w) (vars_of c.tell_one-r.new.w) (olds_of c.tell_one-r.new.w) c.tell_one-r.result) c.loop-i.invariant.1 c.tell_one-r.ensures.0) c.in-All.is, before_then (pos_of c.loop-i.w) (pos_of c.tell_one-r.new.w) c.args.a c.loop-i.k _ c.loop-i.i c.loop-i.invariant.4 (subst (λ (o : Told). Telling (log_of c.args.used c.args.w.now) (pos_of c.loop-i.w) (cells_of c.loop-i.w) (vars_of c.loop-i.w) (olds_of c.loop-i.w) c.loop-i.m c.loop-i.k (apps_at (log_of c.args.used c.args.w.now) c.loop-i.i) (one_at (log_of c.args.used c.args.w.now) c.loop-i.i) (pos_of c.tell_one-r.new.w) (cells_of c.tell_one-r.new.w) (vars_of c.tell_one-r.new.w) (olds_of c.tell_one-r.new.w) o) c.in-All.is (noted_at c.args.used (λ (W : List Word). Telling W (pos_of c.loop-i.w) (cells_of c.loop-i.w) (vars_of c.loop-i.w) (olds_of c.loop-i.w) c.loop-i.m c.loop-i.k (apps_at W c.loop-i.i) (one_at W c.loop-i.i) (pos_of c.tell_one-r.new.w) (cells_of c.tell_one-r.new.w) (vars_of c.tell_one-r.new.w) (olds_of c.tell_one-r.new.w) c.tell_one-r.result) c.loop-i.invariant.1 c.tell_one-r.ensures.0)).left.old_p (subst (λ (o : Told). Ahead c.loop-i.k (c.loop-i.i + 1) (pos_of c.tell_one-r.new.w) o) c.in-All.is c.tell_one-r.ensures.2))

pub returns-in-Failed : goal.returns-in-Failed
returns-in-Failed c = (tell_clash (log_of c.args.used c.args.w.now) (pos_of c.args.w.now) (cells_of c.args.w.now) (vars_of c.args.w.now) (olds_of c.args.w.now) c.args.n c.args.a c.args.from c.args.to c.loop-i.i (pos_of c.loop-i.w) (cells_of c.loop-i.w) (vars_of c.loop-i.w) (olds_of c.loop-i.w) c.loop-i.m c.loop-i.k c.loop-i.invariant.3 c.loop-i.invariant.2.0 (omega arith) c.requires.2.end _ _ _ _ _ _ c.tell_one-r.result (noted_at c.args.used (λ (W : List Word). Telling W (pos_of c.loop-i.w) (cells_of c.loop-i.w) (vars_of c.loop-i.w) (olds_of c.loop-i.w) c.loop-i.m c.loop-i.k (apps_at W c.loop-i.i) (one_at W c.loop-i.i) (pos_of c.tell_one-r.new.w) (cells_of c.tell_one-r.new.w) (vars_of c.tell_one-r.new.w) (olds_of c.tell_one-r.new.w) c.tell_one-r.result) c.loop-i.invariant.1 c.tell_one-r.ensures.0) c.in-Failed.is, outside_then c.loop-i.invariant.1 c.tell_one-r.ensures.1, (λ j h g. let b = before_then (pos_of c.loop-i.w) (pos_of c.tell_one-r.new.w) c.args.a c.loop-i.k _ c.loop-i.i c.loop-i.invariant.4 (subst (λ (o : Told). Telling (log_of c.args.used c.args.w.now) (pos_of c.loop-i.w) (cells_of c.loop-i.w) (vars_of c.loop-i.w) (olds_of c.loop-i.w) c.loop-i.m c.loop-i.k (apps_at (log_of c.args.used c.args.w.now) c.loop-i.i) (one_at (log_of c.args.used c.args.w.now) c.loop-i.i) (pos_of c.tell_one-r.new.w) (cells_of c.tell_one-r.new.w) (vars_of c.tell_one-r.new.w) (olds_of c.tell_one-r.new.w) o) c.in-Failed.is (noted_at c.args.used (λ (W : List Word). Telling W (pos_of c.loop-i.w) (cells_of c.loop-i.w) (vars_of c.loop-i.w) (olds_of c.loop-i.w) c.loop-i.m c.loop-i.k (apps_at W c.loop-i.i) (one_at W c.loop-i.i) (pos_of c.tell_one-r.new.w) (cells_of c.tell_one-r.new.w) (vars_of c.tell_one-r.new.w) (olds_of c.tell_one-r.new.w) c.tell_one-r.result) c.loop-i.invariant.1 c.tell_one-r.ensures.0)).left.old_p (subst (λ (o : Told). Ahead c.loop-i.k (c.loop-i.i + 1) (pos_of c.tell_one-r.new.w) o) c.in-Failed.is c.tell_one-r.ensures.2) j h g in omega arith))

pub returns-in-NoRoom : goal.returns-in-NoRoom
returns-in-NoRoom c = (tell_full (log_of c.args.used c.args.w.now) (pos_of c.args.w.now) (cells_of c.args.w.now) (vars_of c.args.w.now) (olds_of c.args.w.now) c.args.n c.args.a c.args.from c.args.to c.loop-i.i (pos_of c.loop-i.w) (cells_of c.loop-i.w) (vars_of c.loop-i.w) (olds_of c.loop-i.w) c.loop-i.m c.loop-i.k c.loop-i.invariant.3 c.loop-i.invariant.2.0 (omega arith) c.requires.2.end _ _ _ _ _ _ c.tell_one-r.result (noted_at c.args.used (λ (W : List Word). Telling W (pos_of c.loop-i.w) (cells_of c.loop-i.w) (vars_of c.loop-i.w) (olds_of c.loop-i.w) c.loop-i.m c.loop-i.k (apps_at W c.loop-i.i) (one_at W c.loop-i.i) (pos_of c.tell_one-r.new.w) (cells_of c.tell_one-r.new.w) (vars_of c.tell_one-r.new.w) (olds_of c.tell_one-r.new.w) c.tell_one-r.result) c.loop-i.invariant.1 c.tell_one-r.ensures.0) c.in-NoRoom.is, outside_then c.loop-i.invariant.1 c.tell_one-r.ensures.1, (λ j h g. let b = before_then (pos_of c.loop-i.w) (pos_of c.tell_one-r.new.w) c.args.a c.loop-i.k _ c.loop-i.i c.loop-i.invariant.4 (subst (λ (o : Told). Telling (log_of c.args.used c.args.w.now) (pos_of c.loop-i.w) (cells_of c.loop-i.w) (vars_of c.loop-i.w) (olds_of c.loop-i.w) c.loop-i.m c.loop-i.k (apps_at (log_of c.args.used c.args.w.now) c.loop-i.i) (one_at (log_of c.args.used c.args.w.now) c.loop-i.i) (pos_of c.tell_one-r.new.w) (cells_of c.tell_one-r.new.w) (vars_of c.tell_one-r.new.w) (olds_of c.tell_one-r.new.w) o) c.in-NoRoom.is (noted_at c.args.used (λ (W : List Word). Telling W (pos_of c.loop-i.w) (cells_of c.loop-i.w) (vars_of c.loop-i.w) (olds_of c.loop-i.w) c.loop-i.m c.loop-i.k (apps_at W c.loop-i.i) (one_at W c.loop-i.i) (pos_of c.tell_one-r.new.w) (cells_of c.tell_one-r.new.w) (vars_of c.tell_one-r.new.w) (olds_of c.tell_one-r.new.w) c.tell_one-r.result) c.loop-i.invariant.1 c.tell_one-r.ensures.0)).left.old_p (subst (λ (o : Told). Ahead c.loop-i.k (c.loop-i.i + 1) (pos_of c.tell_one-r.new.w) o) c.in-NoRoom.is c.tell_one-r.ensures.2) j h g in omega arith))

pub returns : goal.returns
returns c = let e : c.loop-i.i ≡ c.args.to = omega (arith, c.loop-i.invariant.2.1) in (subst (λ (j : ℕ). Done (log_of c.args.used c.args.w.now) (pos_of c.args.w.now) (cells_of c.args.w.now) (vars_of c.args.w.now) (olds_of c.args.w.now) c.args.n c.args.a (apps_in (log_of c.args.used c.args.w.now) c.args.from j) (range_of (log_of c.args.used c.args.w.now) c.args.from j) (pos_of c.loop-i.w) (cells_of c.loop-i.w) (vars_of c.loop-i.w) (olds_of c.loop-i.w) c.loop-i.m c.loop-i.k) e c.loop-i.invariant.3, c.loop-i.invariant.1, (λ j h g. let b = c.loop-i.invariant.4 j h g in omega arith))
