-- The invariant: the entries so far are done. Assumes nothing.
use mathlib.Core.Path.{ap, ◌∙◌}
use Prim.Native.Nat.{ℕ}
use native.Mathlib.Omega.{arith}
use lib.ListN.{length, get_or}
use mathlib.Core.List.{List}
use Rattle.mem_words.specs.declared.Word.{Word}
use Rattle.mem_parts.specs.Parts.{outside_then}
use Rattle.work_tables.specs.Tables.{cells_of, vars_of, olds_of, pos_of, log_of, marks_of, stack_of, dones_of, laid_after, same_searched, searched_at, searched_to, searched_var, length_var}
use Rattle.solve_tells.proofs.Trails.{vars_of_lem}
use Rattle.solve_explores.specs.Since.{CanVisit, Visiting}
use Rattle.solve_explores.proofs.Tracing.{traced_none, traced_more, traced_less, visited_of, visit_cyclic, since_true}
use Rattle.work_since.specs.Tests.{fitting_after}
use Rattle.work_since.proofs.trace.Goals as goal

pub loop-i-init : goal.loop-i-init
loop-i-init c = (c.requires.0, same_searched, c.requires.3, traced_none (cells_of c.args.w.now) (vars_of c.args.w.now) (marks_of c.args.w.now) c.args.from, omega arith, c.requires.2.le)

pub var_get-x-requires : goal.var_get-x-requires
var_get-x-requires c = record { laid = c.loop-i.invariant.0; inside = omega (arith, c.requires.2.fit_x, length_var c.requires.0) }

pub visit-requires : goal.visit-requires
visit-requires c = let e = c.var_get-x.ensures.is ∙ ap (λ (A : List ℕ). get_or A c.loop-i.i 0) (searched_var c.loop-i.invariant.1) in (c.loop-i.invariant.0, c.requires.1, searched_to c.args.used (λ (W : List Word) (P T : List ℕ). CanVisit W P T (marks_of c.loop-i.w) (stack_of c.loop-i.w) (dones_of c.loop-i.w) c.args.a c.loop-i.q c.var_get-x.result) c.loop-i.invariant.1 (record { fits = fitting_after c.requires.0 c.loop-i.invariant.1 c.requires.2.fits; search = c.loop-i.invariant.2; var = omega (arith, e, vars_of_lem (vars_of c.args.w.now) c.args.from c.args.n (length (cells_of c.args.w.now)) c.requires.2.vars c.loop-i.i c.loop-i.invariant.4 (omega arith)) }))

pub returns-in_default : goal.returns-in_default
returns-in_default c = (visit_cyclic (log_of c.args.used c.args.w.now) (pos_of c.args.w.now) (cells_of c.args.w.now) (marks_of c.loop-i.w) c.args.a c.var_get-x.result _ _ _ c.visit.result c.in_default.is (searched_at c.args.used (λ (W : List Word) (P T : List ℕ). Visiting W P T (marks_of c.loop-i.w) c.args.a c.var_get-x.result (marks_of c.visit.new.w) (stack_of c.visit.new.w) (dones_of c.visit.new.w) c.visit.result) c.loop-i.invariant.1 c.visit.ensures.0), outside_then c.loop-i.invariant.1 c.visit.ensures.1)

pub loop-i-preserved : goal.loop-i-preserved
loop-i-preserved c = let v = (visited_of (log_of c.args.used c.args.w.now) (pos_of c.args.w.now) (cells_of c.args.w.now) (marks_of c.loop-i.w) c.args.a c.var_get-x.result _ _ _ c.visit.result _ c.in-Some.is (searched_at c.args.used (λ (W : List Word) (P T : List ℕ). Visiting W P T (marks_of c.loop-i.w) c.args.a c.var_get-x.result (marks_of c.visit.new.w) (stack_of c.visit.new.w) (dones_of c.visit.new.w) c.visit.result) c.loop-i.invariant.1 c.visit.ensures.0)) in let e = c.var_get-x.ensures.is ∙ ap (λ (A : List ℕ). get_or A c.loop-i.i 0) (searched_var c.loop-i.invariant.1) in (laid_after c.loop-i.invariant.0 c.visit.ensures.1, outside_then c.loop-i.invariant.1 c.visit.ensures.1, v.search, traced_more (cells_of c.args.w.now) (vars_of c.args.w.now) (marks_of c.loop-i.w) _ c.args.from c.loop-i.i c.var_get-x.result e v.kept c.loop-i.invariant.3 v.met, omega (arith, c.loop-i.invariant.4), omega arith)

pub returns : goal.returns
returns c = (since_true (log_of c.args.used c.args.w.now) (pos_of c.args.w.now) (cells_of c.args.w.now) (vars_of c.args.w.now) (olds_of c.args.w.now) (marks_of c.loop-i.w) (stack_of c.loop-i.w) (dones_of c.loop-i.w) c.args.n c.args.a c.args.from c.loop-i.q c.requires.2.fits.look.up c.requires.2.fits.apps c.loop-i.invariant.2 (traced_less (cells_of c.args.w.now) (vars_of c.args.w.now) (marks_of c.loop-i.w) c.args.from c.loop-i.i c.args.n (omega arith) c.loop-i.invariant.3), c.loop-i.invariant.1)
