-- The laws are those of `solve_explores`, at the tables of the slice. Assumes nothing.
use mathlib.Core.Path.{sym, ◌∙◌}
use Prim.Native.Nat.{ℕ}
use native.Mathlib.Omega.{arith}
use mathlib.Core.List.{List}
use Rattle.mem_words.specs.declared.Word.{Word}
use Rattle.mem_parts.specs.Parts.{outside_then}
use Rattle.work_tables.specs.Tables.{cells_of, pos_of, log_of, marks_of, stack_of, dones_of, laid_after, same_searched, searched_at, searched_to, length_mark, length_stack, length_done}
use Rattle.solve_explores.specs.Search.{CanExplore, Exploring}
use Rattle.solve_explores.proofs.Finding.{no_cycle, marked_same, explored_of, cyclic_of, met_more}
use Rattle.work_cycles.proofs.sweep.Goals as goal
use Rattle.work_cycles.proofs.sweep.Goals.{then-mark_get-eq0+in-Some, else-mark_get-eq0}

pub loop-k-init : goal.loop-k-init
loop-k-init c = (c.requires.0, same_searched, c.requires.2.search, (λ i l. absurd (omega arith)), omega arith)

pub mark_get-requires : goal.mark_get-requires
mark_get-requires c = record { laid = c.loop-k.invariant.0; inside = omega (arith, c.requires.2.fits.fit_m, length_mark c.requires.0) }

pub explore-requires : goal.explore-requires
explore-requires c = (c.loop-k.invariant.0, c.requires.1, searched_to c.args.used (λ (W : List Word) (P T : List ℕ). CanExplore W P T (marks_of c.loop-k.w) (stack_of c.loop-k.w) (dones_of c.loop-k.w) c.args.a c.loop-k.q c.loop-k.k) c.loop-k.invariant.1 (record { fits = (record { look = c.requires.2.fits.look; apps = c.requires.2.fits.apps; few = c.requires.2.fits.few; fit_p = c.requires.2.fits.fit_p; fit_m = omega (arith, c.requires.2.fits.fit_m, length_mark c.loop-k.invariant.0, length_mark c.requires.0); fit_k = omega (arith, c.requires.2.fits.fit_k, length_stack c.loop-k.invariant.0, length_stack c.requires.0); fit_d = omega (arith, c.requires.2.fits.fit_d, length_done c.loop-k.invariant.0, length_done c.requires.0); long = c.requires.2.fits.long }); search = c.loop-k.invariant.2; app = omega arith; new = sym c.mark_get.ensures.is ∙ c.if-mark_get-eq0.true }))

pub returns-in_default : goal.returns-in_default
returns-in_default c = (cyclic_of (log_of c.args.used c.args.w.now) (pos_of c.args.w.now) (cells_of c.args.w.now) (marks_of c.loop-k.w) c.args.a c.loop-k.k _ _ _ c.explore.result c.in_default.is (searched_at c.args.used (λ (W : List Word) (P T : List ℕ). Exploring W P T (marks_of c.loop-k.w) c.args.a c.loop-k.k (marks_of c.explore.new.w) (stack_of c.explore.new.w) (dones_of c.explore.new.w) c.explore.result) c.loop-k.invariant.1 c.explore.ensures.0), outside_then c.loop-k.invariant.1 c.explore.ensures.1)

pub loop-k-preserved : goal.loop-k-preserved
loop-k-preserved c = elim c.if-mark_get-eq0.branch [
  | then-mark_get-eq0+in-Some w ↦ rw (w.w-is, w.q-is) (let x = (explored_of (log_of c.args.used c.args.w.now) (pos_of c.args.w.now) (cells_of c.args.w.now) (marks_of c.loop-k.w) c.args.a c.loop-k.k _ _ _ w.explore.result _ w.in-Some.is (searched_at c.args.used (λ (W : List Word) (P T : List ℕ). Exploring W P T (marks_of c.loop-k.w) c.args.a c.loop-k.k (marks_of w.explore.new.w) (stack_of w.explore.new.w) (dones_of w.explore.new.w) w.explore.result) c.loop-k.invariant.1 w.explore.ensures.0)) in (laid_after c.loop-k.invariant.0 w.explore.ensures.1, outside_then c.loop-k.invariant.1 w.explore.ensures.1, x.search, met_more (marks_of c.loop-k.w) _ c.loop-k.k x.kept c.loop-k.invariant.3 x.met, omega arith))
  | else-mark_get-eq0 w ↦ rw (w.w-is, w.q-is) (c.loop-k.invariant.0, c.loop-k.invariant.1, c.loop-k.invariant.2, met_more (marks_of c.loop-k.w) (marks_of c.loop-k.w) c.loop-k.k (marked_same (marks_of c.loop-k.w)) c.loop-k.invariant.3 (λ z. w.if-mark_get-eq0.false (c.mark_get.ensures.is ∙ z)), omega arith)
]

pub returns : goal.returns
returns c = (no_cycle (log_of c.args.used c.args.w.now) (pos_of c.args.w.now) (cells_of c.args.w.now) (marks_of c.loop-k.w) (stack_of c.loop-k.w) (dones_of c.loop-k.w) c.args.a c.loop-k.q c.requires.2.fits.apps c.loop-k.invariant.2 (λ i l. c.loop-k.invariant.3 i (omega arith)), c.loop-k.invariant.1)
