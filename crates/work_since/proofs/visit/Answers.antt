-- The class is unbound, or met already, or searched from. Assumes nothing.
use mathlib.Core.Path.{refl, sym, ◌∙◌}
use native.Mathlib.Omega.{arith}
use Rattle.work_tables.specs.Tables.{cells_of, pos_of, log_of, marks_of, stack_of, dones_of, same_searched, length_mark}
use Rattle.solve_explores.proofs.Tracing.{visit_open, visit_met, visit_explored, visit_app}
use Rattle.work_since.proofs.visit.Goals as goal

pub find-r-requires : goal.find-r-requires
find-r-requires c = (c.requires.0, record { up = c.requires.2.fits.look.up; inside = c.requires.2.var })

pub cell_get-c-requires : goal.cell_get-c-requires
cell_get-c-requires c = record { laid = c.requires.0; inside = omega (arith, c.find-r.ensures.inside, c.requires.2.fits.look.up.size) }

pub returns-then-c-ne2 : goal.returns-then-c-ne2
returns-then-c-ne2 c = (visit_open (log_of c.args.used c.args.w.now) (pos_of c.args.w.now) (cells_of c.args.w.now) (marks_of c.args.w.now) (stack_of c.args.w.now) (dones_of c.args.w.now) c.args.a c.args.q c.args.x c.find-r.result.0 c.cell_get-c.result c.requires.2.search c.find-r.ensures c.cell_get-c.ensures.is c.if-c-ne2.true, same_searched)

pub mark_get-requires : goal.mark_get-requires
mark_get-requires c = record { laid = c.requires.0; inside = omega (arith, visit_app (log_of c.args.used c.args.w.now) (pos_of c.args.w.now) (cells_of c.args.w.now) (marks_of c.args.w.now) (stack_of c.args.w.now) (dones_of c.args.w.now) c.args.a c.args.q c.args.x c.find-r.result.0 c.cell_get-c.result c.requires.2.search c.find-r.ensures c.cell_get-c.ensures.is c.requires.2.fits.apps c.if-c-ne2.false, c.requires.2.fits.fit_m, length_mark c.requires.0) }

pub returns-then-mark_get-ne0 : goal.returns-then-mark_get-ne0
returns-then-mark_get-ne0 c = (visit_met (log_of c.args.used c.args.w.now) (pos_of c.args.w.now) (cells_of c.args.w.now) (marks_of c.args.w.now) (stack_of c.args.w.now) (dones_of c.args.w.now) c.args.a c.args.q c.args.x c.find-r.result.0 c.cell_get-c.result c.requires.2.search c.find-r.ensures c.cell_get-c.ensures.is _ c.mark_get.result refl c.mark_get.ensures.is c.if-mark_get-ne0.true, same_searched)

pub explore-requires : goal.explore-requires
explore-requires c = (c.requires.0, c.requires.1, record { fits = c.requires.2.fits; search = c.requires.2.search; app = visit_app (log_of c.args.used c.args.w.now) (pos_of c.args.w.now) (cells_of c.args.w.now) (marks_of c.args.w.now) (stack_of c.args.w.now) (dones_of c.args.w.now) c.args.a c.args.q c.args.x c.find-r.result.0 c.cell_get-c.result c.requires.2.search c.find-r.ensures c.cell_get-c.ensures.is c.requires.2.fits.apps c.if-c-ne2.false; new = sym c.mark_get.ensures.is ∙ c.if-mark_get-ne0.false })

pub returns : goal.returns
returns c = (visit_explored (log_of c.args.used c.args.w.now) (pos_of c.args.w.now) (cells_of c.args.w.now) (marks_of c.args.w.now) (stack_of c.args.w.now) (dones_of c.args.w.now) c.args.a c.args.q c.args.x c.find-r.result.0 c.cell_get-c.result c.requires.2.search c.find-r.ensures c.cell_get-c.ensures.is _ refl _ _ _ c.explore.result c.explore.ensures.0, c.explore.ensures.1)
