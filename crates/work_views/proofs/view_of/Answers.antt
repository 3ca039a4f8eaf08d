-- The laws are those of `solve_quiet`, at the tables of the slice. Assumes nothing.
use native.Mathlib.Omega.{arith}
use lib.ListN.{length}
use Rattle.work_tables.specs.Tables.{cells_of, pos_of, length_pos}
use Rattle.solve_classes.proofs.Linking.{apps_at_lem}
use Rattle.solve_quiet.proofs.Viewing.{view_free, view_term}
use Rattle.work_views.proofs.view_of.Goals as goal

pub find-r-requires : goal.find-r-requires
find-r-requires c = (c.requires.0, record { up = c.requires.1.up; inside = c.requires.1.inside })

pub cell_get-c-requires : goal.cell_get-c-requires
cell_get-c-requires c = record { laid = c.requires.0; inside = omega (arith, c.find-r.ensures.inside, c.requires.1.up.size) }

pub returns-then-c-ne2 : goal.returns-then-c-ne2
returns-then-c-ne2 c = view_free (pos_of c.args.w.now) (cells_of c.args.w.now) c.requires.1.up c.args.x.0 c.find-r.result.0 c.cell_get-c.result c.find-r.ensures c.cell_get-c.ensures.is c.if-c-ne2.true

pub pos_get-p-requires : goal.pos_get-p-requires
pos_get-p-requires c = record { laid = c.requires.0; inside = omega (arith, apps_at_lem (cells_of c.args.w.now) (length (pos_of c.args.w.now)) c.requires.1.apps c.find-r.result.0 (omega (arith, c.cell_get-c.ensures.is)), c.cell_get-c.ensures.is, length_pos c.requires.0) }

pub returns : goal.returns
returns c = view_term (pos_of c.args.w.now) (cells_of c.args.w.now) c.requires.1.up c.args.x.0 c.find-r.result.0 c.cell_get-c.result c.find-r.ensures c.cell_get-c.ensures.is c.pos_get-p.result c.if-c-ne2.false c.pos_get-p.ensures.is
