-- The laws are those of `solve_tells`, at the tables of the slice. Assumes nothing.
use lib.ListN.{length}
use Rattle.work_tables.specs.Tables.{cells_of, vars_of, olds_of}
use Rattle.solve_tells.proofs.Trails.{vars_of_lem}
use Rattle.solve_tells.proofs.Telling.{back_tables}
use Rattle.work_ranges.proofs.back.Goals as goal

pub undo-requires : goal.undo-requires
undo-requires c = (c.requires.0, record { le = c.requires.1.le; room_x = c.requires.1.fit_x; room_c = c.requires.1.fit_c; vars = vars_of_lem (vars_of c.args.w.now) c.args.n c.args.m (length (cells_of c.args.w.now)) c.requires.1.vars })

pub returns : goal.returns
returns c = record { back = λ W P. back_tables W P (cells_of c.args.w.now) (vars_of c.args.w.now) (olds_of c.args.w.now) c.args.m c.args.n _ c.undo.ensures.cells; vars = c.undo.ensures.vars; olds = c.undo.ensures.olds; rest = c.undo.ensures.rest }
