-- The law is that of `solve_quiet`, at the tables of the slice. Assumes nothing.
use Rattle.work_tables.specs.Tables.{cells_of, pos_of, log_of}
use Rattle.solve_quiet.proofs.Verdict.{solved}
use Rattle.work_quiet.proofs.satisfiable.Goals as goal

pub acyclic-requires : goal.acyclic-requires
acyclic-requires c = c.requires

pub returns : goal.returns
returns c = (solved (log_of c.args.used c.args.w.now) (pos_of c.args.w.now) (cells_of c.args.w.now) c.acyclic.result c.requires.2.fits.look.up c.acyclic.ensures.0, c.acyclic.ensures.1)
