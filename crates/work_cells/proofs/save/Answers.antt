-- Each table is written once, and the law puts the writes together. Assumes nothing.
use native.Mathlib.Omega.{arith}
use Rattle.work_tables.specs.Tables.{length_var, length_old, laid_after}
use Rattle.work_cells.specs.Saves.{saved_in}
use Rattle.work_cells.proofs.save.Goals as goal

pub cell_get-old-requires : goal.cell_get-old-requires
cell_get-old-requires c = record { laid = c.requires.0; inside = c.requires.1.var }

pub var_put-requires : goal.var_put-requires
var_put-requires c = record { laid = c.requires.0; inside = omega (arith, c.requires.1.room_x, length_var c.requires.0); small = c.requires.1.var }

pub old_put-requires : goal.old_put-requires
old_put-requires c = record { laid = laid_after c.requires.0 c.var_put.ensures.rest; inside = omega (arith, c.requires.1.room_c, length_old c.requires.0); small = c.cell_get-old.ensures.small }

pub cell_put-requires : goal.cell_put-requires
cell_put-requires c = record { laid = laid_after (laid_after c.requires.0 c.var_put.ensures.rest) c.old_put.ensures.rest; inside = c.requires.1.var; small = c.requires.1.cell }

pub returns : goal.returns
returns c = saved_in c.cell_get-old.ensures c.var_put.ensures c.old_put.ensures c.cell_put.ensures
