-- The invariant: what is left to be taken back. Assumes nothing.
use native.Mathlib.Omega.{arith}
use Rattle.work_tables.specs.Tables.{length_var, length_old}
use Rattle.work_cells.specs.Saves.{undo_none, undo_one, undo_all}
use Rattle.work_cells.proofs.undo.Goals as goal

pub loop-i-init : goal.loop-i-init
loop-i-init c = undo_none c.requires.0 c.requires.1

pub var_get-x-requires : goal.var_get-x-requires
var_get-x-requires c = record { laid = c.loop-i.invariant.laid; inside = omega (arith, c.loop-i.invariant.high, c.requires.1.room_x, length_var c.requires.0) }

pub old_get-o-requires : goal.old_get-o-requires
old_get-o-requires c = record { laid = c.loop-i.invariant.laid; inside = omega (arith, c.loop-i.invariant.high, c.requires.1.room_c, length_old c.requires.0) }

pub cell_put-requires : goal.cell_put-requires
cell_put-requires c = record { laid = c.loop-i.invariant.laid; inside = c.var_get-x.ensures.small; small = c.old_get-o.ensures.small }

pub loop-i-preserved : goal.loop-i-preserved
loop-i-preserved c = undo_one (omega arith) c.loop-i.invariant c.var_get-x.ensures c.old_get-o.ensures c.cell_put.ensures

pub returns : goal.returns
returns c = undo_all (omega arith) c.loop-i.invariant
