use Rattle.work_cells.specs.Saves.{Undoing}
use Rattle.work_cells.proofs.undo.Given as goal

abbrev pub invariant-loop-i : goal.invariant-loop-i
invariant-loop-i l = Undoing l.initial.w l.n l.m l.w l.i
