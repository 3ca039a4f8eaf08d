use Prim.Native.Nat.{◌-◌}
use lib.ListN.{length}
use Rattle.work_tables.specs.Tables.{cells_of, vars_of, olds_of, pos_of, log_of, Laid, Moved}
use Rattle.solve_tells.proofs.Settling.{Settles}
use Rattle.work_unify.proofs.settle.Given as goal

abbrev pub invariant-loop-i : goal.invariant-loop-i
invariant-loop-i l = Laid l.w × Moved l.initial.w l.w × Settles (log_of l.used l.initial.w) (pos_of l.initial.w) (cells_of l.initial.w) (vars_of l.initial.w) (olds_of l.initial.w) l.from l.n (cells_of l.w) (vars_of l.w) (olds_of l.w) l.i l.m

abbrev pub decreases-loop-i : goal.decreases-loop-i
decreases-loop-i l = length (vars_of l.initial.w) - l.i
