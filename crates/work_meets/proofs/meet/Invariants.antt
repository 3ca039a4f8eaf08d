use Prim.Native.Nat.{◌-◌}
use lib.ListN.{length}
use Rattle.work_tables.specs.Tables.{cells_of, vars_of, olds_of, log_of, Laid, Moved}
use Rattle.solve_tells.proofs.Meeting.{Meets}
use Rattle.work_meets.proofs.meet.Given as goal

abbrev pub invariant-loop-v : goal.invariant-loop-v
invariant-loop-v l = Laid l.w × Moved l.initial.w l.w × Meets (log_of l.used l.initial.w) (cells_of l.initial.w) (vars_of l.initial.w) (olds_of l.initial.w) l.n l.p l.q (cells_of l.w) (vars_of l.w) (olds_of l.w) l.k l.i

abbrev pub decreases-loop-v : goal.decreases-loop-v
decreases-loop-v l = length (log_of l.used l.initial.w) - l.i
