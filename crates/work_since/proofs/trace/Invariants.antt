use Prim.Native.Nat.{◌≤◌}
use Rattle.work_tables.specs.Tables.{cells_of, vars_of, pos_of, log_of, marks_of, stack_of, dones_of, Laid, Searched}
use Rattle.solve_explores.specs.Search.{Search}
use Rattle.solve_explores.specs.Since.{Traced}
use Rattle.work_since.proofs.trace.Given as goal

abbrev pub invariant-loop-i : goal.invariant-loop-i
invariant-loop-i l = Laid l.w × Searched l.initial.w l.w × Search (log_of l.used l.initial.w) (pos_of l.initial.w) (cells_of l.initial.w) (marks_of l.w) (stack_of l.w) (dones_of l.w) l.a 0 l.q × Traced (cells_of l.initial.w) (vars_of l.initial.w) (marks_of l.w) l.from l.i × (l.from ≤ l.i) × (l.i ≤ l.n)
