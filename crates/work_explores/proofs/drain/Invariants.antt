use lib.ListN.{length}
use Rattle.work_tables.specs.Tables.{cells_of, pos_of, log_of, marks_of, stack_of, dones_of, Laid, Searched}
use Rattle.solve_explores.specs.Search.{Search, Marked, left}
use Rattle.work_explores.proofs.drain.Given as goal

abbrev pub invariant-loop-h : goal.invariant-loop-h
invariant-loop-h l = Laid l.w × Searched l.initial.w l.w × Marked (marks_of l.initial.w) (marks_of l.w) × Search (log_of l.used l.initial.w) (pos_of l.initial.w) (cells_of l.initial.w) (marks_of l.w) (stack_of l.w) (dones_of l.w) l.a l.h l.clock

abbrev pub decreases-loop-h : goal.decreases-loop-h
decreases-loop-h l = left (length (log_of l.used l.initial.w)) (marks_of l.w) (dones_of l.w) l.a l.h
