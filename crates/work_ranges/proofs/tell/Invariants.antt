use Prim.Native.Nat.{◌≤◌}
use Rattle.work_tells.specs.Positions.{Before}
use Rattle.work_tables.specs.Tables.{cells_of, vars_of, olds_of, pos_of, log_of, Laid, Noted}
use Rattle.solve_tells.specs.Tells.{range_of, apps_in, Done}
use Rattle.work_ranges.proofs.tell.Given as goal

abbrev pub invariant-loop-i : goal.invariant-loop-i
invariant-loop-i l = Laid l.w × Noted l.initial.w l.w × ((l.from ≤ l.i) × (l.i ≤ l.to)) × Done (log_of l.used l.initial.w) (pos_of l.initial.w) (cells_of l.initial.w) (vars_of l.initial.w) (olds_of l.initial.w) l.n l.a (apps_in (log_of l.used l.initial.w) l.from l.i) (range_of (log_of l.used l.initial.w) l.from l.i) (pos_of l.w) (cells_of l.w) (vars_of l.w) (olds_of l.w) l.m l.k × Before l.a l.k l.i (pos_of l.w)
