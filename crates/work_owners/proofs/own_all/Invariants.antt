use Prim.Native.Nat.{◌≤◌}
use Rattle.work_tables.specs.Tables.{cells_of, vars_of, olds_of, locals_of, Laid, Moved}
use Rattle.solve_quiet.specs.Owners.{Owning}
use Rattle.work_owners.proofs.own_all.Given as goal

abbrev pub invariant-loop-i : goal.invariant-loop-i
invariant-loop-i l = Laid l.w × Moved l.initial.w l.w × ((l.from ≤ l.i) × (l.i ≤ l.n)) × Owning (locals_of l.initial.w) (cells_of l.initial.w) (vars_of l.initial.w) (olds_of l.initial.w) l.from l.n (cells_of l.w) (vars_of l.w) (olds_of l.w) l.i l.m
