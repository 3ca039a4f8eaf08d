use mathlib.Core.Path.{◌≡◌}
use Prim.Native.Nat.{ℕ, ◌≤◌, ◌<◌}
use lib.ListN.{get_or}
use Rattle.work_tables.specs.Tables.{cells_of, pos_of, log_of, marks_of, stack_of, dones_of, Laid, Searched}
use Rattle.solve_explores.specs.Search.{Search}
use Rattle.work_cycles.proofs.sweep.Given as goal

abbrev pub invariant-loop-k : goal.invariant-loop-k
invariant-loop-k l = Laid l.w × Searched l.initial.w l.w × Search (log_of l.used l.initial.w) (pos_of l.initial.w) (cells_of l.initial.w) (marks_of l.w) (stack_of l.w) (dones_of l.w) l.a 0 l.q × ((i : ℕ) → i < l.k → get_or (marks_of l.w) i 0 ≡ 0 → ⊥) × (l.k ≤ l.a)
